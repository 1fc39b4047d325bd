-- Stretches that are listed, put in order, and clear of their neighbours, are apart.
use Prim.Native.Nat.{ℕ, zero, suc, ◌+◌, ◌-◌, ◌^◌, ◌≤◌, ◌<◌}
use mathlib.Core.Path.{◌≡◌, sym, ap, ◌∙◌}
use mathlib.Core.Bool.{false}
use mathlib.Core.List.{List}
use native.Mathlib.Omega.{arith}
use native.Mathlib.Decide.{dec_lt}
use lib.ListN.{get_or}
use Rattle.sorted_pairs.specs.Pairs.{first_at, second_at, rank_at, Reordered, Stepped}
use Rattle.thread.specs.Thread.{share}
use Rattle.thread.proofs.StretchesApart.{share-empty, share_empty_2, share-above, share-below}
use Rattle.thread_stretches.specs.Listed.{PairOf, Listed, Clear, AllApart}

-- No stretch yet.

pub listed-none : (from to : ℕ → ℕ) (pairs ends : List ℕ) → Listed from to 0 0 pairs ends
listed-none from to pairs ends = record { ended = λ j h. absurd (omega arith); listed = λ j h e. absurd (omega arith) }

-- The neighbours.

pub clear-start : (pairs : List ℕ) (n : ℕ) (ends : List ℕ) → n ≤ 1 → Clear pairs n ends
clear-start pairs n ends l = record { clear = λ i h. absurd (omega arith) }

pub clear_on : {pairs : List ℕ} {n : ℕ} {ends : List ℕ} (i : ℕ) → Clear pairs n ends → i + 1 ≡ n → get_or ends (second_at pairs i) 0 ≤ first_at pairs n
    → Clear pairs (n + 1) ends
clear_on {pairs} {n} {ends} i c e h = record { clear = λ j l. go j l (dec_lt (j + 1) n) }
  where
    go : (j : ℕ) → j + 1 < n + 1 → Dec (j + 1 < n) → get_or ends (second_at pairs j) 0 ≤ first_at pairs (j + 1)
    go j l (yes d) = c.clear j d
    go j l (no d) =
        let z : j ≡ i = omega arith in
        let y : j + 1 ≡ n = omega arith in
        rw y (rw z h)

pub clear_fewer : {pairs : List ℕ} {m : ℕ} {ends : List ℕ} (n : ℕ) → n ≤ m → Clear pairs m ends → Clear pairs n ends
clear_fewer n l c = record { clear = λ i h. c.clear i (omega arith) }

-- In order and clear, they are apart.

climb : (xs : List ℕ) (n : ℕ) → Stepped xs 1 n → (i d : ℕ) → i + d < n → rank_at xs i ≤ rank_at xs (i + d)
climb xs n r i zero k = let z : i + 0 ≡ i = omega arith in rw z (omega arith)
climb xs n r i (suc d) k =
    let h = climb xs n r i d (omega arith) in
    let o = r.order (i + d) (omega arith) in
    let z : i + suc d ≡ i + d + 1 = omega arith in
    rw z (omega arith)

firsts_climb : (xs : List ℕ) (n : ℕ) → Stepped xs 1 n → (i j : ℕ) → i ≤ j → j < n → second_at xs j < 18446744073709551616 → first_at xs i ≤ first_at xs j
firsts_climb xs n r i j l m b =
    let z : i + (j - i) ≡ j = omega arith in
    let h : rank_at xs i ≤ rank_at xs j = rw z at (climb xs n r i (j - i) (omega arith)) in
    omega arith

module _ (from to : ℕ → ℕ) (k n : ℕ) (before after ends : List ℕ) (small : k < 2 ^ 64) (o : Listed from to k n before ends)
    (r : Reordered before after n) (s : Stepped after 1 n) (c : Clear after n ends) where
  moved-pair : (a b : ℕ) → PairOf before n a b → PairOf after n a b
  moved-pair a b p =
      let q = r.kept p.place p.inside in
      record { place = q.place; inside = q.inside; firsts = q.same.firsts ∙ p.firsts; seconds = q.same.seconds ∙ p.seconds }

  -- that of the lower place ends before the other begins
  ends-first : (a b : ℕ) → a < k → b < k → (p : PairOf after n (from a) a) (q : PairOf after n (from b) b) → p.place < q.place → to a ≤ from b
  ends-first a b l m p q h =
      let e : get_or ends (second_at after p.place) 0 ≡ to a = rw p.seconds (o.ended a l) in
      let f = c.clear p.place (omega (arith, q.inside)) in
      let g = firsts_climb after n s (p.place + 1) q.place (omega arith) q.inside (omega (arith, q.seconds)) in
      omega (arith, q.firsts)

  two : (a b : ℕ) → a < k → b < k → (a ≡ b → ⊥) → Dec (from a < to a) → Dec (from b < to b) → share (from a) (to a) (from b) (to b) ≡ false
  two a b l m d (no e) f = share-empty (from a) (to a) (from b) (to b) (omega arith)
  two a b l m d (yes e) (no f) = share_empty_2 (from a) (to a) (from b) (to b) (omega arith)
  two a b l m d (yes e) (yes f) =
      let p = moved-pair (from a) a (o.listed a l e) in
      let q = moved-pair (from b) b (o.listed b m f) in
      go p q (dec_lt p.place q.place) (dec_lt q.place p.place)
    where
      go : (p : PairOf after n (from a) a) (q : PairOf after n (from b) b) → Dec (p.place < q.place) → Dec (q.place < p.place)
          → share (from a) (to a) (from b) (to b) ≡ false
      go p q (yes x) y = share-below (from a) (to a) (from b) (to b) (ends-first a b l m p q x)
      go p q (no x) (yes y) = share-above (from a) (to a) (from b) (to b) (ends-first b a m l q p y)
      go p q (no x) (no y) =
          let z : p.place ≡ q.place = omega arith in
          absurd (d (sym p.seconds ∙ ap (second_at after) z ∙ q.seconds))

  pub all_apart : AllApart from to k
  all_apart = record { apart = λ a b l m d. two a b l m d (dec_lt (from a) (to a)) (dec_lt (from b) (to b)) }
