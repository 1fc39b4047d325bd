-- How many pointers pairs are, and which pair a pointer is of, as a loop over the pairs tells.
use Prim.Native.Nat.{ℕ, zero, suc, ◌+◌, ◌*◌, ◌-◌, ◌≤◌, ◌<◌}
use mathlib.Core.Path.{◌≡◌, refl, sym, ap, ◌∙◌}
use mathlib.Core.Bool.{Bool, true, false, cond}
use mathlib.Core.List.{List, [], ◌∷◌, ◌++◌, map, flatten, append_assoc}
use native.Mathlib.Omega.{arith}
use native.Mathlib.Nat.{not-suc-le-zero}
use borrow.Author.Tests.{lt-ltb, le-ltb}
use lib.ListN.{length, get_or, drop, length-append}
use lib.Seq.{get_or-drop}
use Rattle.wire.specs.Word.{Bytes}
use Rattle.wire.proofs.Laws.{word_bound}
use Rattle.stackmap.specs.Section.{Record, num_locations}
use Rattle.moves.specs.Slots.{Slot}
use Rattle.moves.specs.Pointers.{Pointer, null}
use Rattle.moves.specs.Plan.{pair_of}
use Rattle.relocate.specs.declared.Cursor.{Cursor}
use Rattle.relocate.specs.Statepoint.{Pair, pairs, is_null, pointers_in, slot_at, next, pointers_from, pointers_of}
use Rattle.relocate.specs.Code.{pair_number, pointers_by, count_of, total_of}
use Rattle.relocate.proofs.Pairing.{no_pair, pair-at}
use Rattle.relocate_pairs.proofs.Held.{append-nil}

-- the pairs from number p on
drop-cons : (ps : List Pair) (p : ℕ) → p < length ps → drop p ps ≡ get_or ps p no_pair ∷ drop (p + 1) ps
drop-cons [] p h = absurd (not-suc-le-zero h)
drop-cons (q ∷ ps) zero h = refl
drop-cons (q ∷ ps) (suc p) h =
    let e : suc p + 1 ≡ suc (p + 1) = omega arith in
    rw e (drop-cons ps p (omega arith))

drop-none : (ps : List Pair) (p : ℕ) → length ps ≤ p → drop p ps ≡ []
drop-none [] zero h = refl
drop-none [] (suc p) h = refl
drop-none (q ∷ ps) zero h = absurd (not-suc-le-zero h)
drop-none (q ∷ ps) (suc p) h = drop-none ps p (omega arith)

pub next-pair : (r : Record) (p : ℕ) → p < length (pairs r) → drop p (pairs r) ≡ pair_number r p ∷ drop (p + 1) (pairs r)
next-pair r p h = drop-cons (pairs r) p h ∙ rw (pair-at r p h)

-- a record's locations are counted in two bytes
pub locations-most : (s : List ℕ) (at : ℕ) → Bytes s → num_locations (drop at s) < 65536
locations-most s at w = omega (arith, word_bound 2 (drop at s) 14 (record { below = λ i. rw get_or-drop (w.below (at + i)) }))

-- A sum over the pairs, as it grows; no pair adds over 8,192.

pub record Counting (g : Pair → ℕ) (r : Record) (sum p : ℕ) : Type 0 where
  pub same : sum + total_of g (drop p (pairs r)) ≡ total_of g (pairs r)
  pub few : sum ≤ 8192 * p

module _ (g : Pair → ℕ) (r : Record) where
  pub count-start : Counting g r 0 0
  count-start = record { same = omega arith; few = omega arith }

  pub count_on : (sum p c : ℕ) → Counting g r sum p → p < length (pairs r) → c ≡ g (pair_number r p) → c ≤ 8192 → Counting g r (sum + c) (p + 1)
  count_on sum p c k h e l =
      let s : sum + total_of g (pair_number r p ∷ drop (p + 1) (pairs r)) ≡ total_of g (pairs r) = rw (next-pair r p h) at k.same in
      record { same = omega (arith, s); few = omega (arith, k.few) }

  pub count-end : (sum p : ℕ) → Counting g r sum p → length (pairs r) ≤ p → sum ≡ total_of g (pairs r)
  count-end sum p k h =
      let s : sum + total_of g [] ≡ total_of g (pairs r) = rw (drop-none (pairs r) p h) at k.same in
      omega (arith, s)

-- the pointers of a pair are as many as are counted
run_length : (n : ℕ) (b d : Slot) → length (pointers_from n b d) ≡ n
run_length zero b d = refl
run_length (suc n) b d = ap suc (run_length n (next b) (next d))

module _ (old : Bool) (pool : List ℕ) (f : Cursor) where
  pub pair-length : (p : Pair) → length (pointers_of old pool f p) ≡ count_of old pool p
  unfolding pointers_of count_of
  pair-length p = go (is_null pool p)
    where
      k : ℕ
      k = pointers_in old p.base.size

      go : (t : Bool) → length (cond t (null ∷ []) (pointers_from k (slot_at f p.base) (slot_at f p.derived))) ≡ cond t 1 k
      go true = refl
      go false = run_length k (slot_at f p.base) (slot_at f p.derived)

  total-length : (ps : List Pair) → length (flatten (map (pointers_of old pool f) ps)) ≡ total_of (count_of old pool) ps
  unfolding flatten
  total-length [] = refl
  total-length (p ∷ ps) =
      length-append (pointers_of old pool f p) (flatten (map (pointers_of old pool f) ps)) ∙ rw (pair-length p, total-length ps)

  pub pointers_length : (r : Record) → length (flatten (pointers_by old pool f r)) ≡ total_of (count_of old pool) (pairs r)
  pointers_length r = total-length (pairs r)

-- The pair that a pointer is of.

module _ (old : Bool) (pool : List ℕ) (f : Cursor) (r : Record) (pointer : ℕ) where
  abbrev rest : ℕ → List (List Pointer)
  rest p = map (pointers_of old pool f) (drop p (pairs r))

  pub record Seeking (left p : ℕ) : Type 0 where
    pub same : p + pair_of (rest p) left ≡ pair_of (pointers_by old pool f r) pointer

  pub seek_start : Seeking pointer 0
  seek_start = record { same = omega arith }

  module _ (left p n : ℕ) (k : Seeking left p) (h : p < length (pairs r)) (e : n ≡ count_of old pool (pair_number r p)) where
    long : length (pointers_of old pool f (pair_number r p)) ≡ n
    long = pair-length old pool f (pair_number r p) ∙ sym e

    here : p + pair_of (pointers_of old pool f (pair_number r p) ∷ rest (p + 1)) left ≡ pair_of (pointers_by old pool f r) pointer
    here = rw (next-pair r p h) at k.same

    pub seek_hit : left < n → p ≡ pair_of (pointers_by old pool f r) pointer
    unfolding pair_of
    seek_hit l = let z : p + 0 ≡ p = omega arith in sym z ∙ (rw (long, lt-ltb left n l) at here)

    pub seek_on : n ≤ left → Seeking (left - n) (p + 1)
    unfolding pair_of
    seek_on l =
        let z : p + suc (pair_of (rest (p + 1)) (left - n)) ≡ pair_of (pointers_by old pool f r) pointer = rw (long, le-ltb left n l) at here in
        record { same = omega (arith, z) }

  pub seek_end : (left p : ℕ) → Seeking left p → length (pairs r) ≤ p → p ≡ pair_of (pointers_by old pool f r) pointer
  unfolding pair_of
  seek_end left p k h =
      let z : p + 0 ≡ pair_of (pointers_by old pool f r) pointer = rw (drop-none (pairs r) p h) at k.same in
      omega (arith, z)

-- The pointers that the arrays hold and those that are ahead are all pointers.

module _ (old : Bool) (pool : List ℕ) (f : Cursor) (r : Record) where
  pub record Filling (held : List Pointer) (p : ℕ) : Type 0 where
    pub same : held ++ flatten (map (pointers_of old pool f) (drop p (pairs r))) ≡ flatten (pointers_by old pool f r)

  pub fill_start : Filling [] 0
  fill_start = record { same = refl }

  pub fill_long : (held : List Pointer) (p : ℕ) → Filling held p → p < length (pairs r)
      → length held + count_of old pool (pair_number r p) ≤ length (flatten (pointers_by old pool f r))
  unfolding flatten
  fill_long held p k h =
      let g = pointers_of old pool f in
      let z : length (held ++ (g (pair_number r p) ++ flatten (map g (drop (p + 1) (pairs r))))) ≡ length (flatten (pointers_by old pool f r)) =
      ap length (rw (next-pair r p h) at k.same) in
      let y = length-append held (g (pair_number r p) ++ flatten (map g (drop (p + 1) (pairs r)))) in
      let x = length-append (g (pair_number r p)) (flatten (map g (drop (p + 1) (pairs r)))) in
      omega (arith, z, y, x, pair-length old pool f (pair_number r p))

  pub fill_on : (held held' : List Pointer) (p : ℕ) → Filling held p → p < length (pairs r)
      → held' ≡ held ++ pointers_of old pool f (pair_number r p) → Filling held' (p + 1)
  unfolding flatten
  fill_on held held' p k h e =
      let g = pointers_of old pool f in
      let z : held ++ (g (pair_number r p) ++ flatten (map g (drop (p + 1) (pairs r)))) ≡ flatten (pointers_by old pool f r) = rw (next-pair r p h) at k.same in
      record { same = rw e (append_assoc held (g (pair_number r p)) (flatten (map g (drop (p + 1) (pairs r)))) ∙ z) }

  pub fill_end : (held : List Pointer) (p : ℕ) → Filling held p → length (pairs r) ≤ p → held ≡ flatten (pointers_by old pool f r)
  unfolding flatten
  fill_end held p k h =
      let z : held ++ [] ≡ flatten (pointers_by old pool f r) = rw (drop-none (pairs r) p h) at k.same in
      sym (append-nil held) ∙ z
