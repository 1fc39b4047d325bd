-- Steps of the loops that fill an array, search it and put its words.
use Prim.Native.Nat.{ℕ, suc, ◌+◌, ◌-◌, ◌%◌, ◌^◌, ◌≤◌, ◌<◌}
use mathlib.Core.Path.{◌≡◌, refl, sym, ap, ◌∙◌}
use mathlib.Core.Bool.{Bool, true, false, true≢false}
use mathlib.Core.Option.{Option, none, some}
use mathlib.Core.List.{List}
use native.Mathlib.Omega.{arith}
use native.Mathlib.Decide.{dec_lt}
use borrow.Author.Tests.{eq-eqb, ne_eqb, eqb-true}
use lib.Dec.{eqb}
use lib.ListN.{length, get_or, set}
use lib.Seq.{get_or-set_same, get_or-set_other}
use Rattle.moves.specs.Search.{lowest_from}
use Rattle.moves.specs.Slots.{State, read, put}
use Rattle.moves.specs.Pointers.{is_none, new_derived}
use Rattle.moves.specs.Arrays.{slot_of, Filled, unknown_at, first_unknown, content_of, renewed, RenewsOne, Renews, put_one, puts}
use Rattle.moves.proofs.Searches.{low-start, low_end, low-hit, low_step}

module _ (f : ℕ → ℕ) (live vs : List ℕ) where
  pub filled-start : Filled f live vs 0
  filled-start = record { at = λ k h l. absurd (omega arith) }

  pub filled_skip : (k : ℕ) → Filled f live vs k → get_or live k 0 ≡ 0 → Filled f live vs (k + 1)
  filled_skip k r e = record { at = λ j h l. go j h l (dec_lt j k) }
    where
      go : (j : ℕ) → j < k + 1 → (get_or live j 0 ≡ 0 → ⊥) → Dec (j < k) → get_or vs j 0 ≡ f j
      go j h l (yes a) = r.at j a l
      go j h l (no a) = let q : j ≡ k = omega arith in absurd (l (rw q e))

  pub filled-set : (k x : ℕ) → k < length vs → Filled f live vs k → x ≡ f k → Filled f live (set vs k x) (k + 1)
  filled-set k x b r e = record { at = λ j h l. go j h l (dec_lt j k) }
    where
      go : (j : ℕ) → j < k + 1 → (get_or live j 0 ≡ 0 → ⊥) → Dec (j < k) → get_or (set vs k x) j 0 ≡ f j
      go j h l (yes a) = get_or-set_other vs k j x 0 (λ q. omega arith) ∙ r.at j a l
      go j h l (no a) = let q : j ≡ k = omega arith in rw q (get_or-set_same vs k x 0 b ∙ e)

module _ (live ds cs : List ℕ) where
  pub puts_step : (n k : ℕ) (w : State) → k < n → puts live ds cs (n - k) k w ≡ puts live ds cs (n - (k + 1)) (k + 1) (put_one live ds cs k w)
  puts_step n k w h =
      let e : n - k ≡ suc (n - suc k) = omega arith in
      let g : k + 1 ≡ suc k = omega arith in
      rw (e, g)

  pub puts-end : (n k : ℕ) (w : State) → n ≤ k → puts live ds cs (n - k) k w ≡ w
  puts-end n k w h = let e : n - k ≡ 0 = omega arith in rw e

  pub puts-start : (n : ℕ) (w : State) → puts live ds cs (n - 0) 0 w ≡ puts live ds cs n 0 w
  puts-start n w = let e : n - 0 ≡ n = omega arith in rw e

  pub put-null : (k : ℕ) (w : State) → get_or live k 0 ≡ 0 → put_one live ds cs k w ≡ w
  unfolding put_one
  put-null k w e = rw (eq-eqb (get_or live k 0) 0 e)

  pub put-live : (k : ℕ) (w : State) → (get_or live k 0 ≡ 0 → ⊥) → put_one live ds cs k w ≡ put w (slot_of (get_or ds k 0)) (get_or cs k 0)
  unfolding put_one
  put-live k w e = rw (ne_eqb (get_or live k 0) 0 e)

module _ (table : ℕ → Option ℕ) (live vs : List ℕ) where
  pub unknown-null : (p : ℕ) → get_or live p 0 ≡ 0 → false ≡ unknown_at table live vs p
  unfolding unknown_at
  unknown-null p e = rw (eq-eqb (get_or live p 0) 0 e)

  pub unknown-live : (p : ℕ) (o : Option ℕ) → (get_or live p 0 ≡ 0 → ⊥) → o ≡ table (get_or vs p 0) → is_none o ≡ unknown_at table live vs p
  unfolding unknown_at
  unknown-live p o n e = rw (ne_eqb (get_or live p 0) 0 n, ← e)

  pub unknown-start : (n : ℕ) → lowest_from (unknown_at table live vs) (n - 0) 0 ≡ first_unknown table live vs n
  unfolding first_unknown
  unknown-start n = low-start (unknown_at table live vs) n

-- the code's two wrapping operations make the new content
wrap : (d o v : ℕ) → v < 2 ^ 64 → (d + (o + (2 ^ 64 - v)) % 2 ^ 64) % 2 ^ 64 ≡ (d + o + (2 ^ 64 - v)) % 2 ^ 64
wrap d o v a = omega arith

moved-is : (table : ℕ → Option ℕ) (d v n : ℕ) → v < 2 ^ 64 → table v ≡ some n → (d + (n + (2 ^ 64 - v)) % 2 ^ 64) % 2 ^ 64 ≡ new_derived table d v
unfolding new_derived
moved-is table d v n a e = wrap d n v a ∙ rw e

pub content-new : (table : ℕ → Option ℕ) (d v n : ℕ) → v < 2 ^ 64 → table v ≡ some n
    → some ((d + (n + (2 ^ 64 - v)) % 2 ^ 64) % 2 ^ 64) ≡ content_of table d v
unfolding content_of
content-new table d v n a e = ap some (moved-is table d v n a e) ∙ (let h : is_none (table v) ≡ false = rw e in rw h)

pub content-unknown : (table : ℕ → Option ℕ) (d v : ℕ) → table v ≡ none → none ≡ content_of table d v
unfolding content_of
content-unknown table d v e = let h : is_none (table v) ≡ true = rw e in rw h

pub put_turn : (live ds cs : List ℕ) (n k : ℕ) (w w' W : State) → k < n → w' ≡ put_one live ds cs k w
    → puts live ds cs (n - k) k w ≡ W → puts live ds cs (n - (k + 1)) (k + 1) w' ≡ W
put_turn live ds cs n k w w' W h e q = rw e (sym (puts_step live ds cs n k w h) ∙ q)

-- One pair's new content in place of its old base, and all of them, one after the other.
module _ (table : ℕ → Option ℕ) (w : State) (live ds vs : List ℕ) where
  pub renew_null : (k : ℕ) → get_or live k 0 ≡ 0 → RenewsOne table w live ds vs k false vs
  renew_null k e = record { answer = unknown-null table live vs k e; left = λ r. rw (eq-eqb (get_or live k 0) 0 e) }

  -- by what the table's search gives for the pair
  known : (b d x : ℕ) → some x ≡ content_of table d b → (is_none (table b) ≡ false) × (x ≡ new_derived table d b)
  unfolding content_of
  known b d x e = go (is_none (table b)) refl
    where
      go : (t : Bool) → is_none (table b) ≡ t → (is_none (table b) ≡ false) × (x ≡ new_derived table d b)
      go true h = absurd (let z : some x ≡ none = e ∙ rw h in let y : ◌≡◌ {A = ℕ} 0 1 = cc in omega arith)
      go false h = (h, let z : some x ≡ some (new_derived table d b) = e ∙ rw h in cc)

  not_known : (b d : ℕ) → none ≡ content_of table d b → is_none (table b) ≡ true
  unfolding content_of
  not_known b d e = go (is_none (table b)) refl
    where
      go : (t : Bool) → is_none (table b) ≡ t → is_none (table b) ≡ true
      go true h = h
      go false h = absurd (let z : some (new_derived table d b) ≡ none = sym (e ∙ rw h) in let y : ◌≡◌ {A = ℕ} 0 1 = cc in omega arith)

  pub renew_new : (k x : ℕ) → (get_or live k 0 ≡ 0 → ⊥) → some x ≡ content_of table (read w (slot_of (get_or ds k 0))) (get_or vs k 0)
      → RenewsOne table w live ds vs k false (set vs k x)
  unfolding unknown_at
  renew_new k x n e =
      let o = known (get_or vs k 0) (read w (slot_of (get_or ds k 0))) x e in
      record { answer = rw (ne_eqb (get_or live k 0) 0 n, o.0); left = λ r. rw (ne_eqb (get_or live k 0) 0 n, o.1) }

  pub renew_unknown : (k : ℕ) (after : List ℕ) → (get_or live k 0 ≡ 0 → ⊥) → none ≡ content_of table (read w (slot_of (get_or ds k 0))) (get_or vs k 0)
      → RenewsOne table w live ds vs k true after
  unfolding unknown_at
  renew_unknown k after n e =
      record {
        answer = rw (ne_eqb (get_or live k 0) 0 n, not_known (get_or vs k 0) (read w (slot_of (get_or ds k 0))) e);
        left = λ r. absurd (true≢false r);
      }

  -- what the loop over the pairs goes by: those before k have their new contents, and the others are as they were
  pub record Renewing (n k : ℕ) (cur : List ℕ) : Type 0 where
    pub lowest-is : lowest_from (unknown_at table live vs) (n - k) k ≡ first_unknown table live vs n
    pub before : Filled (renewed table w ds vs) live cur k
    pub after : (j : ℕ) → k ≤ j → get_or cur j 0 ≡ get_or vs j 0

  pub renewing_start : (n : ℕ) → Renewing n 0 vs
  renewing_start n =
      record { lowest-is = unknown-start table live vs n; before = filled-start (renewed table w ds vs) live vs; after = λ j h. refl }

  -- the pair in a list of which this one is as it was
  unknown-here : (k : ℕ) (cur : List ℕ) → get_or cur k 0 ≡ get_or vs k 0 → unknown_at table live cur k ≡ unknown_at table live vs k
  unfolding unknown_at
  unknown-here k cur e = rw e

  pub renewing_stop : (n k : ℕ) (cur after : List ℕ) (r : Bool) → k < n → Renewing n k cur → RenewsOne table w live ds cur k r after → r ≡ true
      → k ≡ first_unknown table live vs n
  renewing_stop n k cur after r h i o e =
      sym (low-hit (unknown_at table live vs) n k h (sym (unknown-here k cur (i.after k (omega arith))) ∙ sym o.answer ∙ e)) ∙ i.lowest-is

  pub renewing_step : (n k : ℕ) (cur after : List ℕ) (r : Bool) → k < n → k < length cur → Renewing n k cur → RenewsOne table w live ds cur k r after → r ≡ false
      → Renewing n (k + 1) after
  renewing_step n k cur after r h l i o e = go (eqb (get_or live k 0) 0) refl
    where
      here : get_or cur k 0 ≡ get_or vs k 0
      here = i.after k (omega arith)

      low : lowest_from (unknown_at table live vs) (n - (k + 1)) (k + 1) ≡ first_unknown table live vs n
      low = sym (low_step (unknown_at table live vs) n k h (sym (unknown-here k cur here) ∙ sym o.answer ∙ e)) ∙ i.lowest-is

      go : (t : Bool) → eqb (get_or live k 0) 0 ≡ t → Renewing n (k + 1) after
      go true q =
          let a : after ≡ cur = o.left e ∙ rw q in
          rw a (record {
            lowest-is = low;
            before = filled_skip (renewed table w ds vs) live cur k i.before (eqb-true _ _ q);
            after = λ j p. i.after j (omega arith);
          })
      go false q =
          let a : after ≡ set cur k (renewed table w ds cur k) = o.left e ∙ rw q in
          rw a (record {
            lowest-is = low;
            before = filled-set (renewed table w ds vs) live cur k _ l i.before (rw here);
            after = λ j p. get_or-set_other cur k j _ 0 (λ z. omega arith) ∙ i.after j (omega arith);
          })

  pub renewing_end : (n k : ℕ) (cur : List ℕ) → k ≡ n → Renewing n k cur → Renews table w live ds vs n k cur
  renewing_end n k cur e i =
      record {
        answer = sym (low_end (unknown_at table live vs) n k (omega arith)) ∙ i.lowest-is;
        left = λ h. rw e at i.before;
      }
