-- What the lowest index tells, and slots as numbers.
use Prim.Native.Nat.{ℕ, zero, suc, ◌+◌, ◌*◌, ◌-◌, ◌≤◌, ◌<◌}
use mathlib.Core.Path.{◌≡◌, refl, sym, ap, ◌∙◌}
use mathlib.Core.Bool.{Bool, true, false, cond, not, ◌||◌, true≢false}
use mathlib.Core.Option.{Option, none, some}
use mathlib.Core.List.{List}
use native.Mathlib.Omega.{arith}
use native.Mathlib.Decide.{dec_lt}
use Rattle.std.proofs.Common.{add-one, Some, None}
use Rattle.std.specs.List.{list_any, range_with_len, position_or_len}
use Rattle.std.specs.Option.{unwrap_or}
use Rattle.std.specs.Prelude as Std
use Rattle.std.proofs.lemmas.List.FromFn.{length-range_with_len}
use borrow.Author.Tests.{lt-ltb, le-ltb, le-leb, lt-leb, eq-eqb, ne_eqb}
use lib.Dec.{eqb, ltb}
use lib.ListN.{length, get_or}
use Rattle.moves.specs.Search.{lowest_from, lowest}
use Rattle.moves.specs.Slots.{memory, register, State}
use Rattle.moves.specs.Pointers.{Pointer, or_zero}
use Rattle.moves.specs.Plan.{pair_of}
use Rattle.moves.specs.Arrays.{registers_from}
use Rattle.explain.specs.declared.Reason.TheVariants.{Unlisted, OnlyBase, NullBase, Moved}
use Rattle.explain_pointers.specs.Told.{number_of, named_at, base_at, moves_at, told_of}

-- A search through a range of indices is that for the lowest one.

any-range : (t : ℕ → Bool) (k i : ℕ) → list_any t (range_with_len i k) ≡ ltb (lowest_from t k i) (i + k)
any-range t zero i = sym (le-ltb i (i + 0) (omega arith))
any-range t (suc k) i = go (any-range t k (suc i) ∙ ap (ltb (lowest_from t k (suc i))) (omega arith)) (t i)
  where
    go : list_any t (range_with_len (suc i) k) ≡ ltb (lowest_from t k (suc i)) (i + suc k)
        → (b : Bool) → (b || list_any t (range_with_len (i + 1) k)) ≡ ltb (cond b i (lowest_from t k (suc i))) (i + suc k)
    go rest true = sym (lt-ltb i (i + suc k) (omega arith))
    go rest false = rw add-one rest

pub any_below-n : (t : ℕ → Bool) (n : ℕ) → list_any t (range_with_len 0 n) ≡ ltb (lowest t n) n
unfolding lowest
any_below-n t n = any-range t n 0 ∙ ap (ltb (lowest_from t n 0)) (omega arith)

position-range : (t : ℕ → Bool) (k i : ℕ) → i + position_or_len t (range_with_len i k) ≡ lowest_from t k i
position-range t zero i = omega arith
position-range t (suc k) i = go (position-range t k (suc i)) (t i)
  where
    go : suc i + position_or_len t (range_with_len (suc i) k) ≡ lowest_from t k (suc i)
        → (b : Bool) → i + cond (not b) (1 + position_or_len t (range_with_len (i + 1) k)) 0 ≡ cond b i (lowest_from t k (suc i))
    go rest true = omega arith
    go rest false = rw add-one (omega (arith, rest))

low-most : (t : ℕ → Bool) (k i : ℕ) → lowest_from t k i ≤ i + k
low-most t zero i = omega arith
low-most t (suc k) i = go (low-most t k (suc i)) (t i)
  where
    go : lowest_from t k (suc i) ≤ suc i + k → (b : Bool) → cond b i (lowest_from t k (suc i)) ≤ i + suc k
    go rest true = omega arith
    go rest false = omega arith

or_all : (p n : ℕ) → p ≤ n → unwrap_or (cond (ltb p n) (Some p) None) n ≡ p
or_all p n h = go (dec_lt p n)
  where
    go : Dec (p < n) → unwrap_or (cond (ltb p n) (Some p) None) n ≡ p
    go (yes l) = rw (lt-ltb p n l)
    go (no l) = rw (le-ltb p n (omega arith)) (omega arith)

pub position_below-n : (t : ℕ → Bool) (n : ℕ) (r : Std.Option ℕ)
    → r ≡ cond (ltb (position_or_len t (range_with_len 0 n)) (length (range_with_len 0 n))) (Some (position_or_len t (range_with_len 0 n))) None
    → unwrap_or r n ≡ lowest t n
unfolding lowest
position_below-n t n r e =
    let p : position_or_len t (range_with_len 0 n) ≡ lowest_from t n 0 = omega (arith, position-range t n 0) in
    rw (e, p, length-range_with_len 0 n) (or_all (lowest_from t n 0) n (let m = low-most t n 0 in omega arith))

-- The lowest index holds, and none before it does.

low_true : (t : ℕ → Bool) (k i : ℕ) → lowest_from t k i < i + k → t (lowest_from t k i) ≡ true
low_true t zero i h = absurd (omega arith)
low_true t (suc k) i h = go (low_true t k (suc i)) (t i) refl h
  where
    go : (lowest_from t k (suc i) < suc i + k → t (lowest_from t k (suc i)) ≡ true)
        → (b : Bool) → t i ≡ b → cond b i (lowest_from t k (suc i)) < i + suc k → t (cond b i (lowest_from t k (suc i))) ≡ true
    go rest true e l = e
    go rest false e l = rest (omega arith)

low-before : (t : ℕ → Bool) (k i j : ℕ) → i ≤ j → j < lowest_from t k i → t j ≡ false
low-before t zero i j a b = absurd (omega arith)
low-before t (suc k) i j a b = go (low-before t k (suc i) j) (t i) refl b
  where
    at : (suc i ≤ j → t j ≡ false) → t i ≡ false → Dec (i < j) → t j ≡ false
    at rest e (yes l) = rest l
    at rest e (no l) = let q : j ≡ i = omega arith in rw q e

    go : (suc i ≤ j → j < lowest_from t k (suc i) → t j ≡ false) → (c : Bool) → t i ≡ c → j < cond c i (lowest_from t k (suc i)) → t j ≡ false
    go rest true e l = absurd (omega arith)
    go rest false e l = at (λ m. rest m l) e (dec_lt i j)

module _ (t : ℕ → Bool) (n : ℕ) where
  pub lowest_true : lowest t n < n → t (lowest t n) ≡ true
  unfolding lowest
  lowest_true h = low_true t n 0 (omega arith)

  pub lowest-at : (k : ℕ) → k ≡ lowest t n → k < n → t k ≡ true
  lowest-at k e h = ap t e ∙ lowest_true (omega (arith, e))

  pub lowest-before : (j : ℕ) → j < lowest t n → t j ≡ false
  unfolding lowest
  lowest-before j h = low-before t n 0 j (omega arith) h

-- a pointer that moves is not null
pub moves_live : (w : State) (live bases derived : List ℕ) (x k : ℕ) → moves_at w live bases derived x k ≡ true → get_or live k 0 ≡ 0 → ⊥
unfolding moves_at
moves_live w live bases derived x k h e = true≢false (sym (rw (eq-eqb (get_or live k 0) 0 e) at h))

-- the numbers of slots
module _ (sp a : ℕ) where
  pub number-below : a < sp → none ≡ number_of sp (memory a)
  unfolding number_of
  number-below h = rw (lt-leb sp a h)

  pub number_at : sp ≤ a → a - sp < registers_from → some (a - sp) ≡ number_of sp (memory a)
  unfolding number_of
  number_at h l = rw (le-leb sp a h, lt-ltb (a - sp) registers_from l)

  pub number_past : sp ≤ a → registers_from ≤ a - sp → none ≡ number_of sp (memory a)
  unfolding number_of
  number_past h l = rw (le-leb sp a h, le-ltb (a - sp) registers_from l)

  pub number-register : a < 32 → some (registers_from + 8 * a) ≡ number_of sp (register a)
  unfolding number_of
  number-register h = rw (lt-ltb a 32 h)

  pub number-none : 32 ≤ a → none ≡ number_of sp (register a)
  unfolding number_of
  number-none h = rw (le-ltb a 32 h)

-- the tests of a pointer, as the code makes them
module _ (live numbers : List ℕ) (x k : ℕ) where
  pub named-null : get_or live k 0 ≡ 0 → false ≡ named_at live numbers x k
  unfolding named_at
  named-null h = rw (eq-eqb (get_or live k 0) 0 h)

  pub named_live : (get_or live k 0 ≡ 0 → ⊥) → eqb (get_or numbers k 0) x ≡ named_at live numbers x k
  unfolding named_at
  named_live h = rw (ne_eqb (get_or live k 0) 0 h)

module _ (w : State) (live bases derived : List ℕ) (x k : ℕ) where
  pub moves_null : get_or live k 0 ≡ 0 → false ≡ moves_at w live bases derived x k
  unfolding moves_at
  moves_null h = rw (eq-eqb (get_or live k 0) 0 h)

  module _ (h : get_or live k 0 ≡ 0 → ⊥) where
    pub moves_other : (get_or derived k 0 ≡ x → ⊥) → false ≡ moves_at w live bases derived x k
    unfolding moves_at
    moves_other e = rw (ne_eqb (get_or live k 0) 0 h, ne_eqb (get_or derived k 0) x e)

    pub moves_by : (v : ℕ) → get_or derived k 0 ≡ x → v ≡ base_at w live bases derived k → not (eqb v 0) ≡ moves_at w live bases derived x k
    unfolding moves_at
    moves_by v e b = rw (ne_eqb (get_or live k 0) 0 h, eq-eqb (get_or derived k 0) x e, b)

-- the reasons, by what the searches answer
module _ (w : State) (live bases derived : List ℕ) (table : ℕ → Option ℕ) (n : ℕ) (pss : List (List Pointer)) (x k : ℕ) (e : k ≡ lowest (moves_at w live bases derived x) n) where
  pub told_moved : k < n → (pair base to : ℕ) → pair ≡ pair_of pss k → base ≡ base_at w live bases derived k → to ≡ or_zero (table base)
      → Moved pair base to ≡ told_of w live bases derived table n pss x
  unfolding told_of
  told_moved h pair base to p b t = rw (← e, lt-ltb k n h, p, t, b)

  module _ (h : n ≤ k) where
    pub told-null : true ≡ ltb (lowest (named_at live derived x) n) n → NullBase ≡ told_of w live bases derived table n pss x
    unfolding told_of
    told-null d = rw (← e, le-ltb k n h, ← d)

    pub told-base : false ≡ ltb (lowest (named_at live derived x) n) n → true ≡ ltb (lowest (named_at live bases x) n) n → OnlyBase ≡ told_of w live bases derived table n pss x
    unfolding told_of
    told-base d b = rw (← e, le-ltb k n h, ← d, ← b)

    pub told_none : false ≡ ltb (lowest (named_at live derived x) n) n → false ≡ ltb (lowest (named_at live bases x) n) n → Unlisted ≡ told_of w live bases derived table n pss x
    unfolding told_of
    told_none d b = rw (← e, le-ltb k n h, ← d, ← b)
