-- Rows written one after the other.
use Prim.Native.Nat.{ℕ, suc, ◌+◌, ◌*◌, ◌-◌, ◌≤◌, ◌<◌}
use mathlib.Core.Path.{◌≡◌, refl, sym, ap, ◌∙◌}
use mathlib.Core.Bool.{Bool, true, false, cond}
use mathlib.Core.Option.{Option}
use mathlib.Core.List.{List, ◌∷◌, ◌++◌}
use native.Mathlib.Omega.{arith}
use borrow.Author.Tests.{eq-eqb, ne_eqb}
use lib.Dec.{eqb}
use lib.ListN.{length, get_or, replicate, length-append}
use lib.Seq.{sets, length-sets}
use Rattle.wire.proofs.Laws.{sets-append}
use Rattle.moves.specs.Slots.{State}
use Rattle.moves.specs.Pointers.{Pointer}
use Rattle.moves.specs.Plan.{pair_of}
use Rattle.explain.specs.declared.Reason.{Reason}
use Rattle.explain.specs.Rows.{reason_numbers, no_slot}
use Rattle.explain_pointers.specs.Told.{told_of}
use Rattle.explain_numbers.specs.declared.Told.{Told}
use Rattle.explain_numbers.specs.Numbers.{numbers_of}
use Rattle.explain_numbers.proofs.Laws.{part-sets}
use borrow.Rule.Slice.PartMut.{put_mid}
use Rattle.explain_laws.proofs.Lengths.{reason_length}
use Rattle.explain_rows.specs.Written.{in_order, slot_by, slots_by, row_by}

-- Every row is sixteen numbers.

module _ (w : State) (live bases derived : List ℕ) (table : ℕ → Option ℕ) (n : ℕ) (pss : List (List Pointer)) (sp : ℕ) where
  pub slot-length : (x : ℕ) → length (slot_by w live bases derived table n pss sp x) ≡ 7
  slot-length x = omega (arith, reason_length (told_of w live bases derived table n pss x))

  slots_length : (j : ℕ) → length (slots_by w live bases derived table n pss sp j) ≡ 14
  unfolding slots_by
  slots_length j = go (eqb (get_or live j 0) 0)
    where
      go : (t : Bool) → length (cond t (no_slot ++ no_slot) (slot_by w live bases derived table n pss sp (get_or bases j 0) ++ slot_by w live bases derived table n pss sp (get_or derived j 0))) ≡ 14
      go true = refl
      go false = length-append (slot_by w live bases derived table n pss sp (get_or bases j 0)) (slot_by w live bases derived table n pss sp (get_or derived j 0)) ∙ omega (arith, slot-length (get_or bases j 0), slot-length (get_or derived j 0))

  pub row_length : (k j : ℕ) → length (row_by w live bases derived table n pss sp k j) ≡ 16
  unfolding row_by
  row_length k j = ap (λ (m : ℕ). suc (suc m)) (slots_length j)

  pub row_is : (k j pair : ℕ) → pair ≡ pair_of pss j → k ∷ pair ∷ slots_by w live bases derived table n pss sp j ≡ row_by w live bases derived table n pss sp k j
  unfolding row_by
  row_is k j pair e = rw e

  pub slots-null : (j : ℕ) → get_or live j 0 ≡ 0 → no_slot ++ no_slot ≡ slots_by w live bases derived table n pss sp j
  unfolding slots_by
  slots-null j h = rw (eq-eqb (get_or live j 0) 0 h)

  pub slots-live : (j : ℕ) → (get_or live j 0 ≡ 0 → ⊥)
      → slot_by w live bases derived table n pss sp (get_or bases j 0) ++ slot_by w live bases derived table n pss sp (get_or derived j 0) ≡ slots_by w live bases derived table n pss sp j
  unfolding slots_by
  slots-live j h = rw (ne_eqb (get_or live j 0) 0 h)

-- Two stretches, one after the other.

pub put_two : (out : List ℕ) (to n : ℕ) (xs ys zs : List ℕ) → length xs ≡ n → xs ++ ys ≡ zs → sets (sets out to xs) (to + n) ys ≡ sets out to zs
put_two out to n xs ys zs e z =
    ap (λ (m : ℕ). sets (sets out to xs) (to + m) ys) (sym e) ∙ sym (sets-append out to xs ys) ∙ ap (sets out to) z

-- as `put_slots` and `put_rows` write them
pub put_both : (out mid after : List ℕ) (to n : ℕ) (xs ys zs : List ℕ) → mid ≡ sets out to xs → after ≡ sets mid (to + n) ys → length xs ≡ n → xs ++ ys ≡ zs
    → after ≡ sets out to zs
put_both out mid after to n xs ys zs p q l z = q ∙ ap (λ (m : List ℕ). sets m (to + n) ys) p ∙ put_two out to n xs ys zs l z

-- a null pointer's, at once
pub put_nulls : (out part : List ℕ) (to k n : ℕ) → part ≡ replicate n 0 → n ≡ 14 → k ≡ 14 → to + k ≤ length out → (zs : List ℕ) → no_slot ++ no_slot ≡ zs
    → put_mid to k out part ≡ sets out to zs
put_nulls out part to k n p e d h zs z = part-sets out to k part zs (p ∙ rw e z) (d ∙ ap length z) h

-- a slot as `put_told` writes it
pub put_slot_told : (out after : List ℕ) (to a a' b b' v v' : ℕ) (t : Told) (r r' : Reason) → after ≡ sets out to (a ∷ b ∷ v ∷ numbers_of t) → a ≡ a' → b ≡ b' → v ≡ v'
    → numbers_of t ≡ reason_numbers r → r ≡ r' → after ≡ sets out to (a' ∷ b' ∷ v' ∷ reason_numbers r')
put_slot_told out after to a a' b b' v v' t r r' e x y z q s =
    e ∙ ap (λ (l : List ℕ). sets out to (a ∷ b ∷ v ∷ l)) (q ∙ ap reason_numbers s)
    ∙ ap (λ (m : ℕ). sets out to (m ∷ b ∷ v ∷ reason_numbers r')) x
    ∙ ap (λ (m : ℕ). sets out to (a' ∷ m ∷ v ∷ reason_numbers r')) y
    ∙ ap (λ (m : ℕ). sets out to (a' ∷ b' ∷ m ∷ reason_numbers r')) z

-- What is left to write, after k of n rows.

module _ (row : ℕ → List ℕ) (each : (j : ℕ) → length (row j) ≡ 16) where
  pub record Rowing (to n : ℕ) (lent rows : List ℕ) (k : ℕ) : Type 0 where
    pub wide : length rows ≡ length lent
    pub same : sets rows (to + 16 * k) (in_order row (n - k) k) ≡ sets lent to (in_order row n 0)

  pub rowing_start : (to n : ℕ) (lent : List ℕ) → Rowing to n lent lent 0
  rowing_start to n lent =
      let a : to + 16 * 0 ≡ to = omega arith in
      let b : n - 0 ≡ n = omega arith in
      record { wide = refl; same = rw (a, b) }

  put_on : (out : List ℕ) (to n k : ℕ) → k < n
      → sets out (to + 16 * k) (in_order row (n - k) k) ≡ sets (sets out (to + 16 * k) (row k)) (to + 16 * (k + 1)) (in_order row (n - (k + 1)) (k + 1))
  put_on out to n k l =
      let a : n - k ≡ suc (n - (k + 1)) = omega arith in
      let b : suc k ≡ k + 1 = omega arith in
      let d : to + 16 * k + length (row k) ≡ to + 16 * (k + 1) = omega (arith, each k) in
      ap (λ (m : ℕ). sets out (to + 16 * k) (in_order row m k)) a
      ∙ sets-append out (to + 16 * k) (row k) (in_order row (n - (k + 1)) (suc k))
      ∙ ap (λ (m : ℕ). sets (sets out (to + 16 * k) (row k)) m (in_order row (n - (k + 1)) (suc k))) d
      ∙ ap (λ (m : ℕ). sets (sets out (to + 16 * k) (row k)) (to + 16 * (k + 1)) (in_order row (n - (k + 1)) m)) b

  pub rowing_on : (to n : ℕ) (lent rows after : List ℕ) (k : ℕ) → Rowing to n lent rows k → k < n → after ≡ sets rows (to + 16 * k) (row k)
      → Rowing to n lent after (k + 1)
  rowing_on to n lent rows after k g l e =
      record {
        wide = ap length e ∙ length-sets rows (to + 16 * k) (row k) ∙ g.wide;
        same = ap (λ (m : List ℕ). sets m (to + 16 * (k + 1)) (in_order row (n - (k + 1)) (k + 1))) e ∙ sym (put_on rows to n k l) ∙ g.same;
      }

  pub rowing_end : (to n : ℕ) (lent rows : List ℕ) (k : ℕ) → Rowing to n lent rows k → n ≤ k → rows ≡ sets lent to (in_order row n 0)
  rowing_end to n lent rows k g l =
      let z : 0 ≡ n - k = omega arith in
      ap (λ (m : ℕ). sets rows (to + 16 * k) (in_order row m k)) z ∙ g.same
