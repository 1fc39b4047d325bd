-- Pointers, pair by pair.
use Prim.Native.Nat.{ℕ, zero, suc, ◌-◌, ◌≤◌}
use mathlib.Core.Path.{◌≡◌, refl, sym, ap, ◌∙◌, subst}
use mathlib.Core.Bool.{Bool, true, false}
use mathlib.Core.Logic.{⊎_elim}
use mathlib.Core.Option.{Option}
use mathlib.Core.List.Memᴰ
use mathlib.Core.List.{List, [], ◌∷◌, ◌++◌, map, flatten, append_assoc, Memᴰ}
use mathlib.Core.List.Permᴰ
use mathlib.Core.List.{Permᴰ}
use native.Mathlib.Omega.{arith}
use borrow.Author.Tests.{eqb-true, le-ltb}
use lib.Dec.{eqb}
use lib.ListN.{length}
use Rattle.moves.specs.declared.Move.{Move}
use Rattle.moves.specs.Window.{part, splice}
use Rattle.moves.specs.Slots.{State, state}
use Rattle.moves.specs.Pointers.{Pointer}
use Rattle.moves.specs.Settle.{settled}
use Rattle.moves.specs.Plan.{window, pair_of, at_pair}
use Rattle.moves.specs.Code.{settle_if, SettlesIn, Follows}
use Rattle.moves.proofs.Splice.{splice_if, registers_if_lem}
use Rattle.moves.proofs.Order.{Alike, accepted-whole, settled-early, settled-place}

-- a member of a block, and the block that it is of
module _ {A B : Type 0} (g : A → List B) where
  pub in_block : {x : B} (ys : List A) → Memᴰ x (flatten (map g ys)) → (y : A) × Memᴰ y ys × Memᴰ x (g y)
  unfolding flatten
  in_block [] m = absurd (Memᴰ.not-nil m)
  in_block (y ∷ ys) m =
      ⊎_elim (λ h. (y, Memᴰ.head refl, h)) (λ h. let r = in_block ys h in (r.0, Memᴰ.tail r.1, r.2)) (Memᴰ.append_cases (g y) m)

  pub of_block : {x : B} {y : A} (ys : List A) → Memᴰ y ys → Memᴰ x (g y) → Memᴰ x (flatten (map g ys))
  unfolding flatten
  of_block {x} (z ∷ ys) (Memᴰ.head e) h = Memᴰ.append_left _ (subst (λ (v : A). Memᴰ x (g v)) e h)
  of_block {x = x} {y = y} [] x3 h = elim x3 [ ]
  of_block (z ∷ ys) (Memᴰ.tail m) h = Memᴰ.append_right (g z) (of_block ys m h)

-- a permutation of blocks is a permutation
swap_blocks : {A : Type 0} (a b c : List A) → Permᴰ (a ++ (b ++ c)) (b ++ (a ++ c))
swap_blocks a b c = rw (← append_assoc a b c, ← append_assoc b a c) (Permᴰ.append_right c (Permᴰ.append_comm a b))

pub blocks_perm : {A : Type 0} {pss qss : List (List A)} → Permᴰ pss qss → Permᴰ (flatten pss) (flatten qss)
unfolding flatten
blocks_perm Permᴰ.nil = Permᴰ.nil
blocks_perm (Permᴰ.cons {a = a} e p) = rw (← e) (Permᴰ.append_left a (blocks_perm p))
blocks_perm (Permᴰ.swap {a = a} {b = b} {l = l} e₁ e₂) = rw (← e₁, ← e₂) (swap_blocks a b (flatten l))
blocks_perm (Permᴰ.trans p q) = Permᴰ.trans (blocks_perm p) (blocks_perm q)

-- two orders of pairs answer alike
pub pairs_alike : (table : ℕ → Option ℕ) (w : State) (pss qss : List (List Pointer)) → Alike (settled table (flatten pss) w) (settled table (flatten qss) w)
    → Alike (at_pair pss (settled table (flatten pss) w)) (at_pair qss (settled table (flatten qss) w))
pairs_alike table w pss qss a =
    record {
      number = a.number;
      count = a.count;
      place = λ l. let z = settled-early table (flatten pss) w l in rw (a.number, z);
    }

-- Each pair is one pointer.

abbrev pub ones : List Pointer → List (List Pointer)
ones ps = map (λ p. p ∷ []) ps

pub flatten_ones : (ps : List Pointer) → flatten (ones ps) ≡ ps
unfolding flatten
flatten_ones [] = refl
flatten_ones (p ∷ ps) = ap (λ (qs : List Pointer). p ∷ qs) (flatten_ones ps)

pair_ones : (ps : List Pointer) (i : ℕ) → i ≤ length ps → pair_of (ones ps) i ≡ i
unfolding pair_of
pair_ones [] i h = omega arith
pair_ones (p ∷ ps) zero h = refl
pair_ones (p ∷ ps) (suc i) h = let z : suc i - 1 ≡ i = omega arith in rw (le-ltb (suc i) 1 (omega arith), z, pair_ones ps i (omega arith))

module _ (table : ℕ → Option ℕ) where
  says_ones : (ps : List Pointer) (w : State) → settled table ps w ≡ at_pair (ones ps) (settled table ps w)
  says_ones ps w = go (eqb (settled table ps w).number 0) refl
    where
      m : Move
      m = settled table ps w

      with_place : ℕ → Move
      with_place p = record { number = m.number; place = p; count = m.count }

      go : (t : Bool) → eqb m.number 0 ≡ t → m ≡ at_pair (ones ps) m
      go true e =
          let z : m.place ≡ 0 = ap (λ (x : Move). x.place) (accepted-whole table ps w (eqb-true _ _ e)) in
          ap with_place (z ∙ rw e)
      go false e = ap with_place (sym (pair_ones ps m.place (settled-place table ps w)) ∙ rw e)

  pub follows_ones : (write : Bool) (r : Move) (im after rs rs' : List ℕ) (off n : ℕ) (ps : List Pointer) (pss : List (List Pointer)) → pss ≡ ones ps
      → SettlesIn table write r im after rs rs' off n ps → Follows write r after rs' table im rs (window off n pss)
  follows_ones write r im after rs rs' off n ps pss e h =
      rw e (record {
        answer = h.answer ∙ says_ones ps (state (part im off n) rs) ∙ rw (flatten_ones ps);
        left = h.left
            ∙ ap (λ (qs : List Pointer). splice im off n (settle_if table write qs (state (part im off n) rs)).window) (sym (flatten_ones ps))
            ∙ splice_if write table im rs off n (ones ps);
        registers_left = h.registers_left
            ∙ ap (λ (qs : List Pointer). (settle_if table write qs (state (part im off n) rs)).registers) (sym (flatten_ones ps))
            ∙ registers_if_lem write table im rs off n (ones ps);
      })
