-- Slots as numbers compare as the slots do.
use Prim.Native.Nat.{ℕ, ◌+◌, ◌-◌, ◌/◌, ◌%◌, ◌≤◌, ◌<◌}
use mathlib.Core.Path.{◌≡◌, refl, sym, ap, ◌∙◌}
use mathlib.Core.Bool.{Bool, true, false, not, and-false}
use mathlib.Core.List.{List}
use native.Mathlib.Omega.{arith}
use native.Mathlib.Decide.{dec_lt}
use borrow.Author.Tests.{eq-eqb, ne_eqb, lt-ltb, le-ltb, eqb-true, eqb-false}
use lib.Dec.{eqb, ltb}
use lib.ListN.{get_or, set}
use lib.Seq.{sets}
use Rattle.wire.specs.Word.{word, bytes}
use Rattle.moves.specs.Slots.{memory, register, state, same, overlap, read, put}
use Rattle.moves.specs.Pointers.{any_overlap, slots_clash}
use Rattle.moves.specs.Arrays.{registers_from, slot_of, Placed, overlap_at, any_overlap_at, slots_clash_at, Within, AllPlaced}
use Rattle.moves.proofs.Cells.{SlotIn}

pub slot-memory : (x : ℕ) → x < registers_from → slot_of x ≡ memory x
unfolding slot_of
slot-memory x h = rw (lt-ltb x registers_from h)

pub slot-register : (x : ℕ) → registers_from ≤ x → slot_of x ≡ register ((x - registers_from) / 8)
unfolding slot_of
slot-register x h = rw (le-ltb x registers_from h)

pub memory-slot : (x y : ℕ) → slot_of x ≡ memory y → x ≡ y
memory-slot x y e = go (dec_lt x registers_from)
  where
    go : Dec (x < registers_from) → x ≡ y
    go (yes a) = let z : memory x ≡ memory y = sym (slot-memory x a) ∙ e in cc
    go (no a) =
        let z : register ((x - registers_from) / 8) ≡ memory y = sym (slot-register x (omega arith)) ∙ e in
        absurd (let u : ◌≡◌ {A = ℕ} 0 1 = cc in omega arith)

overlap-left : (x y : ℕ) → x + 8 ≤ y → overlap_at x y ≡ false
unfolding overlap_at
overlap-left x y h = rw (le-ltb y (x + 8) h, and-false (ltb x (y + 8))) (and-false (not (eqb x y)))

overlap-right : (x y : ℕ) → y + 8 ≤ x → overlap_at x y ≡ false
unfolding overlap_at
overlap-right x y h = rw (le-ltb x (y + 8) h) (and-false (not (eqb x y)))

overlap-none : (x y : ℕ) → x ≡ y → overlap_at x y ≡ false
unfolding overlap_at
overlap-none x y e = rw (eq-eqb x y e)

-- registers are a pointer's size apart
steps : (x y : ℕ) → registers_from ≤ x → registers_from ≤ y → (x - registers_from) % 8 ≡ 0 → (y - registers_from) % 8 ≡ 0 → x < y → x + 8 ≤ y
steps x y a b m n h = omega arith

one-register : (x y : ℕ) → registers_from ≤ x → registers_from ≤ y → (x - registers_from) % 8 ≡ 0 → (y - registers_from) % 8 ≡ 0
    → (x - registers_from) / 8 ≡ (y - registers_from) / 8 → x ≡ y
one-register x y a b m n h = omega arith

module _ (m registers : ℕ) (few : m ≤ registers_from) where
  module _ (x y : ℕ) (px : Placed m registers x) (py : Placed m registers y) where
    pub overlap-number : overlap_at x y ≡ overlap (slot_of x) (slot_of y)
    overlap-number = go (dec_lt x registers_from) (dec_lt y registers_from)
      where
        regs : registers_from ≤ x → registers_from ≤ y → Dec (x < y) → Dec (y < x) → overlap_at x y ≡ false
        regs a b (yes h) k = overlap-left x y (steps x y a b (px.apart a) (py.apart b) h)
        regs a b (no h) (yes k) = overlap-right x y (steps y x b a (py.apart b) (px.apart a) k)
        regs a b (no h) (no k) = overlap-none x y (omega arith)

        go : Dec (x < registers_from) → Dec (y < registers_from) → overlap_at x y ≡ overlap (slot_of x) (slot_of y)
        go (yes a) (yes b) = rw (slot-memory x a, slot-memory y b) (unfold overlap_at overlap in refl)
        go (yes a) (no b) =
            rw (slot-memory x a, slot-register y (omega arith)) (overlap-left x y (omega (arith, px.in_window a)) ∙ (unfold overlap in refl))
        go (no a) (yes b) =
            rw (slot-register x (omega arith), slot-memory y b) (overlap-right x y (omega (arith, py.in_window b)) ∙ (unfold overlap in refl))
        go (no a) (no b) =
            rw (slot-register x (omega arith), slot-register y (omega arith)) (regs (omega arith) (omega arith) (dec_lt x y) (dec_lt y x) ∙ (unfold overlap in refl))

    pub same_number : eqb x y ≡ same (slot_of x) (slot_of y)
    same_number = go (dec_lt x registers_from) (dec_lt y registers_from)
      where
        regs : registers_from ≤ x → registers_from ≤ y → (t : Bool) → eqb ((x - registers_from) / 8) ((y - registers_from) / 8) ≡ t → eqb x y ≡ t
        regs a b true e = eq-eqb x y (one-register x y a b (px.apart a) (py.apart b) (eqb-true _ _ e))
        regs a b false e = ne_eqb x y (λ q. eqb-false _ _ e (ap (λ (z : ℕ). (z - registers_from) / 8) q))

        go : Dec (x < registers_from) → Dec (y < registers_from) → eqb x y ≡ same (slot_of x) (slot_of y)
        go (yes a) (yes b) = rw (slot-memory x a, slot-memory y b) (unfold same in refl)
        go (yes a) (no b) = rw (slot-memory x a, slot-register y (omega arith)) (ne_eqb x y (λ q. omega arith) ∙ (unfold same in refl))
        go (no a) (yes b) = rw (slot-register x (omega arith), slot-memory y b) (ne_eqb x y (λ q. omega arith) ∙ (unfold same in refl))
        go (no a) (no b) =
            rw (slot-register x (omega arith), slot-register y (omega arith)) (regs (omega arith) (omega arith) _ refl ∙ (unfold same in refl))

  pub clash-number : (b d v b' d' v' : ℕ) → Placed m registers b → Placed m registers d → Placed m registers b' → Placed m registers d'
      → slots_clash_at b d v b' d' v' ≡ slots_clash (slot_of b) (slot_of d) v (slot_of b') (slot_of d') v'
  unfolding slots_clash_at slots_clash any_overlap_at any_overlap
  clash-number b d v b' d' v' pb pd pb' pd' =
      rw (overlap-number b b' pb pb', overlap-number b d' pb pd', overlap-number d b' pd pb', overlap-number d d' pd pd', same_number d d' pd pd')

-- a slot that is placed is inside
pub placed_in : (m registers x : ℕ) → Placed m registers x → SlotIn m registers (slot_of x)
placed_in m registers x p = go (dec_lt x registers_from)
  where
    go : Dec (x < registers_from) → SlotIn m registers (slot_of x)
    go (yes a) = rw (slot-memory x a) (p.in_window a)
    go (no a) = rw (slot-register x (omega arith)) (p.in_list (omega arith))

-- where the lengths are the same
pub placed_same : (m registers m' registers' x : ℕ) → m' ≡ m → registers' ≡ registers → Placed m registers x → Placed m' registers' x
placed_same m registers m' registers' x e f p = rw (e, f) p

-- slots in memory alone
pub placed-memory : (m registers x : ℕ) → m ≤ registers_from → x + 8 ≤ m → Placed m registers x
placed-memory m registers x h k = record { in_window = λ a. k; in_list = λ a. absurd (omega arith); apart = λ a. absurd (omega arith) }

pub all-memory : (m registers n : ℕ) (live bs ds : List ℕ) → m ≤ registers_from → Within m n live bs ds → AllPlaced m registers n live bs ds
all-memory m registers n live bs ds h w =
    record { base_in = λ k a l. placed-memory m registers _ h (w.base_in k a l); derived_in = λ k a l. placed-memory m registers _ h (w.derived_in k a l) }

-- a number of a slot is not near the end of the numbers
pub placed-most : (m registers x : ℕ) → m ≤ registers_from → registers ≤ 32 → Placed m registers x → x + 8 ≤ 4294967552
placed-most m registers x h k p = go (dec_lt x registers_from)
  where
    go : Dec (x < registers_from) → x + 8 ≤ 4294967552
    go (yes a) = omega (arith, p.in_window a)
    go (no a) = let i = p.in_list (omega arith) in omega (arith, p.in_list (omega arith), p.apart (omega arith))

-- What the code reads and writes at a number is what stands in its slot.

module _ (w rs : List ℕ) (x : ℕ) where
  pub read-memory : x < registers_from → word 8 w x ≡ read (state w rs) (slot_of x)
  read-memory h = rw (slot-memory x h)

  pub read-register : registers_from ≤ x → get_or rs ((x - registers_from) / 8) 0 ≡ read (state w rs) (slot_of x)
  read-register h = rw (slot-register x h)

  pub put-memory : (v : ℕ) (w' : List ℕ) → x < registers_from → w' ≡ sets w x (bytes 8 v) → state w' rs ≡ put (state w rs) (slot_of x) v
  put-memory v w' h e = rw (slot-memory x h, e)

  pub put-register : (v : ℕ) → registers_from ≤ x → state w (set rs ((x - registers_from) / 8) v) ≡ put (state w rs) (slot_of x) v
  put-register v h = rw (slot-register x h)
