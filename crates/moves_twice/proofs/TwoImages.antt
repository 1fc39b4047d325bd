-- Two moves of one frame in an image: its window is moved as a state is, and the rest is kept.
use Prim.Native.Nat.{ℕ, ◌+◌, ◌-◌, ◌≤◌, ◌<◌}
use mathlib.Core.Path.{◌≡◌, refl, sym, ap, ◌∙◌}
use mathlib.Core.Logic.{◌↔◌, ◌⊎◌, inl, inr}
use mathlib.Core.Option.{Option}
use mathlib.Core.List.{List, flatten}
use native.Mathlib.Omega.{arith}
use lib.ListN.{length, get_or}
use lib.Seq.{ext_get_or}
use Rattle.moves.specs.Plan.{Plan, refuse, window, says, leaves, leaves_registers}
use Rattle.moves.specs.Window.{In, part, splice}
use Rattle.moves.specs.Slots.{State, state}
use Rattle.moves.specs.Pointers.{Pointer}
use Rattle.moves.specs.Settle.{settle}
use Rattle.moves.specs.Table.{look_up}
use Rattle.moves_twice.specs.Pointers.{SelfListed}
use Rattle.moves.proofs.Splice.{in?, part_length, part_at, splice-length, splice_in, splice_out}
use Rattle.moves.proofs.Order.{settle_shape}
use Rattle.moves_twice.proofs.TwoMoves.{Ready, OneMove, look_joined, two_moves}

module _ (im : List ℕ) (a n : ℕ) (w : List ℕ) (fits : a + n ≤ length im) (long : length w ≡ n) where
  -- the part that was put in is read back
  pub part-splice : part (splice im a n w) a n ≡ w
  part-splice =
      ext_get_or 0 (part (splice im a n w) a n) w (l ∙ sym long)
      (λ i h. let k : i < n = omega (arith, l) in
      let e : a + i - a ≡ i = omega arith in
      part_at (splice im a n w) a n i k
      ∙ splice_in im a n w fits long (a + i) (record { low = omega arith; high = omega arith })
      ∙ ap (λ (j : ℕ). get_or w j 0) e)
    where
      l : length (part (splice im a n w) a n) ≡ n
      l = part_length (splice im a n w) a n (omega (arith, splice-length im a n w fits long))

  -- a part that is replaced twice is replaced once
  pub splice-splice : (v : List ℕ) → length v ≡ n → splice (splice im a n w) a n v ≡ splice im a n v
  splice-splice v h =
      ext_get_or 0 (splice (splice im a n w) a n v) (splice im a n v) (splice-length (splice im a n w) a n v f h ∙ s ∙ sym (splice-length im a n v fits h))
      (λ i q. go i (in? a n i))
    where
      s : length (splice im a n w) ≡ length im
      s = splice-length im a n w fits long

      f : a + n ≤ length (splice im a n w)
      f = omega (arith, s)

      go : (i : ℕ) → In a n i ⊎ (In a n i → ⊥) → get_or (splice (splice im a n w) a n v) i 0 ≡ get_or (splice im a n v) i 0
      go i (inl q) = splice_in (splice im a n w) a n v f h i q ∙ sym (splice_in im a n v fits h i q)
      go i (inr q) = splice_out (splice im a n w) a n v f h i q ∙ splice_out im a n w fits long i q ∙ sym (splice_out im a n v fits h i q)

-- Two moves of a frame that is planned so, the second on the image and the registers that the first leaves, are the one: both are accepted
-- exactly when it is, and where they are, the final image and registers are equal.
pub record OneImage (t1 t2 t12 : ℕ → Option ℕ) (im rs : List ℕ) (p : Plan) : Type 0 where
  pub accepted :
      (((says t1 im rs p).number ≡ 0) × ((says t2 (leaves t1 im rs p) (leaves_registers t1 im rs p) p).number ≡ 0)) ↔ ((says t12 im rs p).number ≡ 0)
  pub image : (says t12 im rs p).number ≡ 0 → leaves t2 (leaves t1 im rs p) (leaves_registers t1 im rs p) p ≡ leaves t12 im rs p
  pub registers : (says t12 im rs p).number ≡ 0 → leaves_registers t2 (leaves t1 im rs p) (leaves_registers t1 im rs p) p ≡ leaves_registers t12 im rs p

-- a frame that is refused before its window is known is refused by all three
pub refused-image : (t1 t2 t12 : ℕ → Option ℕ) (im rs : List ℕ) (n q : ℕ) → OneImage t1 t2 t12 im rs (refuse n q)
refused-image t1 t2 t12 im rs n q = record { accepted = (λ a. a.0, λ a. (a, a)); image = λ a. refl; registers = λ a. refl }

module _ (t1 t2 t12 : ℕ → Option ℕ) (off size : ℕ) (pss : List (List Pointer)) (rs im : List ℕ) (fits : off + size ≤ length im) where
  abbrev ps : List Pointer
  ps = flatten pss

  abbrev old : State
  old = state (part im off size) rs

  new-long : (table : ℕ → Option ℕ) (v : State) → length v.window ≡ size → length (settle table ps v).window ≡ size
  new-long table v l = (settle_shape table ps v).windows ∙ l

  abbrev first : List ℕ
  first = (settle t1 ps old).window

  first-long : length first ≡ size
  first-long = new-long t1 old (part_length im off size fits)

  -- what the second move finds is what the first left
  mid_state : state (part (splice im off size first) off size) (settle t1 ps old).registers ≡ settle t1 ps old
  mid_state = ap (λ (w : List ℕ). state w (settle t1 ps old).registers) (part-splice im off size first fits first-long)

  one-image : OneMove t1 t2 t12 ps old → OneImage t1 t2 t12 im rs (window off size pss)
  one-image h =
      record {
        accepted = (λ a. h.accepted.0 (a.0, rw mid_state at a.1), λ a. ((h.accepted.1 a).0, rw mid_state (h.accepted.1 a).1));
        image = λ a.
            ap (λ (v : State). splice (splice im off size first) off size (settle t2 ps v).window) mid_state
            ∙ splice-splice im off size first fits first-long (settle t2 ps (settle t1 ps old)).window (new-long t2 (settle t1 ps old) first-long)
            ∙ ap (λ (v : State). splice im off size v.window) (h.left a);
        registers = λ a. ap (λ (v : State). (settle t2 ps v).registers) mid_state ∙ ap (λ (v : State). v.registers) (h.left a);
      }

-- the claim of request 11, for a frame whose window lies in the image
pub two_moves_image : (olds news olds2 news2 : List ℕ) (off size : ℕ) (pss : List (List Pointer)) (rs im : List ℕ) → off + size ≤ length im
    → Ready olds news olds2 news2 (flatten pss) (state (part im off size) rs) → SelfListed (flatten pss)
    → OneImage (look_up olds news) (look_up olds2 news2) (look_joined olds news olds2 news2) im rs (window off size pss)
two_moves_image olds news olds2 news2 off size pss rs im fits r self =
    one-image (look_up olds news) (look_up olds2 news2) (look_joined olds news olds2 news2) off size pss rs im fits
    (two_moves olds news olds2 news2 (flatten pss) (state (part im off size) rs) r self)
