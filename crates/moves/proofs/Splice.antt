-- Parts of an image, and what replacing one changes.
use Prim.Native.Nat.{ℕ, ◌+◌, ◌-◌, ◌≤◌, ◌<◌}
use mathlib.Core.Path.{◌≡◌, refl, sym, ap, ◌∙◌}
use mathlib.Core.Bool.{Bool, true, false}
use mathlib.Core.Option.{Option}
use mathlib.Core.Logic.{◌⊎◌, inl, inr}
use mathlib.Core.List.{List, ◌++◌, flatten}
use native.Mathlib.Omega.{arith}
use native.Mathlib.Decide.{dec_le, dec_lt}
use lib.ListN.{length, take, drop, get_or, take-append-drop, length-append, length-take, length-drop, get_or-append}
use lib.Seq.{get_or-append-add, get_or-drop, get_or-take, ext_get_or, length-take-le, drop-drop}
use Rattle.moves.specs.Window.{part, splice, In}
use Rattle.moves.specs.Slots.{state}
use Rattle.moves.specs.Pointers.{Pointer}
use Rattle.moves.specs.Plan.{window}
use Rattle.moves.specs.Code.{settle_if, leaves_if, leaves_registers_if}

pub in? : (a n i : ℕ) → In a n i ⊎ (In a n i → ⊥)
in? a n i = go (dec_le a i) (dec_lt i (a + n))
  where
    go : Dec (a ≤ i) → Dec (i < a + n) → In a n i ⊎ (In a n i → ⊥)
    go (yes l) (yes h) = inl (record { low = l; high = h })
    go (yes l) (no h) = inr (λ q. h q.high)
    go (no l) (yes h) = inr (λ q. l q.low)
    go (no l) (no h) = inr (λ q. l q.low)

-- get_or of an append, past the first
pub get_d_append_right : (xs ys : List ℕ) (i : ℕ) → length xs ≤ i → get_or (xs ++ ys) i 0 ≡ get_or ys (i - length xs) 0
get_d_append_right xs ys i h =
    let e : length xs + (i - length xs) ≡ i = omega arith in
    ap (λ (k : ℕ). get_or (xs ++ ys) k 0) (sym e) ∙ get_or-append-add xs ys (i - length xs) 0

pub part_length : (im : List ℕ) (a n : ℕ) → a + n ≤ length im → length (part im a n) ≡ n
part_length im a n h = simp (length-take, length-drop) (omega arith)

pub part_at : (im : List ℕ) (a n i : ℕ) → i < n → get_or (part im a n) i 0 ≡ get_or im (a + i) 0
part_at im a n i h = rw (get_or-take, get_or-drop)

module _ (im : List ℕ) (a n : ℕ) (w : List ℕ) (fits : a + n ≤ length im) (long : length w ≡ n) where
  pub splice-length : length (splice im a n w) ≡ length im
  unfolding splice
  splice-length = simp (length-append, length-take, length-drop) (omega arith)

  pub splice_in : (i : ℕ) → In a n i → get_or (splice im a n w) i 0 ≡ get_or w (i - a) 0
  unfolding splice
  splice_in i q =
      let l : length (take a im) ≡ a = length-take-le a im (omega arith) in
      get_d_append_right (take a im) (w ++ drop (a + n) im) i (omega arith)
      ∙ get_or-append w (drop (a + n) im) 0 (i - length (take a im)) (omega arith)
      ∙ ap (λ (k : ℕ). get_or w (i - k) 0) l

  pub splice_out : (i : ℕ) → (In a n i → ⊥) → get_or (splice im a n w) i 0 ≡ get_or im i 0
  unfolding splice
  splice_out i q = go (dec_lt i a) (dec_lt i (a + n))
    where
      l : length (take a im) ≡ a
      l = length-take-le a im (omega arith)

      go : Dec (i < a) → Dec (i < a + n) → get_or (splice im a n w) i 0 ≡ get_or im i 0
      go (yes h) (yes k) = get_or-append (take a im) (w ++ drop (a + n) im) 0 i (omega (arith, l)) ∙ get_or-take a im i 0 h
      go (yes h) (no k) = get_or-append (take a im) (w ++ drop (a + n) im) 0 i (omega (arith, l)) ∙ get_or-take a im i 0 h
      go (no h) (yes k) = absurd (q (record { low = omega arith; high = k }))
      go (no h) (no k) =
          get_d_append_right (take a im) (w ++ drop (a + n) im) i (omega (arith, l))
          ∙ get_d_append_right w (drop (a + n) im) (i - length (take a im)) (omega (arith, l))
          ∙ get_or-drop (a + n) im (i - length (take a im) - length w) 0
          ∙ ap (λ (k : ℕ). get_or im k 0) (omega (arith, l))

  -- a part that shares no byte with the one replaced
  pub splice-part : (b m : ℕ) → b + m ≤ length im → ((i : ℕ) → In a n i → In b m i → ⊥) → part (splice im a n w) b m ≡ part im b m
  splice-part b m fit apart =
      ext_get_or 0 (part (splice im a n w) b m) (part im b m) (lp ∙ sym lq)
      (λ i h. let k : i < m = omega (arith, lp) in
      part_at (splice im a n w) b m i k
      ∙ splice_out (b + i) (λ q. apart (b + i) q (record { low = omega arith; high = omega arith }))
      ∙ sym (part_at im b m i k))
    where
      lp : length (part (splice im a n w) b m) ≡ m
      lp = part_length (splice im a n w) b m (omega (arith, splice-length))

      lq : length (part im b m) ≡ m
      lq = part_length im b m fit

-- what a lent part leaves, as the logic has it, is the splice
pub splice_mid : (im : List ℕ) (a n : ℕ) (v w : List ℕ) → v ≡ w → take a im ++ (v ++ drop n (drop a im)) ≡ splice im a n w
unfolding splice
splice_mid im a n v w e = rw (e, drop-drop n a im)

-- a part that is left as it was leaves the image
pub splice-same : (im : List ℕ) (a n : ℕ) → splice im a n (part im a n) ≡ im
unfolding splice
splice-same im a n = rw (← drop-drop n a im, take-append-drop n (drop a im), take-append-drop a im)

-- the image and the registers after a window is settled or judged
pub splice_if : (write : Bool) (table : ℕ → Option ℕ) (im rs : List ℕ) (a n : ℕ) (pss : List (List Pointer))
    → splice im a n (settle_if table write (flatten pss) (state (part im a n) rs)).window ≡ leaves_if write table im rs (window a n pss)
splice_if true table im rs a n pss = refl
splice_if false table im rs a n pss = splice-same im a n

pub registers_if_lem : (write : Bool) (table : ℕ → Option ℕ) (im rs : List ℕ) (a n : ℕ) (pss : List (List Pointer))
    → (settle_if table write (flatten pss) (state (part im a n) rs)).registers ≡ leaves_registers_if write table im rs (window a n pss)
registers_if_lem true table im rs a n pss = refl
registers_if_lem false table im rs a n pss = refl
