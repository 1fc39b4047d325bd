-- The rows that the arrays give are those of the record's pointers.
use Prim.Native.Nat.{ℕ, zero, suc, ◌+◌, ◌*◌, ◌-◌, ◌/◌, ◌^◌, ◌<◌}
use mathlib.Core.Path.{◌≡◌, refl, sym, ap, ◌∙◌, subst}
use mathlib.Core.Bool.{Bool, true, false, cond}
use mathlib.Core.Option.{Option, some}
use mathlib.Core.List.{List, [], ◌∷◌, ◌++◌, map, flatten, append_assoc}
use native.Mathlib.Omega.{arith}
use native.Mathlib.Decide.{dec_lt}
use borrow.Author.Tests.{lt-ltb, le-ltb, eqb-false, leb-true}
use lib.Dec.{eqb, leb}
use lib.ListN.{length, get_or, take, drop, length-append, get_or-append}
use lib.Seq.{sets, get_or-append-add}
use Rattle.stackmap.proofs.Tests.{and_true}
use Rattle.moves.specs.declared.Move.{Move}
use Rattle.moves.specs.Table.{look_up}
use Rattle.moves.specs.Window.{part}
use Rattle.moves.specs.Slots.{Slot, memory, register, State, state}
use Rattle.moves.specs.Pointers.{Pointer, null, slots}
use Rattle.moves.specs.Plan.{pair_of}
use Rattle.moves.specs.Arrays as arrays
use Rattle.moves.specs.Arrays.{registers_from, slot_of, Placed}
use Rattle.moves.proofs.Numbers.{slot-memory, slot-register}
use Rattle.relocate.specs.declared.Cursor.{Cursor}
use Rattle.relocate.specs.Limits.{register_count}
use Rattle.relocate.specs.Restore.{Restore}
use Rattle.relocate.specs.Stopped.{Stopped, cursor}
use Rattle.relocate.specs.Plan.{image_right}
use Rattle.relocate_plan.specs.declared.Outline.{Outline}
use Rattle.relocate_judge.specs.Judged.{pointers_in, Held}
use Rattle.explain.specs.Explain.{addressed, pointer_at}
use Rattle.explain.specs.Rows.{sort_of, reason_numbers, no_slot, slot_row, pointer_row, rows_from, frame_rows, rows_of}
use Rattle.explain_pointers.specs.Told.{number_of, told}
use Rattle.explain_pointers.proofs.Searching.{number_at, number-register}
use Rattle.explain_slot.proofs.Meets.{listed-is, long, at, base_same}
use Rattle.explain_slot.proofs.Leading.{window_of, tells_held}
use Rattle.explain_numbers.specs.Numbers.{sort_at, place_at}
use Rattle.explain_rows.specs.Written.{in_order, slot_by, slots_by, row_by}
use Rattle.explain_laws.proofs.Lengths.{rows-length}

-- Rows in order.

order-shift : (row : ℕ → List ℕ) (n j : ℕ) → in_order row n (suc j) ≡ in_order (λ i. row (suc i)) n j
order-shift row zero j = refl
order-shift row (suc n) j = ap (λ (l : List ℕ). row (suc j) ++ l) (order-shift row n (suc j))

order_same : (row row' : ℕ → List ℕ) (n j j' : ℕ) → ((i : ℕ) → i < n → row (j + i) ≡ row' (j' + i)) → in_order row n j ≡ in_order row' n j'
order_same row row' zero j j' h = refl
order_same row row' (suc n) j j' h =
    let a : row j ≡ row' j' = ap row (omega arith) ∙ h 0 (omega arith) ∙ ap row' (omega arith) in
    ap (λ (l : List ℕ). l ++ in_order row n (suc j)) a
    ∙ ap (λ (l : List ℕ). row' j' ++ l)
    (order_same row row' n (suc j) (suc j') (λ i l. ap row (omega arith) ∙ h (suc i) (omega arith) ∙ ap row' (omega arith)))

order-append : (row : ℕ → List ℕ) (a b j : ℕ) → in_order row (a + b) j ≡ in_order row a j ++ in_order row b (j + a)
order-append row zero b j = let x : 0 + b ≡ b = omega arith in let y : j + 0 ≡ j = omega arith in rw (x, y)
order-append row (suc a) b j =
    let z : suc a + b ≡ suc (a + b) = omega arith in
    ap (λ (m : ℕ). in_order row m j) z
    ∙ ap (λ (l : List ℕ). row j ++ l) (order-append row a b (suc j) ∙ ap (λ (m : ℕ). in_order row a (suc j) ++ in_order row b m) (omega arith))
    ∙ sym (append_assoc (row j) (in_order row a (suc j)) (in_order row b (j + suc a)))

flatten_append : (xs ys : List (List ℕ)) → flatten (xs ++ ys) ≡ flatten xs ++ flatten ys
unfolding flatten
flatten_append [] ys = refl
flatten_append (x ∷ xs) ys = ap (λ (l : List ℕ). x ++ l) (flatten_append xs ys) ∙ sym (append_assoc x (flatten xs) (flatten ys))

-- The rows of a list of pairs, by the numbers of its pointers.

module _ (R : Restore) (im : List ℕ) (st : Stopped) (k : ℕ) (g : Pointer → Pointer) where
  -- pointer j, where the first pair has number i
  abbrev row_at : ℕ → List (List Pointer) → ℕ → List ℕ
  row_at i pss j = pointer_row R im st k (i + pair_of pss j) (g (get_or (flatten pss) j null))

  near_row : (i : ℕ) (ps : List Pointer) (pss : List (List Pointer)) (j : ℕ) → j < length ps → pointer_row R im st k i (g (get_or ps j null)) ≡ row_at i (ps ∷ pss) j
  unfolding pair_of flatten
  near_row i ps pss j l = let z : i + 0 ≡ i = omega arith in rw (lt-ltb j (length ps) l, get_or-append ps (flatten pss) null j l, z)

  far_row : (i : ℕ) (ps : List Pointer) (pss : List (List Pointer)) (j : ℕ) → row_at (suc i) pss j ≡ row_at i (ps ∷ pss) (length ps + j)
  unfolding pair_of flatten
  far_row i ps pss j =
      let y : length ps + j - length ps ≡ j = omega arith in
      let z : i + suc (pair_of pss j) ≡ suc i + pair_of pss j = omega arith in
      rw (le-ltb (length ps + j) (length ps) (omega arith), get_or-append-add ps (flatten pss) j null, y, z)

  pair-rows : (i : ℕ) (ps : List Pointer)
      → flatten (map (pointer_row R im st k i) (map g ps)) ≡ in_order (λ j. pointer_row R im st k i (g (get_or ps j null))) (length ps) 0
  unfolding flatten
  pair-rows i [] = refl
  pair-rows i (p ∷ ps) =
      ap (λ (l : List ℕ). pointer_row R im st k i (g p) ++ l)
      (pair-rows i ps ∙ sym (order-shift (λ j. pointer_row R im st k i (g (get_or (p ∷ ps) j null))) (length ps) 0))

  all-rows : (i : ℕ) (pss : List (List Pointer)) → flatten (rows_from R im st k i (map (map g) pss)) ≡ in_order (row_at i pss) (length (flatten pss)) 0
  unfolding flatten
  all-rows i [] = refl
  all-rows i (ps ∷ pss) =
      flatten_append (map (pointer_row R im st k i) (map g ps)) (rows_from R im st k (suc i) (map (map g) pss))
      ∙ ap (λ (l : List ℕ). l ++ flatten (rows_from R im st k (suc i) (map (map g) pss))) (pair-rows i ps ∙ order_same _ (row_at i (ps ∷ pss)) (length ps) 0 0 (λ j l. near_row i ps pss (0 + j) (omega arith)))
      ∙ ap (λ (l : List ℕ). in_order (row_at i (ps ∷ pss)) (length ps) 0 ++ l)
      (all-rows (suc i) pss ∙ order_same _ (row_at i (ps ∷ pss)) (length (flatten pss)) 0 (0 + length ps) (λ j l. let z : 0 + j ≡ j = omega arith in let y : 0 + length ps + j ≡ length ps + j = omega arith in rw (z, y) (far_row i ps pss j)))
      ∙ sym (order-append (row_at i (ps ∷ pss)) (length ps) (length (flatten pss)) 0)
      ∙ ap (λ (m : ℕ). in_order (row_at i (ps ∷ pss)) m 0) (sym (length-append ps (flatten pss)))

-- A slot of the arrays is its own number.

number_own : (sp size y : ℕ) → Placed size register_count y → number_of sp (addressed sp (slot_of y)) ≡ some y
number_own sp size y p = go (dec_lt y registers_from)
  where
    go : Dec (y < registers_from) → number_of sp (addressed sp (slot_of y)) ≡ some y
    go (yes l) =
        let z : sp + y - sp ≡ y = omega arith in
        ap (λ (s : Slot). number_of sp (addressed sp s)) (slot-memory y l) ∙ sym (number_at sp (sp + y) (omega arith) (omega arith)) ∙ ap some z
    go (no l) =
        let i = p.in_list (omega arith) in
        let d = p.apart (omega arith) in
        let z : registers_from + 8 * ((y - registers_from) / 8) ≡ y = omega arith in
        ap (λ (s : Slot). number_of sp (addressed sp s)) (slot-register y (omega arith)) ∙ sym (number-register sp ((y - registers_from) / 8) (omega arith)) ∙ ap some z

sort_addressed : (sp : ℕ) (x : Slot) → sort_of x ≡ sort_of (addressed sp x)
sort_addressed sp (memory a) = refl
sort_addressed sp (register r) = refl

three_and : (a a' b c c' : ℕ) (l l' : List ℕ) → a ≡ a' → c ≡ c' → l ≡ l' → a ∷ b ∷ c ∷ l ≡ a' ∷ b ∷ c' ∷ l'
three_and a a' b c c' l l' x y z = cc

module _ (R : Restore) (im : List ℕ) (st : Stopped) (o : Outline) (live bases derived : List ℕ) (h : Held R im st (cursor st) o live bases derived) where
  abbrev f : Cursor
  f = cursor st

  abbrev pss : List (List Pointer)
  pss = pointers_in R f o

  abbrev n : ℕ
  n = o.pointers

  abbrev w : State
  w = window_of R im st f o live bases derived (register 0)

  abbrev table : ℕ → Option ℕ
  table = look_up R.olds R.news

  abbrev Own : ℕ → Type 0
  Own y = Placed o.size register_count y

  -- the slot with the number y
  slot_row_lem : (y : ℕ) → Own y → slot_by w live bases derived table n pss f.sp y ≡ slot_row R im st (addressed f.sp (slot_of y))
  unfolding sort_at place_at
  slot_row_lem y p =
      let x = addressed f.sp (slot_of y) in
      three_and _ _ _ _ _ _ _ (sort_addressed f.sp (slot_of y))
      (sym (base_same R im st x (f.sp - R.first) o.size pss h.is_window h.accepted n live bases derived h.holds h.placed h.stands.small y p))
      (ap reason_numbers
      (ap (told w live bases derived table n pss) (sym (number_own f.sp o.size y p)) ∙ tells_held R im st f o live bases derived x h))

  row_go : (k i : ℕ) (t : Bool) (b d : ℕ) → (t ≡ false → Own b) → (t ≡ false → Own d)
      → k ∷ i ∷ cond t (no_slot ++ no_slot) (slot_by w live bases derived table n pss f.sp b ++ slot_by w live bases derived table n pss f.sp d)
      ≡ pointer_row R im st k i (pointer_at f.sp (cond t null (slots (slot_of b) (slot_of d))))
  row_go k i true b d p q = refl
  row_go k i false b d p q =
      ap (λ (l : List ℕ). k ∷ i ∷ (l ++ slot_by w live bases derived table n pss f.sp d)) (slot_row_lem b (p refl))
      ∙ ap (λ (l : List ℕ). k ∷ i ∷ (slot_row R im st (addressed f.sp (slot_of b)) ++ l)) (slot_row_lem d (q refl))

  row_same : (k j : ℕ) → j < n → row_by w live bases derived table n pss f.sp k j ≡ pointer_row R im st k (pair_of pss j) (pointer_at f.sp (get_or (flatten pss) j null))
  unfolding row_by slots_by arrays.pointer_at
  row_same k j l =
      row_go k (pair_of pss j) (eqb (get_or live j 0) 0) (get_or bases j 0) (get_or derived j 0)
      (λ e. h.placed.base_in j l (eqb-false (get_or live j 0) 0 e)) (λ e. h.placed.derived_in j l (eqb-false (get_or live j 0) 0 e))
      ∙ ap (λ (p : Pointer). pointer_row R im st k (pair_of pss j) (pointer_at f.sp p))
      (sym (at R im st (register 0) (f.sp - R.first) o.size pss h.is_window h.accepted n live bases derived h.holds h.placed h.stands.small j l))

  own_rows : (k : ℕ) → in_order (row_by w live bases derived table n pss f.sp k) n 0 ≡ rows_of R im st k
  unfolding rows_of frame_rows
  own_rows k =
      order_same _ (row_at R im st k (pointer_at f.sp) 0 pss) n 0 0
      (λ j l. row_same k (0 + j) (omega arith) ∙ ap (λ (i : ℕ). pointer_row R im st k i (pointer_at f.sp (get_or (flatten pss) (0 + j) null))) (omega arith))
      ∙ ap (λ (m : ℕ). in_order (row_at R im st k (pointer_at f.sp) 0 pss) m 0) (long R im st (register 0) (f.sp - R.first) o.size pss h.is_window h.accepted n live bases derived h.holds h.placed h.stands.small)
      ∙ sym (all-rows R im st k (pointer_at f.sp) 0 pss)
      ∙ ap (λ (l : List (List Pointer)). flatten (rows_from R im st k 0 l))
      (sym (listed-is R im st (register 0) (f.sp - R.first) o.size pss h.is_window h.accepted n live bases derived h.holds h.placed h.stands.small))

-- the rows that are written of an accepted frame are its own
pub held_rows : (R : Restore) (im : List ℕ) (st : Stopped) (f : Cursor) (o : Outline) (live bases derived : List ℕ) → Held R im st f o live bases derived → (k : ℕ)
    → in_order (row_by (state (part im (f.sp - R.first) o.size) st.registers) live bases derived (look_up R.olds R.news) o.pointers (pointers_in R f o) f.sp k) o.pointers 0 ≡ rows_of R im st k
held_rows R im st f o live bases derived h k =
    subst
    (λ (q : Cursor). Held R im st q o live bases derived → in_order (row_by (state (part im (q.sp - R.first) o.size) st.registers) live bases derived (look_up R.olds R.news) o.pointers (pointers_in R q o) q.sp k)
    o.pointers 0 ≡ rows_of R im st k)
    (sym h.cursor_is) (λ g. own_rows R im st o live bases derived g k) h

-- as the code writes them, by the slice that it takes of the image
pub frame-put : (R : Restore) (im : List ℕ) (st : Stopped) (f : Cursor) (o : Outline) (live bases derived : List ℕ) → Held R im st f o live bases derived
    → (k : ℕ) (out after : List ℕ) (to n : ℕ) → n ≡ o.size
    → after ≡ sets out to (in_order (row_by (state (take n (drop (f.sp - R.first) im)) st.registers) live bases derived (look_up R.olds R.news) o.pointers (pointers_in R f o) f.sp k) o.pointers 0)
    → after ≡ sets out to (rows_of R im st k)
frame-put R im st f o live bases derived h k out after to n e q = q ∙ rw e (ap (sets out to) (held_rows R im st f o live bases derived h k))

-- how many numbers they are
pub held-length : (R : Restore) (im : List ℕ) (st : Stopped) (f : Cursor) (o : Outline) (live bases derived : List ℕ) → Held R im st f o live bases derived
    → (k : ℕ) → length (rows_of R im st k) ≡ 16 * o.pointers
held-length R im st f o live bases derived h k =
    rows-length R im st (ap (λ (m : Move). m.number) h.answer_is) k ∙ ap (λ (m : Move). 16 * m.count) h.answer_is

pub image-ends : (first n : ℕ) → image_right first n ≡ true → first + n < 2 ^ 64
unfolding image_right
image-ends first n h =
    let m = leb-true (first + n) (2 ^ 64 - 1) (and_true (leb n 1048576) (leb (first + n) (2 ^ 64 - 1)) h).1 in
    omega arith
