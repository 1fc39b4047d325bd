-- The move of a window: cell by cell, and in any order of its pairs.
use Prim.Native.Nat.{ℕ, ◌+◌, ◌≤◌, ◌<◌}
use mathlib.Core.Path.{◌≡◌, refl, sym, ap, ◌∙◌}
use mathlib.Core.Bool.{Bool, true, false, cond, not, ◌&&◌, ◌||◌, true≢false, and_comm}
use mathlib.Core.Logic.{◌↔◌, ◌⊎◌, inl, inr}
use mathlib.Core.Option.{Option}
use mathlib.Core.List.Permᴰ
use mathlib.Core.List.{List, Memᴰ, Permᴰ}
use native.Mathlib.Omega.{arith}
use native.Mathlib.Decide.{ℕ_discrete}
use borrow.Author.Tests.{eqb-true, eqb-false, lt-ltb, le-ltb, ltb-true, ltb-false, eq-eqb, ne_eqb, not-false}
use lib.Dec.{eqb, ltb}
use lib.ListN.{length}
use Rattle.moves.specs.declared.Move.{Move}
use Rattle.moves.specs.Window.{In}
use Rattle.moves.specs.Slots.{Slot, memory, register, State, same, overlap, read}
use Rattle.moves.specs.Pointers.{Pointer, null, slots, any_overlap, clash, slots_clash, unknown, new_content}
use Rattle.moves.specs.Settle.{refused_move, accepted_move, at_lowest, first20, first21, write, settled, settle}
use Rattle.moves.proofs.Searches.{or_no, perm_mem, perm_length, pairwise_no, pairwise_perm, each_perm}
use Rattle.moves.proofs.Cells.{Cell, byte, whole, at, Touches, piece}
use Rattle.moves.proofs.Writes.{Agree, Inside, Hits, Shape, hits?, write_shape, write-hit, write_miss, ext_at}

eqb_sym : (x y : ℕ) → eqb x y ≡ eqb y x
eqb_sym x y = go (eqb x y) refl
  where
    go : (t : Bool) → eqb x y ≡ t → eqb x y ≡ eqb y x
    go true e = e ∙ sym (eq-eqb y x (sym (eqb-true x y e)))
    go false e = e ∙ sym (ne_eqb y x (λ q. eqb-false x y e (sym q)))

overlap_sym : (x y : Slot) → overlap x y ≡ overlap y x
unfolding overlap
overlap_sym (memory x) (memory y) = rw (eqb_sym x y, and_comm (ltb x (y + 8)) (ltb y (x + 8)))
overlap_sym (memory x) (register r) = refl
overlap_sym (register r) (memory x) = refl
overlap_sym (register r) (register q) = refl

same_sym : (x y : Slot) → same x y ≡ same y x
unfolding same
same_sym (memory x) (memory y) = eqb_sym x y
same_sym (memory x) (register r) = refl
same_sym (register r) (memory x) = refl
same_sym (register r) (register q) = eqb_sym r q

same_yes : (x y : Slot) → x ≡ y → same x y ≡ true
unfolding same
same_yes (memory x) y e = rw (← e) (eq-eqb x x refl)
same_yes (register r) y e = rw (← e) (eq-eqb r r refl)

or_left_comm : (a b c : Bool) → (a || (b || c)) ≡ (b || (a || c))
or_left_comm true true c = refl
or_left_comm true false c = refl
or_left_comm false true c = refl
or_left_comm false false c = refl

overlaps_sym : (b d b' d' : Slot) → any_overlap b d b' d' ≡ any_overlap b' d' b d
unfolding any_overlap
overlaps_sym b d b' d' =
    rw (overlap_sym b b', overlap_sym b d', overlap_sym d b', overlap_sym d d')
    (ap (λ (t : Bool). overlap b' b || t) (or_left_comm (overlap d' b) (overlap b' d) (overlap d' d)))

pub clash_sym : (w : State) (p q : Pointer) → clash w p q ≡ clash w q p
unfolding clash slots_clash
clash_sym w null null = refl
clash_sym w null (slots b d) = refl
clash_sym w (slots b d) null = refl
clash_sym w (slots b d) (slots b' d') = rw (overlaps_sym b d b' d', same_sym d d', eqb_sym (read w b) (read w b'))

meet_bytes : (d d' i : ℕ) → overlap (memory d) (memory d') ≡ false → In d 8 i → In d' 8 i → d ≡ d'
unfolding overlap
meet_bytes d d' i o q r = go (eqb d d') refl
  where
    go : (t : Bool) → eqb d d' ≡ t → d ≡ d'
    go true e = eqb-true d d' e
    go false e = absurd (true≢false (rw (e, lt-ltb d (d' + 8) (omega arith), lt-ltb d' (d + 8) (omega arith)) at o))

meet : (d d' : Slot) (c : Cell) → overlap d d' ≡ false → Touches d c → Touches d' c → d ≡ d'
meet (memory d) (memory d') (byte i) o q r = ap memory (meet_bytes d d' i o q r)
meet (memory d) (memory d') (whole k) o q r = absurd q
meet (memory d) (register s) (byte i) o q r = absurd r
meet (memory d) (register s) (whole k) o q r = absurd q
meet (register s) (memory d) (byte i) o q r = absurd q
meet (register s) (memory d) (whole k) o q r = absurd r
meet (register s) (register s') (byte i) o q r = absurd q
meet (register s) (register s') (whole k) o q r = ap register (sym q ∙ r)

same_base : (w : State) (b d b' d' : Slot) → d ≡ d' → (same d d' && not (eqb (read w b) (read w b'))) ≡ false → read w b ≡ read w b'
same_base w b d b' d' e o = eqb-true (read w b) (read w b') (not-false (eqb (read w b) (read w b')) (rw (same_yes d d' e) at o))

-- pairs that do not clash agree
derived-apart : (b d b' d' : Slot) → any_overlap b d b' d' ≡ false → overlap d d' ≡ false
unfolding any_overlap
derived-apart b d b' d' h = (or_no (overlap d b') _ (or_no (overlap b d') _ (or_no (overlap b b') _ h).1).1).1

clash_agree : (w : State) (ps : List Pointer) → ((p q : Pointer) → Memᴰ p ps → Memᴰ q ps → clash w p q ≡ false) → Agree w ps
unfolding clash slots_clash
clash_agree w ps h i b d b' d' m n q r = (e, same_base w b d b' d' e o.1)
  where
    o : (any_overlap b d b' d' ≡ false) × ((same d d' && not (eqb (read w b) (read w b'))) ≡ false)
    o = or_no _ _ (h (slots b d) (slots b' d') m n)

    e : d ≡ d'
    e = meet d d' i (derived-apart b d b' d' o.0) q r

first20_agree : (ps : List Pointer) (w : State) → length ps ≤ first20 ps w → Agree w ps
unfolding first20
first20_agree ps w e = clash_agree w ps (pairwise_no null (clash w) (clash_sym w) ps e)

first20_perm : {ps qs : List Pointer} (w : State) → Permᴰ ps qs → length ps ≤ first20 ps w → length qs ≤ first20 qs w
unfolding first20
first20_perm w p e = pairwise_perm null (clash w) (clash_sym w) p e

ltb_same : (a n a' n' : ℕ) → n ≤ a ↔ n' ≤ a' → ltb a n ≡ ltb a' n'
ltb_same a n a' n' f = go (ltb a n) refl (ltb a' n') refl
  where
    go : (s : Bool) → ltb a n ≡ s → (t : Bool) → ltb a' n' ≡ t → ltb a n ≡ ltb a' n'
    go true d true e = d ∙ sym e
    go false d false e = d ∙ sym e
    go true d false e = let l : n ≤ a = f.1 (ltb-false a' n' e) in absurd (omega (arith, ltb-true a n d))
    go false d true e = let l : n' ≤ a' = f.0 (ltb-false a n d) in absurd (omega (arith, ltb-true a' n' e))

-- the answer by the first pair that collides, the first whose base is unknown, and the number of pairs
abbrev answer_for : ℕ → ℕ → ℕ → Move
answer_for a u n = at_lowest 20 a n (at_lowest 21 u n (accepted_move n))

answer_0 : (a u n : ℕ) → (answer_for a u n).number ≡ 0 → (n ≤ a) × (n ≤ u)
unfolding at_lowest
answer_0 a u n = go (ltb a n) refl (ltb u n) refl
  where
    go : (s : Bool) → ltb a n ≡ s → (t : Bool) → ltb u n ≡ t
        → (cond s (refused_move 20 a) (cond t (refused_move 21 u) (accepted_move n))).number ≡ 0
        → (n ≤ a) × (n ≤ u)
    go true d t e z = absurd (omega arith)
    go false d true e z = absurd (omega arith)
    go false d false e z = (ltb-false a n d, ltb-false u n e)

-- two answers with one number and one count, and below 18 with one place
pub record Alike (a a' : Move) : Type 0 where
  pub number : a'.number ≡ a.number
  pub count : a'.count ≡ a.count
  pub place : a.number < 18 → a'.place ≡ a.place

answers_alike : (a u n a' u' n' : ℕ) → n ≤ a ↔ n' ≤ a' → n ≤ u ↔ n' ≤ u' → n ≡ n' → Alike (answer_for a u n) (answer_for a' u' n')
unfolding at_lowest
answers_alike a u n a' u' n' f g e = rw (ltb_same a n a' n' f, ltb_same u n u' n' g) (go (ltb a' n') (ltb u' n'))
  where
    go : (s t : Bool)
        → Alike (cond s (refused_move 20 a) (cond t (refused_move 21 u) (accepted_move n)))
        (cond s (refused_move 20 a') (cond t (refused_move 21 u') (accepted_move n')))
    go true t = record { number = refl; count = refl; place = λ l. absurd (omega arith) }
    go false true = record { number = refl; count = refl; place = λ l. absurd (omega arith) }
    go false false = record { number = refl; count = sym e; place = λ l. refl }

-- what holds of both holds of the one that is taken
either : (t : Bool) (new old : State) (P : State → Type 0) → P new → P old → P (cond t new old)
either true new old P p q = p
either false new old P p q = q

module _ (table : ℕ → Option ℕ) where
  first21_perm : {ps qs : List Pointer} (w : State) → Permᴰ ps qs → length ps ≤ first21 table ps w → length qs ≤ first21 table qs w
  unfolding first21
  first21_perm w p e = each_perm null (unknown table w) p e

  write_perm : {ps qs : List Pointer} (w : State) → Permᴰ ps qs → Agree w ps → Agree w qs → Inside w ps → write table w w ps ≡ write table w w qs
  write_perm {ps} {qs} w p ap aq inside =
      ext_at (write table w w ps) (write table w w qs)
      (let a = write_shape table ps w w in let z = write_shape table qs w w in record { windows = a.windows ∙ sym z.windows; lists = a.lists ∙ sym z.lists })
      (λ i. go i (hits? i ps))
    where
      back : Permᴰ qs ps
      back = Permᴰ.symm p

      go : (i : Cell) → Hits i ps ⊎ (Hits i ps → ⊥) → at (write table w w ps) i ≡ at (write table w w qs) i
      go i (inl h) =
          write-hit table ps w w ap inside i h.0 h.1 h.2 h.3
          ∙ sym (write-hit table qs w w aq (λ b d m. inside b d (perm_mem back m)) i h.0 h.1 (perm_mem p h.2) h.3)
      go i (inr n) = write_miss table ps w w i n ∙ sym (write_miss table qs w w i (λ h. n (h.0, h.1, perm_mem back h.2, h.3)))

  -- 3: the new window and the new registers, cell by cell
  pub settle_shape : (ps : List Pointer) (w : State) → Shape (settle table ps w) w
  unfolding settle
  settle_shape ps w =
      either (eqb (settled table ps w).number 0) (write table w w ps) w (λ l. Shape l w) (write_shape table ps w w) (record { windows = refl; lists = refl })

  pub settle-refused : (ps : List Pointer) (w : State) → ((settled table ps w).number ≡ 0 → ⊥) → settle table ps w ≡ w
  unfolding settle
  settle-refused ps w h = rw (ne_eqb (settled table ps w).number 0 h)

  pub passed : (ps : List Pointer) (w : State) → (settled table ps w).number ≡ 0 → (length ps ≤ first20 ps w) × (length ps ≤ first21 table ps w)
  unfolding settled
  passed ps w e = answer_0 (first20 ps w) (first21 table ps w) (length ps) e

  pub settle-accepted : (ps : List Pointer) (w : State) → (settled table ps w).number ≡ 0 → settle table ps w ≡ write table w w ps
  unfolding settle
  settle-accepted ps w e = rw (eq-eqb (settled table ps w).number 0 e)

  -- the whole of an accepted answer, and the count of a refused one
  pub accepted-whole : (ps : List Pointer) (w : State) → (settled table ps w).number ≡ 0 → settled table ps w ≡ accepted_move (length ps)
  unfolding settled at_lowest
  accepted-whole ps w e = let o = passed ps w e in rw (le-ltb _ _ o.0, le-ltb _ _ o.1)

  pub refused-count : (ps : List Pointer) (w : State) → ((settled table ps w).number ≡ 0 → ⊥) → (settled table ps w).count ≡ 0
  unfolding settled at_lowest
  refused-count ps w = go (ltb (first20 ps w) (length ps)) (ltb (first21 table ps w) (length ps))
    where
      by : Bool → Bool → Move
      by s t = cond s (refused_move 20 (first20 ps w)) (cond t (refused_move 21 (first21 table ps w)) (accepted_move (length ps)))

      go : (s t : Bool) → ((by s t).number ≡ 0 → ⊥) → (by s t).count ≡ 0
      go true t n = refl
      go false true n = refl
      go false false n = absurd (n refl)

  -- a number below 18 is 0, and a place is one of a pointer, or 0
  pub settled-early : (ps : List Pointer) (w : State) → (settled table ps w).number < 18 → (settled table ps w).number ≡ 0
  unfolding settled at_lowest
  settled-early ps w = go (ltb (first20 ps w) (length ps)) (ltb (first21 table ps w) (length ps))
    where
      by : Bool → Bool → Move
      by s t = cond s (refused_move 20 (first20 ps w)) (cond t (refused_move 21 (first21 table ps w)) (accepted_move (length ps)))

      go : (s t : Bool) → (by s t).number < 18 → (by s t).number ≡ 0
      go true t h = absurd (omega arith)
      go false true h = absurd (omega arith)
      go false false h = refl

  pub settled-place : (ps : List Pointer) (w : State) → (settled table ps w).place ≤ length ps
  unfolding settled at_lowest
  settled-place ps w = go (ltb (first20 ps w) (length ps)) refl (ltb (first21 table ps w) (length ps)) refl
    where
      by : Bool → Bool → Move
      by s t = cond s (refused_move 20 (first20 ps w)) (cond t (refused_move 21 (first21 table ps w)) (accepted_move (length ps)))

      go : (s : Bool) → ltb (first20 ps w) (length ps) ≡ s → (t : Bool) → ltb (first21 table ps w) (length ps) ≡ t → (by s t).place ≤ length ps
      go true d t e = omega (arith, ltb-true (first20 ps w) (length ps) d)
      go false d true e = omega (arith, ltb-true (first21 table ps w) (length ps) e)
      go false d false e = omega arith

  -- no count is above the number of pointers
  pub settled-most : (ps : List Pointer) (w : State) → (settled table ps w).count ≤ length ps
  settled-most ps w = go (ℕ_discrete (settled table ps w).number 0)
    where
      go : Dec ((settled table ps w).number ≡ 0) → (settled table ps w).count ≤ length ps
      go (yes e) = rw (accepted-whole ps w e) (omega arith)
      go (no n) = rw (refused-count ps w n) (omega arith)

  pub settle-hit : (ps : List Pointer) (w : State) → (settled table ps w).number ≡ 0 → Inside w ps
      → (c : Cell) (b d : Slot) → Memᴰ (slots b d) ps → Touches d c → at (settle table ps w) c ≡ piece (new_content table w b d) d c
  settle-hit ps w e inside c b d m q =
      rw (settle-accepted ps w e) (write-hit table ps w w (first20_agree ps w (passed ps w e).0) inside c b d m q)

  pub settle_miss : (ps : List Pointer) (w : State) (c : Cell) → (Hits c ps → ⊥) → at (settle table ps w) c ≡ at w c
  unfolding settle
  settle_miss ps w c n =
      either (eqb (settled table ps w).number 0) (write table w w ps) w (λ l. at l c ≡ at w c) (write_miss table ps w w c n) refl

  -- 4: another order of the pairs
  module _ {ps qs : List Pointer} (w : State) (p : Permᴰ ps qs) where
    settled_perm : Alike (settled table ps w) (settled table qs w)
    unfolding settled
    settled_perm =
        answers_alike (first20 ps w) (first21 table ps w) (length ps) (first20 qs w) (first21 table qs w) (length qs)
        (first20_perm w p, first20_perm w (Permᴰ.symm p)) (first21_perm w p, first21_perm w (Permᴰ.symm p)) (perm_length p)

    pub settle_perm : Inside w ps → Alike (settled table ps w) (settled table qs w) × (settle table ps w ≡ settle table qs w)
    settle_perm inside = (settled_perm, go (ℕ_discrete (settled table ps w).number 0))
      where
        go : Dec ((settled table ps w).number ≡ 0) → settle table ps w ≡ settle table qs w
        go (yes e) =
            let e' : (settled table qs w).number ≡ 0 = settled_perm.number ∙ e in
            settle-accepted ps w e
            ∙ write_perm w p (first20_agree ps w (passed ps w e).0) (first20_agree qs w (passed qs w e').0) inside
            ∙ sym (settle-accepted qs w e')
        go (no n) = settle-refused ps w n ∙ sym (settle-refused qs w (λ z. n (sym settled_perm.number ∙ z)))
