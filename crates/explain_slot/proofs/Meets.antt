-- What the arrays tell of a slot is what the record's pointers tell.
use Prim.Native.Nat.{ℕ, ◌+◌, ◌*◌, ◌-◌, ◌/◌, ◌≤◌, ◌<◌}
use mathlib.Core.Path.{◌≡◌, refl, sym, ap, ◌∙◌}
use mathlib.Core.Bool.{Bool, true, false, cond, not, ◌&&◌}
use mathlib.Core.Option.{Option, none, some}
use mathlib.Core.List.{List, map, flatten}
use native.Mathlib.Omega.{arith}
use native.Mathlib.Decide.{dec_lt, dec_le}
use borrow.Author.Tests.{eq-eqb, ne_eqb, eqb-true, eqb-false, ltb-true, ltb-false, lt-ltb, le-ltb, le-leb, lt-leb}
use lib.Dec.{eqb, ltb}
use lib.ListN.{length, get_or}
use Rattle.stackmap.specs.Check.{Accepted}
use Rattle.moves.specs.Table.{look_up}
use Rattle.moves.specs.Search.{lowest}
use Rattle.moves.specs.Window.{part}
use Rattle.moves.specs.Slots.{Slot, memory, register, State, state, read, same}
use Rattle.moves.specs.Pointers.{Pointer, null, slots, or_zero}
use Rattle.moves.specs.Plan.{window, pair_of}
use Rattle.moves.specs.Arrays as arrays
use Rattle.moves.specs.Arrays.{registers_from, slot_of, Placed, AllPlaced}
use Rattle.moves.proofs.Words.{from_image, read-part}
use Rattle.moves.proofs.Numbers.{slot-memory, slot-register, placed_in}
use Rattle.moves_window.proofs.Meets.{pointers_length, pointers_at}
use Rattle.relocate.specs.Limits.{image_most, register_count}
use Rattle.relocate.specs.Restore.{Restore}
use Rattle.relocate.specs.Stopped.{Stopped, cursor}
use Rattle.relocate.specs.Plan.{plan}
use Rattle.relocate.specs.Relocation.{answer, in_image, content_at}
use Rattle.relocate.proofs.Planned.{Planned, planned}
use Rattle.relocate.proofs.Demand.{in_image_lem}
use Rattle.explain.specs.declared.Reason.TheVariants.{Unlisted, OnlyBase, NullBase, Moved, Refused}
use Rattle.explain.specs.Explain.{addressed, pointer_at, listed, Hit, lowest_pair, derives, has_base, old_base, moved_by, or_else, still, by_hit, accepted, explained}
use Rattle.explain_pointers.specs.Told.{number_of, named_at, base_at, moves_at, by_pointer, told_of, told}
use Rattle.explain_pointers.proofs.Searching.{lowest_true, moves_live}
use Rattle.explain_pointers.proofs.Lowest.{found, lost, none_found}

-- A slot is one number.

abbrev is_at : Option ℕ → ℕ → Bool
is_at none y = false
is_at (some z) y = eqb y z

-- two tests that agree
eqb_same : (a b c d : ℕ) → (a ≡ b → c ≡ d) → (c ≡ d → a ≡ b) → eqb a b ≡ eqb c d
eqb_same a b c d f g = go (eqb c d) refl
  where
    go : (t : Bool) → eqb c d ≡ t → eqb a b ≡ eqb c d
    go true e = eq-eqb a b (g (eqb-true c d e)) ∙ sym e
    go false e = ne_eqb a b (λ q. eqb-false c d e (f q)) ∙ sym e

module _ (sp size : ℕ) (small : size ≤ image_most) (y : ℕ) (p : Placed size register_count y) where
  memory-same : (a : ℕ) → Dec (y < registers_from) → Dec (sp ≤ a) → Dec (a - sp < registers_from) → same (addressed sp (slot_of y)) (memory a) ≡ is_at (number_of sp (memory a)) y
  unfolding same number_of
  memory-same a (yes l) (yes h) (yes i) = rw (slot-memory y l, le-leb sp a h, lt-ltb (a - sp) registers_from i) (eqb_same (sp + y) a y (a - sp) (λ e. omega arith) (λ e. omega arith))
  memory-same a (yes l) (yes h) (no i) = rw (slot-memory y l, le-leb sp a h, le-ltb (a - sp) registers_from (omega arith)) (ne_eqb (sp + y) a (λ e. omega arith))
  memory-same a (yes l) (no h) i = rw (slot-memory y l, lt-leb sp a (omega arith)) (ne_eqb (sp + y) a (λ e. omega arith))
  memory-same a (no l) (yes h) (yes i) = rw (slot-register y (omega arith), le-leb sp a h, lt-ltb (a - sp) registers_from i) (sym (ne_eqb y (a - sp) (λ e. omega arith)))
  memory-same a (no l) (yes h) (no i) = rw (slot-register y (omega arith), le-leb sp a h, le-ltb (a - sp) registers_from (omega arith))
  memory-same a (no l) (no h) i = rw (slot-register y (omega arith), lt-leb sp a (omega arith))

  register-same : (r : ℕ) → Dec (y < registers_from) → Dec (r < register_count) → same (addressed sp (slot_of y)) (register r) ≡ is_at (number_of sp (register r)) y
  unfolding same number_of
  register-same r (yes l) (yes h) = rw (slot-memory y l, lt-ltb r register_count h) (sym (ne_eqb y (registers_from + 8 * r) (λ e. omega arith)))
  register-same r (yes l) (no h) = rw (slot-memory y l, le-ltb r register_count (omega arith))
  register-same r (no l) (yes h) =
      let d = p.apart (omega arith) in
      rw (slot-register y (omega arith), lt-ltb r register_count h) (eqb_same ((y - registers_from) / 8) r y (registers_from + 8 * r) (λ e. omega arith) (λ e. omega arith))
  register-same r (no l) (no h) =
      let i = p.in_list (omega arith) in
      rw (slot-register y (omega arith), le-ltb r register_count (omega arith)) (ne_eqb ((y - registers_from) / 8) r (λ e. omega arith))

  number_same : (x : Slot) → same (addressed sp (slot_of y)) x ≡ is_at (number_of sp x) y
  number_same (memory a) = memory-same a (dec_lt y registers_from) (dec_le sp a) (dec_lt (a - sp) registers_from)
  number_same (register r) = register-same r (dec_lt y registers_from) (dec_lt r register_count)

addressed-is : (sp : ℕ) (x : Slot) → addressed sp x ≡ from_image sp x
addressed-is sp (memory a) = refl
addressed-is sp (register r) = refl

and_cond : (a b : Bool) → (a && b) ≡ cond a b false
and_cond true b = refl
and_cond false b = refl

cond_false : (a : Bool) → cond a false false ≡ false
cond_false true = refl
cond_false false = refl

module _ (R : Restore) (im : List ℕ) (st : Stopped) (x : Slot) where
  -- an accepted frame, by what the three searches find
  shape : (a b c : Option Hit) → lowest_pair (moved_by R im st x) 0 (listed R st) ≡ a → lowest_pair (derives x) 0 (listed R st) ≡ b
      → lowest_pair (has_base x) 0 (listed R st) ≡ c → accepted R im st x ≡ by_hit R im st a (or_else R im st b NullBase (or_else R im st c OnlyBase Unlisted))
  unfolding accepted still
  shape a b c e f g = rw (e, f, g)

  -- a refused frame, and an accepted one
  pub says_refused : (n p : ℕ) → (answer R im st).number ≡ n → (answer R im st).place ≡ p → (n ≡ 0 → ⊥) → explained R im st x ≡ Refused n p
  unfolding explained
  says_refused n p e i h = rw (e, i, ne_eqb n 0 h)

  says-accepted : (answer R im st).number ≡ 0 → explained R im st x ≡ accepted R im st x
  unfolding explained
  says-accepted h = rw (eq-eqb (answer R im st).number 0 h)

  module _ (off size : ℕ) (pss : List (List Pointer)) (is : plan R (length im) st ≡ window off size pss) where
    abbrev w : State
    w = state (part im off size) st.registers

    abbrev table : ℕ → Option ℕ
    table = look_up R.olds R.news

    module _ (k : Accepted R.section) (n : ℕ) (live bases derived : List ℕ) (held : arrays.pointers_of n live bases derived ≡ flatten pss)
        (placed : AllPlaced size register_count n live bases derived) (small : size ≤ image_most) where
      q : Planned R (length im) st off size pss
      q = planned R (length im) st (length R.section) k off size pss is

      abbrev sp : ℕ
      sp = (cursor st).sp

      pub listed-is : listed R st ≡ map (map (pointer_at sp)) pss
      unfolding listed
      listed-is = rw (q.one, ← q.pairs-are)

      pub long : n ≡ length (flatten pss)
      long = sym (pointers_length live bases derived n) ∙ ap length held

      pub at : (j : ℕ) → j < n → get_or (flatten pss) j null ≡ arrays.pointer_at live bases derived j
      at j l = ap (λ (ps : List Pointer). get_or ps j null) (sym held) ∙ pointers_at live bases derived n j l

      pub base_same : (y : ℕ) → Placed size register_count y → content_at R im st.registers (addressed sp (slot_of y)) ≡ read w (slot_of y)
      base_same y p =
          ap (λ (s : Slot). read (state im st.registers) (in_image R.first s)) (addressed-is sp (slot_of y))
          ∙ ap (read (state im st.registers)) (in_image_lem R.first sp off (slot_of y) q.low q.off_is)
          ∙ sym (read-part im st.registers off size register_count (slot_of y) (placed_in size register_count y p))

      -- the three tests of a pointer, where the slot's number is o
      module _ (o : Option ℕ) (num : (y : ℕ) → Placed size register_count y → same (addressed sp (slot_of y)) x ≡ is_at o y) where
        derives_go : (t : Bool) (b d : ℕ) → (t ≡ false → Placed size register_count d)
            → derives x (pointer_at sp (cond t null (slots (slot_of b) (slot_of d)))) ≡ cond t false (is_at o d)
        derives_go true b d p = refl
        derives_go false b d p = num d (p refl)

        base_go : (t : Bool) (b d : ℕ) → (t ≡ false → Placed size register_count b)
            → has_base x (pointer_at sp (cond t null (slots (slot_of b) (slot_of d)))) ≡ cond t false (is_at o b)
        base_go true b d p = refl
        base_go false b d p = num b (p refl)

        moves_go : (t : Bool) (b d : ℕ) → (t ≡ false → Placed size register_count b) → (t ≡ false → Placed size register_count d)
            → moved_by R im st x (pointer_at sp (cond t null (slots (slot_of b) (slot_of d)))) ≡ cond t false (cond (is_at o d) (not (eqb (read w (slot_of b)) 0)) false)
        moves_go true b d p r = refl
        moves_go false b d p r =
            ap (λ (t : Bool). t && not (eqb (content_at R im st.registers (addressed sp (slot_of b))) 0)) (num d (r refl))
            ∙ ap (λ (v : ℕ). is_at o d && not (eqb v 0)) (base_same b (p refl))
            ∙ and_cond (is_at o d) (not (eqb (read w (slot_of b)) 0))

        abbrev is_null : ℕ → Bool
        is_null j = eqb (get_or live j 0) 0

        derives-at : (j : ℕ) → j < n → derives x (pointer_at sp (get_or (flatten pss) j null)) ≡ cond (is_null j) false (is_at o (get_or derived j 0))
        unfolding arrays.pointer_at
        derives-at j l =
            ap (λ (p : Pointer). derives x (pointer_at sp p)) (at j l)
            ∙ derives_go (is_null j) (get_or bases j 0) (get_or derived j 0) (λ e. placed.derived_in j l (eqb-false (get_or live j 0) 0 e))

        base_at_lem : (j : ℕ) → j < n → has_base x (pointer_at sp (get_or (flatten pss) j null)) ≡ cond (is_null j) false (is_at o (get_or bases j 0))
        unfolding arrays.pointer_at
        base_at_lem j l =
            ap (λ (p : Pointer). has_base x (pointer_at sp p)) (at j l)
            ∙ base_go (is_null j) (get_or bases j 0) (get_or derived j 0) (λ e. placed.base_in j l (eqb-false (get_or live j 0) 0 e))

        moves_at_lem : (j : ℕ) → j < n → moved_by R im st x (pointer_at sp (get_or (flatten pss) j null))
            ≡ cond (is_null j) false (cond (is_at o (get_or derived j 0)) (not (eqb (base_at w live bases derived j) 0)) false)
        unfolding arrays.pointer_at
        moves_at_lem j l =
            ap (λ (p : Pointer). moved_by R im st x (pointer_at sp p)) (at j l)
            ∙ moves_go (is_null j) (get_or bases j 0) (get_or derived j 0) (λ e. placed.base_in j l (eqb-false (get_or live j 0) 0 e)) (λ e. placed.derived_in j l (eqb-false (get_or live j 0) 0 e))

      -- the searches of the record's pointers, by a test of the arrays
      module _ (test : Pointer → Bool) (t : ℕ → Bool) (agrees : (j : ℕ) → j < n → test (pointer_at sp (get_or (flatten pss) j null)) ≡ t j) where
        found_in : ltb (lowest t n) n ≡ true
            → lowest_pair test 0 (listed R st) ≡ some (record { pair = pair_of pss (lowest t n); pointer = pointer_at sp (get_or (flatten pss) (lowest t n) null) })
        found_in e = ap (lowest_pair test 0) listed-is ∙ found test (pointer_at sp) pss n long t agrees (ltb-true (lowest t n) n e)

        lost_in : ltb (lowest t n) n ≡ false → lowest_pair test 0 (listed R st) ≡ none
        lost_in e = ap (lowest_pair test 0) listed-is ∙ lost test (pointer_at sp) pss n long t agrees (ltb-false (lowest t n) n e)

      none_in : (test : Pointer → Bool) → ((j : ℕ) → j < n → test (pointer_at sp (get_or (flatten pss) j null)) ≡ false) → lowest_pair test 0 (listed R st) ≡ none
      none_in test b = ap (lowest_pair test 0) listed-is ∙ none_found test (pointer_at sp) pss (λ j l. b j (omega (arith, long)))

      -- no number: no pointer has the slot
      nowhere : ((y : ℕ) → Placed size register_count y → same (addressed sp (slot_of y)) x ≡ false) → accepted R im st x ≡ Unlisted
      nowhere num =
          shape none none none (none_in (moved_by R im st x) (λ j l. moves_at_lem none num j l ∙ cond_false (eqb (get_or live j 0) 0)))
          (none_in (derives x) (λ j l. derives-at none num j l ∙ cond_false (eqb (get_or live j 0) 0)))
          (none_in (has_base x) (λ j l. base_at_lem none num j l ∙ cond_false (eqb (get_or live j 0) 0)))

      -- the number z
      module _ (z : ℕ) (num : (y : ℕ) → Placed size register_count y → same (addressed sp (slot_of y)) x ≡ eqb y z) where
        abbrev t₁ : ℕ → Bool
        t₁ = moves_at w live bases derived z

        same₁ : (j : ℕ) → j < n → moved_by R im st x (pointer_at sp (get_or (flatten pss) j null)) ≡ t₁ j
        unfolding moves_at
        same₁ j l = moves_at_lem (some z) num j l

        same₂ : (j : ℕ) → j < n → derives x (pointer_at sp (get_or (flatten pss) j null)) ≡ named_at live derived z j
        unfolding named_at
        same₂ j l = derives-at (some z) num j l

        same₃ : (j : ℕ) → j < n → has_base x (pointer_at sp (get_or (flatten pss) j null)) ≡ named_at live bases z j
        unfolding named_at
        same₃ j l = base_at_lem (some z) num j l

        -- the old base of the pointer that moves it
        base-hit : (j : ℕ) → j < n → (get_or live j 0 ≡ 0 → ⊥) → old_base R im st (pointer_at sp (get_or (flatten pss) j null)) ≡ base_at w live bases derived j
        unfolding arrays.pointer_at
        base-hit j l h = ap (λ (p : Pointer). old_base R im st (pointer_at sp p)) (at j l) ∙ rw (ne_eqb (get_or live j 0) 0 h) (base_same (get_or bases j 0) (placed.base_in j l h))

        go : (b₁ : Bool) → ltb (lowest t₁ n) n ≡ b₁ → (b₂ : Bool) → ltb (lowest (named_at live derived z) n) n ≡ b₂
            → (b₃ : Bool) → ltb (lowest (named_at live bases z) n) n ≡ b₃
            → accepted R im st x ≡ cond b₁ (by_pointer w live bases derived table n pss (lowest t₁ n)) (cond b₂ NullBase (cond b₃ OnlyBase Unlisted))
        go true e₁ b₂ e₂ b₃ e₃ =
            let l = ltb-true (lowest t₁ n) n e₁ in
            shape _ _ _ (found_in (moved_by R im st x) t₁ same₁ e₁) refl refl
            ∙ ap (λ (v : ℕ). Moved (pair_of pss (lowest t₁ n)) v (or_zero (table v)))
            (base-hit (lowest t₁ n) l (moves_live w live bases derived z (lowest t₁ n) (lowest_true t₁ n l)))
        go false e₁ true e₂ b₃ e₃ = shape _ _ _ (lost_in (moved_by R im st x) t₁ same₁ e₁) (found_in (derives x) (named_at live derived z) same₂ e₂) refl
        go false e₁ false e₂ true e₃ =
            shape _ _ _ (lost_in (moved_by R im st x) t₁ same₁ e₁) (lost_in (derives x) (named_at live derived z) same₂ e₂) (found_in (has_base x) (named_at live bases z) same₃ e₃)
        go false e₁ false e₂ false e₃ =
            shape _ _ _ (lost_in (moved_by R im st x) t₁ same₁ e₁) (lost_in (derives x) (named_at live derived z) same₂ e₂) (lost_in (has_base x) (named_at live bases z) same₃ e₃)

        somewhere : accepted R im st x ≡ told_of w live bases derived table n pss z
        unfolding told_of
        somewhere = go (ltb (lowest t₁ n) n) refl (ltb (lowest (named_at live derived z) n) n) refl (ltb (lowest (named_at live bases z) n) n) refl

      told_is : (o : Option ℕ) → ((y : ℕ) → Placed size register_count y → same (addressed sp (slot_of y)) x ≡ is_at o y) → accepted R im st x ≡ told w live bases derived table n pss o
      told_is none num = nowhere num
      told_is (some z) num = somewhere z num

      pub says-told : (answer R im st).number ≡ 0 → explained R im st x ≡ told w live bases derived table n pss (number_of sp x)
      says-told h = says-accepted h ∙ told_is (number_of sp x) (λ y p. number_same sp size small y p x)
