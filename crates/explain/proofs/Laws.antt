-- The reasons and the move.
use Prim.Native.Nat.{ℕ, ◌+◌, ◌-◌, ◌%◌, ◌^◌, ◌<◌}
use mathlib.Core.Path.{◌≡◌, refl, sym, ap, ◌∙◌, subst}
use mathlib.Core.Bool.{true, false, not, ◌&&◌, true≢false}
use mathlib.Core.Option.{Option, none, some}
use mathlib.Core.List.Memᴰ
use mathlib.Core.List.{List, [], ◌∷◌, flatten, Memᴰ}
use native.Mathlib.Omega.{arith}
use native.Mathlib.Decide.{ℕ_discrete}
use borrow.Author.Tests.{eqb-true, eq-eqb, ne_eqb, lt-ltb}
use lib.Dec.{eqb, ltb}
use Rattle.wire.specs.Word.{Bytes}
use Rattle.stackmap.proofs.Tests.{and_true, not-false}
use Rattle.stackmap.specs.Section.{Entry}
use Rattle.moves.specs.declared.Move.{Move}
use Rattle.moves.specs.Window.{In}
use Rattle.moves.specs.Slots.{Slot, memory, register, overlap}
use Rattle.moves.specs.Pointers.{Pointer, null, slots, or_zero, new_derived, new_content}
use Rattle.moves.specs.Table.{look_up}
use Rattle.moves.proofs.Words.{word_local}
use Rattle.relocate.specs.Restore.{Restore}
use Rattle.relocate.specs.Stopped.{Stopped, stopped}
use Rattle.relocate.specs.Plan.{records_of}
use Rattle.relocate.specs.Relocation.{answer, moved, moved_registers, ListedPointer, content_at, new_content_at}
use Rattle.relocate.specs.Consequences.{Words, AgreeOnSlots}
use Rattle.relocate.proofs.Consequences.{untouched, alone, registers_alone, slots-low, new-content, content_bound, content_agrees, only_slots_count}
use Rattle.explain.specs.declared.Reason.{Reason}
use Rattle.explain.specs.declared.Reason.TheVariants.{Unlisted, OnlyBase, NullBase, Moved, Refused}
use Rattle.explain.specs.Explain.{Hit, lowest_pair, pointers_in, listed, derives, has_base, old_base, moved_by, or_else, still, by_hit, accepted, explained}
use Rattle.explain.specs.Laws.{SaysRefused, Derived, IsMoved, SaysDerived, NewContent, SaysContent, NotBefore, Stays, Explains}
use Rattle.explain.proofs.Hits.{Hits, Misses, pair-some, pair-none, pair_same}
use Rattle.explain.proofs.Listed.{same_true, same_self, lists, is-listed}

explained_yes : (R : Restore) (im : List ℕ) (f : Stopped) (x : Slot) → (answer R im f).number ≡ 0 → explained R im f x ≡ accepted R im f x
unfolding explained
explained_yes R im f x h = rw (eq-eqb _ _ h)

explained_no : (R : Restore) (im : List ℕ) (f : Stopped) (x : Slot) → ((answer R im f).number ≡ 0 → ⊥)
    → explained R im f x ≡ Refused (answer R im f).number (answer R im f).place
unfolding explained
explained_no R im f x h = rw (ne_eqb _ _ h)

-- what an accepted frame is told is no refusal
abbrev NoRefusal : Reason → Type 0
NoRefusal Unlisted = Unit {0}
NoRefusal OnlyBase = Unit {0}
NoRefusal NullBase = Unit {0}
NoRefusal (Moved p o n) = Unit {0}
NoRefusal (Refused n p) = ⊥

-- The four cases of an accepted frame.

pub data Told (R : Restore) (im : List ℕ) (f : Stopped) (x : Slot) : Reason → Type 0 where
  told_moved : (h : Hit) → Hits (moved_by R im f x) (flatten (listed R f)) h
      → Told R im f x (Moved h.pair (old_base R im f h.pointer) (or_zero (look_up R.olds R.news (old_base R im f h.pointer))))
  told-null : (h : Hit) → Hits (derives x) (flatten (listed R f)) h → Misses (moved_by R im f x) (flatten (listed R f)) → Told R im f x NullBase
  told-base : (h : Hit) → Hits (has_base x) (flatten (listed R f)) h → Misses (derives x) (flatten (listed R f)) → Told R im f x OnlyBase
  told_none : Misses (derives x) (flatten (listed R f)) → Misses (has_base x) (flatten (listed R f)) → Told R im f x Unlisted

told : (R : Restore) (im : List ℕ) (f : Stopped) (x : Slot) → Told R im f x (accepted R im f x)
unfolding accepted still
told R im f x = go (lowest_pair (moved_by R im f x) 0 (listed R f)) refl
  where
    base : Misses (derives x) (flatten (listed R f)) → (o : Option Hit) → lowest_pair (has_base x) 0 (listed R f) ≡ o → Told R im f x (or_else R im f o OnlyBase Unlisted)
    base m (some h) e = told-base h (pair-some (has_base x) 0 (listed R f) h e) m
    base m none e = told_none m (pair-none (has_base x) 0 (listed R f) e)

    null-base : Misses (moved_by R im f x) (flatten (listed R f)) → (o : Option Hit) → lowest_pair (derives x) 0 (listed R f) ≡ o
        → Told R im f x (or_else R im f o NullBase (or_else R im f (lowest_pair (has_base x) 0 (listed R f)) OnlyBase Unlisted))
    null-base m (some h) e = told-null h (pair-some (derives x) 0 (listed R f) h e) m
    null-base m none e = base (pair-none (derives x) 0 (listed R f) e) (lowest_pair (has_base x) 0 (listed R f)) refl

    go : (o : Option Hit) → lowest_pair (moved_by R im f x) 0 (listed R f) ≡ o
        → Told R im f x (by_hit R im f o (or_else R im f (lowest_pair (derives x) 0 (listed R f)) NullBase (or_else R im f (lowest_pair (has_base x) 0 (listed R f)) OnlyBase Unlisted)))
    go (some h) e = told_moved h (pair-some (moved_by R im f x) 0 (listed R f) h e)
    go none e = null-base (pair-none (moved_by R im f x) 0 (listed R f) e) (lowest_pair (derives x) 0 (listed R f)) refl

told_no_refusal : (R : Restore) (im : List ℕ) (f : Stopped) (x : Slot) (r : Reason) → Told R im f x r → NoRefusal r
told_no_refusal R im f x r (told_moved h e) = tt
told_no_refusal R im f x r (told-null h e m) = tt
told_no_refusal R im f x r (told-base h e m) = tt
told_no_refusal R im f x r (told_none m n) = tt

says_refused : SaysRefused
says_refused =
    record {
      when_refused = explained_no;
      only_refused = λ R im f x n p e h.
          subst NoRefusal (sym (explained_yes R im f x h) ∙ e) (told_no_refusal R im f x (accepted R im f x) (told R im f x));
    }

-- A hit is a derived slot.

-- a pointer that derives x, by its base
derives-base : (x : Slot) (p : Pointer) → derives x p ≡ true → (b : Slot) × (p ≡ slots b x)
derives-base x null h = absurd (true≢false (sym h))
derives-base x (slots b d) h = (b, ap (slots b) (same_true d x h))

module _ (R : Restore) (im : List ℕ) (f : Stopped) (x : Slot) (yes : (answer R im f).number ≡ 0) where
  hit-base : (p : Pointer) → Memᴰ p (flatten (listed R f)) → derives x p ≡ true → (b : Slot) × (p ≡ slots b x) × ListedPointer R.section f b x
  hit-base p m h =
      let d = derives-base x p h in
      (d.0, d.1, lists R im f yes d.0 x (subst (λ (q : Pointer). Memᴰ q (flatten (listed R f))) d.1 m))

  misses_derived : Misses (derives x) (flatten (listed R f)) → Derived R f x → ⊥
  misses_derived m d = true≢false (sym (same_self x) ∙ m (slots d.base x) (is-listed R im f yes d.base x d.lists))

  derived-moved : (r : Reason) → Told R im f x r → Derived R f x → IsMoved r
  derived-moved r (told_moved h e) d = tt
  derived-moved r (told-null h e m) d = tt
  derived-moved r (told-base h e m) d = misses_derived m d
  derived-moved r (told_none m n) d = misses_derived m d

  moved-derived : (r : Reason) → Told R im f x r → IsMoved r → Derived R f x
  moved-derived r (told_moved h e) i =
      let b = hit-base h.pointer e.member (and_true (derives x h.pointer) _ e.holds).0 in
      record { base = b.0; lists = b.2 }
  moved-derived r (told-null h e m) i = let b = hit-base h.pointer e.member e.holds in record { base = b.0; lists = b.2 }
  moved-derived r (told-base h e m) i = absurd i
  moved-derived r (told_none m n) i = absurd i

refused_not_moved : (R : Restore) (im : List ℕ) (f : Stopped) (x : Slot) → ((answer R im f).number ≡ 0 → ⊥) → IsMoved (explained R im f x) → ⊥
refused_not_moved R im f x n i = subst IsMoved (explained_no R im f x n) i

only_derived : (R : Restore) (im : List ℕ) (f : Stopped) (x : Slot) → IsMoved (explained R im f x) → Derived R f x
only_derived R im f x i = go (ℕ_discrete (answer R im f).number 0)
  where
    go : Dec ((answer R im f).number ≡ 0) → Derived R f x
    go (no n) = absurd (refused_not_moved R im f x n i)
    go (yes h) = moved-derived R im f x h (accepted R im f x) (told R im f x) (subst IsMoved (explained_yes R im f x h) i)

says_derived : SaysDerived
says_derived =
    record {
      when_derived = λ R im f x h d. subst IsMoved (sym (explained_yes R im f x h)) (derived-moved R im f x h (accepted R im f x) (told R im f x) d);
      only_derived = only_derived;
    }

-- What the move leaves there.

module _ (R : Restore) (im : List ℕ) (f : Stopped) (x : Slot) (bytes : Bytes im) (words : Words f.registers) where
  abbrev before : ℕ
  before = content_at R im f.registers x

  abbrev after : ℕ
  after = content_at R (moved R im f) (moved_registers R im f) x

  new_is : (h : (answer R im f).number ≡ 0) (b : Slot) → ListedPointer R.section f b x → after ≡ new_content_at R im f.registers b x
  new_is h b l = new-content R im f h b x l (slots-low R im f h b x l).1

  null-content : (D : ℕ) → D < 2 ^ 64 → (D + 0 + (2 ^ 64 - 0)) % 2 ^ 64 ≡ D
  null-content D h = omega arith

  told-content : (answer R im f).number ≡ 0 → (r : Reason) → Told R im f x r → NewContent r before after
  unfolding new_content new_derived look_up
  told-content h r (told_moved g e) = on (hit-base R im f x h g.pointer e.member (and_true (derives x g.pointer) _ e.holds).0)
    where
      on : (b : Slot) × (g.pointer ≡ slots b x) × ListedPointer R.section f b x
          → after ≡ (before + or_zero (look_up R.olds R.news (old_base R im f g.pointer)) + (2 ^ 64 - old_base R im f g.pointer)) % 2 ^ 64
      on b = rw b.1 (new_is h b.0 b.2)
  told-content h r (told-null g e m) = on (hit-base R im f x h g.pointer e.member e.holds)
    where
      on : (b : Slot) × (g.pointer ≡ slots b x) × ListedPointer R.section f b x → after ≡ before
      on b =
          let z = m (slots b.0 x) (subst (λ (q : Pointer). Memᴰ q (flatten (listed R f))) b.1 e.member) in
          let o : content_at R im f.registers b.0 ≡ 0 = eqb-true _ _ (not-false _ (rw (same_self x) at z)) in
          new_is h b.0 b.2 ∙ rw o (null-content before (content_bound R im f.registers x bytes words))
  told-content h r (told-base g e m) = tt
  told-content h r (told_none m n) = tt

says_content : SaysContent
says_content R im f x bytes words = go (ℕ_discrete (answer R im f).number 0)
  where
    P : Reason → Type 0
    P r = NewContent r (content_at R im f.registers x) (content_at R (moved R im f) (moved_registers R im f) x)

    go : Dec ((answer R im f).number ≡ 0) → P (explained R im f x)
    go (yes h) = subst P (sym (explained_yes R im f x h)) (told-content R im f x bytes words h (accepted R im f x) (told R im f x))
    go (no n) =
        let u = untouched R im f n in
        subst P (sym (explained_no R im f x n))
        (ap (λ (l : List ℕ). content_at R l (moved_registers R im f) x) u.0 ∙ ap (λ (l : List ℕ). content_at R im l x) u.1)

-- Every other slot stays.

apart : (a d i : ℕ) → overlap (memory d) (memory a) ≡ false → (d ≡ a → ⊥) → In a 8 i → In d 8 i → ⊥
unfolding overlap
apart a d i o n p q =
    let z : (not (eqb d a) && (ltb d (a + 8) && ltb a (d + 8))) ≡ false = o in
    let x : ltb d (a + 8) ≡ true = lt-ltb d (a + 8) (omega arith) in
    let y : ltb a (d + 8) ≡ true = lt-ltb a (d + 8) (omega arith) in
    true≢false (rw (ne_eqb d a n, x, y) at z)

stays : Stays
stays R im f x low other clear = go x low other clear
  where
    no_derived : (y : Slot) → (IsMoved (explained R im f y) → ⊥) → (answer R im f).number ≡ 0 → (b : Slot) → ListedPointer R.section f b y → ⊥
    no_derived y n h b l = n (says_derived.when_derived R im f y h (record { base = b; lists = l }))

    go : (y : Slot) → NotBefore R y → (IsMoved (explained R im f y) → ⊥) → ((b d : Slot) → ListedPointer R.section f b d → overlap d y ≡ false)
        → content_at R (moved R im f) (moved_registers R im f) y ≡ content_at R im f.registers y
    go (register r) l n c = (registers_alone R im f).rest r (λ b w. no_derived (register r) n w.accepted b w.lists)
    go (memory a) l n c =
        word_local 8 (moved R im f) im (a - R.first) (λ i q.
        (alone R im f).rest i (λ g b d w.
        let e : g ≡ f = Memᴰ.eq_of_singleton w.in_list in
        let w' : ListedPointer R.section f b (memory d) = subst (λ (h : Stopped). ListedPointer R.section h b (memory d)) e w.lists in
        let y : (answer R im f).number ≡ 0 = subst (λ (h : Stopped). (answer R im h).number ≡ 0) e w.accepted in
        apart a d (R.first + i) (c b (memory d) w')
        (λ z. no_derived (memory a) n y b (subst (λ (k : ℕ). ListedPointer R.section f b (memory k)) z w'))
        (record { low = omega arith; high = omega arith }) w.inside))

-- It reads what the move reads.

module _ (R : Restore) (im im' rs' : List ℕ) (f : Stopped) (x : Slot) (g : AgreeOnSlots R f im im' rs') where
  abbrev f' : Stopped
  f' = stopped f.frame rs'

  same-listed : listed R f' ≡ listed R f
  unfolding listed
  same-listed = go (records_of R.section f.frame)
    where
      go : (es : List Entry) → pointers_in R f' es ≡ pointers_in R f es
      go [] = refl
      go (e ∷ es) = rw g.same_cursor

  module _ (yes : (answer R im f).number ≡ 0) where
    base_same : (p : Pointer) → Memᴰ p (flatten (listed R f)) → old_base R im f p ≡ old_base R im' f' p
    base_same null m = refl
    base_same (slots b d) m =
        let l = lists R im f yes b d m in
        content_agrees R im im' rs' f g b (slots-low R im f yes b d l).0 (g.on_base b d l)

    same-hit : lowest_pair (moved_by R im f x) 0 (listed R f) ≡ lowest_pair (moved_by R im' f' x) 0 (listed R f)
    same-hit = pair_same (moved_by R im f x) (moved_by R im' f' x) 0 (listed R f) (λ p m. ap (λ (n : ℕ). derives x p && not (eqb n 0)) (base_same p m))

    by-same : (o : Option Hit) (r : Reason) → ((h : Hit) → o ≡ some h → old_base R im f h.pointer ≡ old_base R im' f' h.pointer) → by_hit R im f o r ≡ by_hit R im' f' o r
    by-same none r s = refl
    by-same (some h) r s = rw (s h refl)

    or_same : (o : Option Hit) (r s : Reason) → or_else R im f o r s ≡ or_else R im' f' o r s
    or_same none r s = refl
    or_same (some h) r s = refl

    same-accepted : accepted R im f x ≡ accepted R im' f' x
    unfolding accepted still
    same-accepted =
        rw (
          same-listed,
          ← same-hit,
          or_same (lowest_pair (has_base x) 0 (listed R f)) OnlyBase Unlisted,
          or_same (lowest_pair (derives x) 0 (listed R f)) NullBase (or_else R im' f' (lowest_pair (has_base x) 0 (listed R f)) OnlyBase Unlisted),
        )
        (by-same (lowest_pair (moved_by R im f x) 0 (listed R f)) _ (λ h e. base_same h.pointer (pair-some (moved_by R im f x) 0 (listed R f) h e).member))

  reads : explained R im f x ≡ explained R im' f' x
  reads = go (ℕ_discrete (answer R im f).number 0)
    where
      a : answer R im f ≡ answer R im' f'
      a = (only_slots_count R im im' rs' f g).same_answer

      n : (answer R im f).number ≡ (answer R im' f').number
      n = ap (λ (m : Move). m.number) a

      go : Dec ((answer R im f).number ≡ 0) → explained R im f x ≡ explained R im' f' x
      go (yes h) = explained_yes R im f x h ∙ same-accepted h ∙ sym (explained_yes R im' f' x (sym n ∙ h))
      go (no h) = explained_no R im f x h ∙ ap (λ (m : Move). Refused m.number m.place) a ∙ sym (explained_no R im' f' x (λ z. h (n ∙ z)))

pub explains : Explains
explains = record { says_refused = says_refused; says_derived = says_derived; says_content = says_content; stays = stays; reads_as_move = reads }
