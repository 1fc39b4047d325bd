-- What the first eight bytes of a location tell, and what two locations that are one slot each tell of their pair.
use Prim.Native.Nat.{ℕ, ◌+◌, ◌*◌, ◌≤◌, ◌<◌}
use mathlib.Core.Path.{◌≡◌, refl, sym, ap, subst, ◌∙◌}
use mathlib.Core.Bool.{Bool, true, false}
use mathlib.Core.Option.{some}
use mathlib.Core.List.{List}
use native.Mathlib.Omega.{arith}
use lib.ListN.{length, drop}
use Rattle.wire.specs.Word.{Bytes, word}
use Rattle.wire.proofs.Laws.{word-add, word_bound, word-drop}
use Rattle.stackmap.specs.Layout.{location_size}
use Rattle.stackmap.specs.Section.{Location, is_old, read_location, num_locations}
use Rattle.questions.specs.Questions.{constant_of}
use Rattle.questions.proofs.Content as content
use Rattle.relocate.specs.declared.Machine.{Machine}
use Rattle.relocate.specs.declared.Machine.TheVariants.{Amd64, Aarch64}
use Rattle.relocate.specs.Limits.{frame_pointer, stack_pointer}
use Rattle.relocate.specs.Statepoint.{location_at, Pair, is_zero, is_null, size_right, pointers_in, is_frame_or_stack, is_memory_slot, is_slot, same_size, right_form}
use Rattle.relocate.specs.Code.{record_of, RecordInside, pair_from, count_of}
use Rattle.relocate.proofs.Records.{location_there}
use Rattle.relocate_glance.specs.Plain.{slot_word, OneSlot, Plain}

-- A location by its first eight bytes.

slot_at : (m : Machine) (s : List ℕ) (at r : ℕ) → Bytes s → word 8 s at ≡ slot_word r → is_frame_or_stack m r ≡ true → r < 65536 → OneSlot m (read_location false s at)
unfolding read_location
slot_at m s at r b e h small =
    let w = word-add 4 4 s at in
    let l = word_bound 4 s at b in
    let u = word-add 2 2 s at in
    let k = word_bound 2 s at b in
    let v = word-add 1 1 s at in
    let j = word_bound 1 s at b in
    let x = word-add 2 2 s (at + 4) in
    let i = word_bound 2 s (at + 4) b in
    let g : word 2 s (at + 4) ≡ r = omega arith in
    record { kind_is = omega arith; size_is = omega arith; register_holds = rw g h }

framed_small : (m : Machine) → frame_pointer m < 65536
framed_small Amd64 = omega arith
framed_small Aarch64 = omega arith

stacked_small : (m : Machine) → stack_pointer m < 65536
stacked_small Amd64 = omega arith
stacked_small Aarch64 = omega arith

framed_holds : (m : Machine) → is_frame_or_stack m (frame_pointer m) ≡ true
unfolding is_frame_or_stack
framed_holds Amd64 = refl
framed_holds Aarch64 = refl

stacked_holds : (m : Machine) → is_frame_or_stack m (stack_pointer m) ≡ true
unfolding is_frame_or_stack
stacked_holds Amd64 = refl
stacked_holds Aarch64 = refl

module _ (m : Machine) (s : List ℕ) (at : ℕ) (b : Bytes s) where
  pub framed : word 8 s at ≡ slot_word (frame_pointer m) → OneSlot m (read_location false s at)
  framed e = slot_at m s at (frame_pointer m) b e (framed_holds m) (framed_small m)

  pub stacked : word 8 s at ≡ slot_word (stack_pointer m) → OneSlot m (read_location false s at)
  stacked e = slot_at m s at (stack_pointer m) b e (stacked_holds m) (stacked_small m)

-- Where it stands in its record.

same_some : (x y : Location) → some x ≡ some y → x ≡ y
same_some x y h = cc

module _ (s : List ℕ) (at j : ℕ) (e : is_old s ≡ false) (h : j < num_locations (drop at s)) where
  counted : j < word 2 s (at + 14)
  counted = rw (word-drop 2 at s 14) at h

  pub location_is : read_location false s (at + 16 + 12 * j) ≡ location_at (record_of s at) j
  location_is =
      ap (λ (o : Bool). read_location o s (at + 16 + location_size o * j)) (sym e)
      ∙ sym (same_some _ _ (sym (location_there s at j h) ∙ content.location_at_lem (is_old s) s at _ refl j counted))

  pub location_fits : RecordInside s at → at + 16 + 12 * j + 12 ≤ length s
  location_fits r = rw e at (content.location_inside (is_old s) s at _ refl j counted r.inside)

module _ (m : Machine) (s : List ℕ) (at j : ℕ) (e : is_old s ≡ false) (h : j + 1 < num_locations (drop at s)) where
  pub pair_is : OneSlot m (read_location false s (at + 16 + 12 * j)) → OneSlot m (read_location false s (at + 16 + 12 * j + 12)) → Plain m (pair_from (record_of s at) j)
  pair_is x y =
      let q : at + 16 + 12 * j + 12 ≡ at + 16 + 12 * (j + 1) = omega arith in
      record {
        base_is = subst (OneSlot m) (location_is s at j e (omega arith)) x;
        derived_is = subst (OneSlot m) (ap (read_location false s) q ∙ location_is s at (j + 1) e h) y;
      }

-- What a location that is one slot is, in either version.

module _ (m : Machine) (l : Location) (o : OneSlot m l) where
  no_zero : (pool : List ℕ) → is_zero pool l ≡ false
  unfolding is_zero constant_of
  no_zero pool = rw o.kind_is

  slot_is : (old : Bool) → is_slot m old l ≡ true
  unfolding is_slot is_memory_slot size_right
  slot_is true = rw (o.kind_is, o.size_is, o.register_holds)
  slot_is false = rw (o.kind_is, o.size_is, o.register_holds)

module _ (m : Machine) (pool : List ℕ) (p : Pair) (q : Plain m p) where
  pub plain_no_null : is_null pool p ≡ false
  unfolding is_null
  plain_no_null = rw (no_zero m p.base q.base_is pool)

  same_size_lem : (old : Bool) → same_size old p ≡ true
  unfolding same_size
  same_size_lem true = refl
  same_size_lem false = rw (q.base_is.size_is, q.derived_is.size_is)

  pub plain_form : (old : Bool) → right_form m old pool p ≡ true
  unfolding right_form
  plain_form old = rw (plain_no_null, slot_is m p.base q.base_is old, slot_is m p.derived q.derived_is old, same_size_lem old)

  pub plain-count : (old : Bool) → count_of old pool p ≡ 1
  unfolding count_of pointers_in
  plain-count true = rw plain_no_null
  plain-count false = rw (plain_no_null, q.base_is.size_is)
