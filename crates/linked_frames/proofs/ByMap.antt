-- A frame by its site: 10 or 15, or the plain move by the bytes of its own map.
use Prim.Native.Nat.{ℕ, ◌-◌, ◌≤◌}
use mathlib.Core.Path.{◌≡◌, refl}
use mathlib.Core.Bool.{true, false}
use mathlib.Core.List.{List, [], ◌∷◌}
use native.Mathlib.Omega.{arith}
use lib.ListN.{length}
use Rattle.stackmap.specs.Section.{is_old}
use Rattle.stackmap.specs.Check.{Accepted}
use Rattle.questions.specs.Questions.{first_of, sought}
use Rattle.moves.specs.Settle.{refused_move}
use Rattle.moves.specs.Window.{part}
use Rattle.relocate.specs.Restore.{Restore, allowed}
use Rattle.relocate.specs.Stopped.{Stopped}
use Rattle.relocate.specs.Plan.{records_of}
use Rattle.relocate.specs.Relocation.{answer, moved, moved_registers, extent_of}
use Rattle.relocate.specs.Reorder.{with_section}
use Rattle.relocate.proofs.Consequences.{keeps_cursor}
use Rattle.thread_call.proofs.Few.{answer-few}
use Rattle.linked.specs.Linked.{Map}
use Rattle.linked.specs.Find.{MapEntry, all_with_address}
use Rattle.linked_moves.specs.Thread.{records_over, by_map, allowed_new, answer_over, moved_over, moved_registers_over, extent_over}
use Rattle.linked_frames.specs.declared.Site.{Site}
use Rattle.linked_frames.specs.Sites.{Here, SiteBy, SiteOf}

-- no frame has more pointers than the settings allow, nor other than its registers
module _ (R : Restore) (ms : List Map) (im : List ℕ) (f : Stopped) where
  pub over-few : (answer_over R ms im f).count ≤ R.settings.most
  unfolding answer_over
  over-few = go (records_over ms f)
    where
      go : (xs : List MapEntry) → (by_map (refused_move 10 0) (refused_move 15 0) (λ s. answer (with_section R s) im f) xs).count ≤ R.settings.most
      go [] = omega arith
      go (x ∷ []) = answer-few (with_section R x.map.content) im f
      go (x ∷ y ∷ xs) = omega arith

  pub over_wide : length (moved_registers_over R ms im f) ≡ length f.registers
  unfolding moved_registers_over
  over_wide = go (records_over ms f)
    where
      go : (xs : List MapEntry) → length (by_map f.registers f.registers (λ s. moved_registers (with_section R s) im f) xs) ≡ length f.registers
      go [] = refl
      go (x ∷ []) = keeps_cursor.same_length (with_section R x.map.content) im f
      go (x ∷ y ∷ xs) = refl

-- A refused site.
module _ (R : Restore) (ms : List Map) (im : List ℕ) (f : Stopped) {s : List ℕ} {r : Site} (o : SiteOf s ms f.frame.address r) (h : r.number ≡ 0 → ⊥) where
  pub refused-answer : refused_move r.number 0 ≡ answer_over R ms im f
  unfolding answer_over records_over
  refused-answer = go (all_with_address f.frame.address 0 ms) o.is
    where
      go : (xs : List MapEntry) → SiteBy s f.frame.address r xs
          → refused_move r.number 0 ≡ by_map (refused_move 10 0) (refused_move 15 0) (λ c. answer (with_section R c) im f) xs
      go [] e = rw e
      go (x ∷ []) e = absurd (h e.number_is)
      go (x ∷ y ∷ xs) e = rw e

  pub refused-left : (im ≡ moved_over R ms im f) × (f.registers ≡ moved_registers_over R ms im f)
  unfolding moved_over moved_registers_over records_over
  refused-left = go (all_with_address f.frame.address 0 ms) o.is
    where
      go : (xs : List MapEntry) → SiteBy s f.frame.address r xs
          → (im ≡ by_map im im (λ c. moved (with_section R c) im f) xs)
          × (f.registers ≡ by_map f.registers f.registers (λ c. moved_registers (with_section R c) im f) xs)
      go [] e = (refl, refl)
      go (x ∷ []) e = absurd (h e.number_is)
      go (x ∷ y ∷ xs) e = (refl, refl)

-- The frame's one record, and its map.
pub record AtSite (s : List ℕ) (ms : List Map) (f : Stopped) (r : Site) : Type 0 where
  pub entry : MapEntry
  pub only : records_over ms f ≡ entry ∷ []
  pub here : Here s f.frame.address entry r

pub at_site : {s : List ℕ} {ms : List Map} {f : Stopped} {r : Site} → SiteOf s ms f.frame.address r → r.number ≡ 0 → AtSite s ms f r
unfolding records_over
at_site {s} {ms} {f} {r} o z = go (all_with_address f.frame.address 0 ms) refl o.is
  where
    go : (xs : List MapEntry) → all_with_address f.frame.address 0 ms ≡ xs → SiteBy s f.frame.address r xs → AtSite s ms f r
    go [] e n = absurd (omega arith)
    go (x ∷ []) e n = record { entry = x; only = e; here = n }
    go (x ∷ y ∷ xs) e n = absurd (omega arith)

module _ (R : Restore) (ms : List Map) (f : Stopped) {r : Site} (o : AtSite R.section ms f r) where
  -- the bytes of its map, as the code lends them
  abbrev pub lent : List ℕ
  lent = part R.section r.from (r.to - r.from)

  pub map-accepted : Accepted lent
  map-accepted = rw (← o.here.content_is) o.here.accepted

  map-new : is_old lent ≡ false
  map-new = rw (← o.here.content_is) o.here.new

  pub map_found : r.found ≡ first_of (records_of lent f.frame)
  unfolding records_of sought
  map_found = rw (← o.here.content_is, o.here.new, o.here.only) o.here.found_is

  pub map-allowed : allowed_new R f.frame.machine ≡ true → allowed (with_section R lent) f.frame.machine ≡ true
  unfolding allowed_new allowed
  map-allowed h = rw map-new h

  module _ (im : List ℕ) where
    pub map-answer : answer (with_section R lent) im f ≡ answer_over R ms im f
    unfolding answer_over
    map-answer = rw (← o.here.content_is, o.only)

    pub map-moved : moved (with_section R lent) im f ≡ moved_over R ms im f
    unfolding moved_over
    map-moved = rw (← o.here.content_is, o.only)

    pub map-registers : moved_registers (with_section R lent) im f ≡ moved_registers_over R ms im f
    unfolding moved_registers_over
    map-registers = rw (← o.here.content_is, o.only)

  pub map-extent : extent_of lent f ≡ extent_over ms f
  unfolding extent_over
  map-extent = rw (← o.here.content_is, o.only)
