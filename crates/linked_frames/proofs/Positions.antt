-- The frame at a position of the list, as the code hands it on.
use Prim.Native.Nat.{ℕ, ◌*◌, ◌-◌}
use mathlib.Core.Path.{◌≡◌, sym, ap, ◌∙◌}
use mathlib.Core.Bool.{true}
use mathlib.Core.List.{List, ◌++◌}
use lib.ListN.{get_or, take, drop}
use Rattle.stackmap.specs.Check.{Accepted}
use Rattle.questions.specs.Questions.{first_of}
use Rattle.moves.specs.declared.Move.{Move}
use Rattle.moves.specs.Window.{part, splice}
use Rattle.moves.proofs.Splice.{splice_mid, splice-same}
use Rattle.relocate.specs.declared.Frame.{Frame}
use Rattle.relocate.specs.Restore.{Restore, allowed}
use Rattle.relocate.specs.Stopped.{stopped}
use Rattle.relocate.specs.Plan.{records_of}
use Rattle.relocate.specs.Relocation.{answer}
use Rattle.relocate.specs.Reorder.{with_section}
use Rattle.relocate.specs.Code.{Relocates}
use Rattle.linked.specs.Linked.{Map}
use Rattle.thread.specs.Thread.{Thread, frame_at, stopped_at}
use Rattle.thread.proofs.Parts.{stopped-at}
use Rattle.linked_moves.specs.Thread.{allowed_new, answer_over, moved_over}
use Rattle.linked_moves.specs.Code.{registers_after}
use Rattle.linked_frames.specs.declared.Site.{Site}
use Rattle.linked_frames.specs.Sites.{SiteOf}
use Rattle.linked_frames.proofs.ByMap.{AtSite, refused-left, map-accepted, map_found, map-allowed, map-answer, map-moved, map-registers}

module _ (t : Thread) (k : ℕ) where
  pub site_at : {s : List ℕ} {ms : List Map} {r : Site} → SiteOf s ms (get_or t.list (2 * k) 0) r → SiteOf s ms (stopped_at t k).frame.address r
  unfolding stopped_at frame_at
  site_at o = o

  pub frame_is : (f : Frame) → f ≡ frame_at t.machine t.list k → f ≡ (stopped_at t k).frame
  unfolding stopped_at
  frame_is f e = e

  pub allowed_at : (R : Restore) → allowed_new R t.machine ≡ true → allowed_new R (stopped_at t k).frame.machine ≡ true
  unfolding stopped_at frame_at
  allowed_at R h = h

  module _ (R : Restore) (ms : List Map) (im : List ℕ) {r : Site} where
    -- a refused site: nothing changes
    pub left_there : SiteOf R.section ms (stopped_at t k).frame.address r → (r.number ≡ 0 → ⊥)
        → (im ≡ moved_over R ms im (stopped_at t k)) × (t.registers ≡ registers_after R ms im t k)
    unfolding stopped_at
    left_there o h =
        let e = refused-left R ms im (stopped_at t k) o h in
        (e.0, sym (ap (splice t.registers (32 * k) 32) (sym e.1) ∙ splice-same t.registers (32 * k) 32))

    -- what the plain move asks of its map, for both the judgement and the move
    pub there_right : (o : AtSite R.section ms (stopped_at t k) r) (f : Frame) → f ≡ frame_at t.machine t.list k → allowed_new R t.machine ≡ true
        → Accepted (part R.section r.from (r.to - r.from)) × (r.found ≡ first_of (records_of (part R.section r.from (r.to - r.from)) f))
        × (allowed (with_section R (part R.section r.from (r.to - r.from))) f.machine ≡ true)
    there_right o f e h =
        let q = frame_is f e in (
          map-accepted R ms (stopped_at t k) o,
          rw q (map_found R ms (stopped_at t k) o),
          rw q (map-allowed R ms (stopped_at t k) o (allowed_at R h)),
        )

    -- its map's bytes and its own registers are lent
    module _ (o : AtSite R.section ms (stopped_at t k) r) (n : ℕ) (f : Frame) (e : f ≡ frame_at t.machine t.list k) (z : n ≡ 32) where
      pub judged-there : {m : Move} → m ≡ answer (with_section R (part R.section r.from (r.to - r.from))) im (stopped f (take n (drop (32 * k) t.registers)))
          → m ≡ answer_over R ms im (stopped_at t k)
      judged-there g = g ∙ rw (stopped-at t k n f e z) (map-answer R ms (stopped_at t k) o im)

      pub moved-there : {m : Move} {after own : List ℕ}
          → Relocates (with_section R (part R.section r.from (r.to - r.from))) im (stopped f (take n (drop (32 * k) t.registers))) m after own
          → (after ≡ moved_over R ms im (stopped_at t k))
          × (take (32 * k) t.registers ++ (own ++ drop n (drop (32 * k) t.registers)) ≡ registers_after R ms im t k)
      moved-there {m} {after} {own} g =
          let h = rw (stopped-at t k n f e z) at g in (
            h.image_is ∙ map-moved R ms (stopped_at t k) o im,
            rw z (splice_mid t.registers (32 * k) 32 own _ (h.registers_is ∙ map-registers R ms (stopped_at t k) o im)),
          )
