use mathlib.Core.Path.{sym, ◌∙◌}
use native.Mathlib.Omega.{arith}
use Rattle.stackmap.specs.Section.{address}
use Rattle.sorted.specs.Sorted.{LowerBound}
use Rattle.thread_marks.proofs.Marks.{marked, unmarked, hit_stored, grown-none, grown_stored}
use Rattle.thread_marks.proofs.note_at.Goals as goal
use Rattle.thread_marks.proofs.note_at.Goals.{else-i-count-via-then-i-count+else-keys-i, else-i-count-via-else-i-count}

pub returns-then-keys-i : goal.returns-then-keys-i
returns-then-keys-i c =
    let a = c.args in
    let b = c.hits_at-before.ensures in
    let h = c.hit-after.ensures in (
      (λ e n o p x.
          let l : LowerBound a.keys.now a.count (address e) a.i = rw x c.requires.2 in
          marked a.keys.now a.count e _ l _ _ c.if-i-count.true (c.if-keys-i.true ∙ sym x)
          (hit_stored e _ _ _ _ _ b h.0 n o p c.store.ensures)),
      grown_stored _ _ _ _ _ b c.store.ensures h.1,
    )

pub returns-else-i-count : goal.returns-else-i-count
returns-else-i-count c =
    let a = c.args in (
      (λ e n o p x.
          let l : LowerBound a.keys.now a.count (address e) a.i = rw x c.requires.2 in
          unmarked a.keys.now a.count e _ l _
          (λ m q. elim c.else-i-count.branch [
            | else-i-count-via-then-i-count+else-keys-i w ↦ w.if-keys-i.false (q ∙ x)
            | else-i-count-via-else-i-count w ↦ omega arith
          ])),
      grown-none _ _,
    )
