use mathlib.Core.Path.{sym, ◌∙◌}
use Rattle.relocate.specs.Restore.{restore}
use Rattle.thread.specs.Thread.{thread_of}
use Rattle.linked_moves.specs.Code.{maps_in}
use Rattle.thread.proofs.Parts.{right_tells}
use Rattle.linked_thread.proofs.Whole.{thread_13, thread_14, thread_25, thread-frames}
use Rattle.linked_thread.proofs.of_allowed.Goals as goal

pub move_frames-requires : goal.move_frames-requires
move_frames-requires c =
    let a = c.args in
    let l = (sym c.list_right.ensures ∙ c.if-not-list_right.false) in
    record {
      looked = c.requires.0;
      allowed_right = c.requires.2;
      most_right = c.requires.3;
      image_right = (sym c.image_right.ensures ∙ c.if-not-image_right.false);
      table_right = (sym c.table_right.ensures ∙ c.if-not-table_right.false);
      registers_right = rw (c.requires.1 l) (right_tells a.list.now a.registers.now l).1;
    }

pub returns : goal.returns
returns c =
    let a = c.args in
    let R = restore a.s.now a.olds.now a.news.now a.first a.settings in
    let th = thread_of a.machine a.list.now a.registers.now in
    let l = (sym c.list_right.ensures ∙ c.if-not-list_right.false) in
    thread-frames R (maps_in a.s.now) a.image.now th c.requires.0.standing c.requires.2 (sym c.image_right.ensures ∙ c.if-not-image_right.false)
    (sym c.table_right.ensures ∙ c.if-not-table_right.false) a.count _ _ _ l (c.requires.1 l) c.move_frames.ensures

pub returns-then-not-list_right : goal.returns-then-not-list_right
returns-then-not-list_right c =
    let a = c.args in
    let R = restore a.s.now a.olds.now a.news.now a.first a.settings in
    let th = thread_of a.machine a.list.now a.registers.now in
    rw c.refused-then-not-list_right.ensures
    (thread_25 R (maps_in a.s.now) a.image.now th c.requires.0.standing c.requires.2 (sym c.image_right.ensures ∙ c.if-not-image_right.false)
    (sym c.table_right.ensures ∙ c.if-not-table_right.false) (sym c.list_right.ensures ∙ c.if-not-list_right.true))

pub returns-then-not-table_right : goal.returns-then-not-table_right
returns-then-not-table_right c =
    let a = c.args in
    let R = restore a.s.now a.olds.now a.news.now a.first a.settings in
    let th = thread_of a.machine a.list.now a.registers.now in
    rw c.refused-then-not-table_right.ensures
    (thread_14 R (maps_in a.s.now) a.image.now th c.requires.0.standing c.requires.2 (sym c.image_right.ensures ∙ c.if-not-image_right.false) (sym c.table_right.ensures ∙ c.if-not-table_right.true))

pub returns-then-not-image_right : goal.returns-then-not-image_right
returns-then-not-image_right c =
    let a = c.args in
    let R = restore a.s.now a.olds.now a.news.now a.first a.settings in
    let th = thread_of a.machine a.list.now a.registers.now in
    rw c.refused.ensures (thread_13 R (maps_in a.s.now) a.image.now th c.requires.0.standing c.requires.2 (sym c.image_right.ensures ∙ c.if-not-image_right.true))
