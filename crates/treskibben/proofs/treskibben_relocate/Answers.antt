use mathlib.Core.Path.{refl, ap, ◌∙◌}
use borrow.Author.Tests.{lt-leb, le-leb}
use Rattle.stackmap.specs.Verdict.{Verdict}
use Rattle.questions.specs.Questions.{ask}
use Rattle.moves.specs.Settle.{refused_move}
use Rattle.treskibben_answers.specs.Answer.{move_answer}
use Rattle.treskibben.proofs.treskibben_relocate.Goals as goal

pub returns-then-machine-gt-LAST_MACHINE : goal.returns-then-machine-gt-LAST_MACHINE
returns-then-machine-gt-LAST_MACHINE c =
    rw (lt-leb _ _ c.if-machine-gt-LAST_MACHINE.true)
    (c.unknown_machine.ensures ∙ ap (λ (v : Verdict). move_answer (ask refused_move (refused_move 33 0) v)) c.check.ensures, refl, refl)

pub relocate-requires : goal.relocate-requires
relocate-requires c = c.everything.ensures.1

pub returns : goal.returns
returns c =
    let e = c.everything.ensures.0 in
    let g = c.frame_of.ensures in
    let t = rw (e, g) at c.relocate.ensures in
    let m = c.machine_of-known.ensures in
    rw (le-leb _ _ c.if-machine-gt-LAST_MACHINE.false, ← m) (c.move_answer.ensures ∙ ap move_answer t.answer_is, t.image_is, t.registers_is)
