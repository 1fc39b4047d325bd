use mathlib.Core.Path.{ap, ◌∙◌}
use borrow.Author.Tests.{lt-leb, le-leb}
use Rattle.treskibben_reasons.specs.Answer.{reason_answer, unknown_machine}
use Rattle.treskibben.proofs.explain_calls.reason_of.Goals as goal

pub returns-then-machine-gt-LAST_MACHINE : goal.returns-then-machine-gt-LAST_MACHINE
returns-then-machine-gt-LAST_MACHINE c =
    rw (lt-leb _ _ c.if-machine-gt-LAST_MACHINE.true)
    (c.reason_answer.ensures ∙ ap reason_answer (c.unknown_machine.ensures ∙ ap unknown_machine c.check.ensures))

pub explain-requires : goal.explain-requires
explain-requires c = c.everything.ensures.1

pub returns : goal.returns
returns c =
    let e = c.everything.ensures.0 in
    let g = c.frame_of.ensures in
    let t = rw (e, g) at c.explain.ensures in
    rw (le-leb _ _ c.if-machine-gt-LAST_MACHINE.false, ← c.machine_of-known.ensures)
    (c.reason_answer-2.ensures ∙ ap reason_answer t)
