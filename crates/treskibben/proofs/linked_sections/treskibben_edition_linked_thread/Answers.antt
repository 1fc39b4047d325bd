use mathlib.Core.Path.{ap, ◌∙◌}
use Rattle.treskibben_answers.specs.Answer.{move_answer}
use Rattle.treskibben.proofs.linked_sections.treskibben_edition_linked_thread.Goals as goal

pub returns : goal.returns
returns c =
    let t = c.relocate_linked.ensures in
    (c.move_answer.ensures ∙ ap move_answer t.answer_is, t.image_is, t.registers_is)
