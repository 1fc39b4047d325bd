use mathlib.Core.Path.{ap, ◌∙◌}
use Rattle.treskibben_answers.specs.Answer.{find_answer_of}
use Rattle.treskibben.proofs.index_lookups.treskibben_find_by_index.Goals as goal

pub returns : goal.returns
returns c = c.search_answer.ensures ∙ ap find_answer_of c.find_by_index.ensures
