use mathlib.Core.Path.{ap, ◌∙◌}
use Rattle.treskibben_replays.specs.Answer.{outcome_answer}
use Rattle.treskibben.proofs.replays.treskibben_edition_replay.Goals as goal

pub returns : goal.returns
returns c = (c.replay_answer.ensures ∙ ap outcome_answer c.replay.ensures.0, c.replay.ensures.1)
