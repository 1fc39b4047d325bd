use native.Mathlib.Omega.{arith}
use mathlib.Core.Path.{sym, ◌∙◌}
use Rattle.replay.specs.Trace.{answer_stands}
use Rattle.replay_trace.proofs.Passing.{frame-inside}
use Rattle.replay_trace.proofs.items.step_stands.Goals as goal

pub stands-requires : goal.stands-requires
stands-requires c =
    let a = c.args in
    let i = frame-inside a.t.now a.at (sym c.frame_stands.ensures ∙ c.if-frame_stands.true) in
    (omega arith, omega arith)

pub returns-then-frame_stands : goal.returns-then-frame_stands
unfolding answer_stands
returns-then-frame_stands c = rw (sym c.frame_stands.ensures ∙ c.if-frame_stands.true) c.stands.ensures
