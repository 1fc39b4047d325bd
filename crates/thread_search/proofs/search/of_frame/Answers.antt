use mathlib.Core.Path.{◌∙◌}
use native.Mathlib.Omega.{arith}
use lib.ListN.{length}
use Rattle.questions.proofs.Standing.{tables-inside}
use Rattle.questions.proofs.Searched.{named-sought}
use Rattle.relocate.specs.Plan.{records_of}
use Rattle.thread_search.proofs.search.of_frame.Goals as goal

pub found-requires : goal.found-requires
found-requires c = let p = c.requires in (p.1, p.2, p.3)

pub named-requires : goal.named-requires
named-requires c = let a = c.args in let i = tables-inside a.s.now (length a.s.now) c.requires.0 in omega arith

pub returns : goal.returns
unfolding records_of
returns c =
    let a = c.args in
    c.named.ensures
    ∙ named-sought a.s.now a.frame.function a.frame.address _ (c.found.ensures a.s.now c.requires.4)
