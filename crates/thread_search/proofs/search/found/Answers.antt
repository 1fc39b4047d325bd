use mathlib.Core.Path.{◌∙◌}
use native.Mathlib.Omega.{arith}
use Rattle.thread_search.proofs.Walked.{at_bound, found-there, found_10, found_0}
use Rattle.thread_search.proofs.search.found.Goals as goal

pub hits_at-h-requires : goal.hits_at-h-requires
hits_at-h-requires c = omega (arith, (at_bound c.requires.1 c.lower_bound-i.ensures.1 c.requires.2).0)

pub returns-then-h-eq0 : goal.returns-then-h-eq0
returns-then-h-eq0 c =
    λ s q.
    found_10 _ _ c.hits_at-h.ensures c.if-h-eq0.true ∙ found-there s _ _ _ _ _ c.requires.1 c.lower_bound-i.ensures.1 c.requires.2 q

pub returns : goal.returns
returns c =
    λ s q.
    found_0 _ _ c.hits_at-h.ensures c.if-h-eq0.false ∙ found-there s _ _ _ _ _ c.requires.1 c.lower_bound-i.ensures.1 c.requires.2 q
