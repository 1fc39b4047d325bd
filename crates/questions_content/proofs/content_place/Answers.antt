use native.Mathlib.Omega.{arith}
use borrow.Author.Tests.{eq-eqb, ne_eqb}
use Rattle.questions.specs.Questions.{content_place}
use Rattle.questions_content.proofs.content_place.Goals as goal

-- By the kind: 1 a register, 3 memory, every other neither.

pub returns-in-1 : goal.returns-in-1
unfolding content_place
returns-in-1 c = rw (eq-eqb c.args.kind 1 (omega arith))

pub returns-in-3 : goal.returns-in-3
unfolding content_place
returns-in-3 c = let a = c.args in rw (ne_eqb a.kind 1 (λ z. omega arith), eq-eqb a.kind 3 (omega arith))

pub returns-in_default : goal.returns-in_default
unfolding content_place
returns-in_default c = let a = c.args in rw (ne_eqb a.kind 1 (λ z. omega arith), ne_eqb a.kind 3 (λ z. omega arith))
