use mathlib.Core.Path.{refl, sym, ◌∙◌}
use mathlib.Core.Bool.{true≢false}
use native.Mathlib.Omega.{arith}
use Rattle.thread.proofs.Parts.{right_tells}
use Rattle.thread_search.proofs.list.count.Goals as goal

pub returns-then-list_right : goal.returns-then-list_right
returns-then-list_right c = let a = c.args in let m = right_tells a.frames.now a.registers.now (sym c.list_right.ensures ∙ c.if-list_right.true) in (omega arith, m.0, λ z. refl)

pub returns : goal.returns
returns c = (omega arith, omega arith, λ z. absurd (true≢false (sym z ∙ sym c.list_right.ensures ∙ c.if-list_right.false)))
