use native.Mathlib.Omega.{arith}
use Rattle.stackmap_quick.proofs.quick.ending.Goals as goal

pub returns-then-next-gt1 : goal.returns-then-next-gt1
returns-then-next-gt1 c = λ h. c.no_live_outs-next.ensures (omega arith)

pub returns-then-padding_right : goal.returns-then-padding_right
returns-then-padding_right c = λ h. record { zeros = c.padding_right.ensures c.if-padding_right.true; ending = c.after_live_outs.ensures h }

pub returns : goal.returns
returns c = λ h. absurd (omega arith)
