use Rattle.std.proofs.Common.{refl, arith}
use Rattle.stackmap_check.proofs.walk.unless.Goals as goal

pub returns-then-gap-offset : goal.returns-then-gap-offset
returns-then-gap-offset c = λ h. absurd (omega arith)

pub returns : goal.returns
returns c = λ h. (refl, λ e. c.if-gap-offset.false (omega (arith, e, c.wrapping_sub_u64-gap.ensures, c.u32_at-offset.ensures)))
