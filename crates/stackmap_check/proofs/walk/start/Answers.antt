use Rattle.std.proofs.Common.{sym, ◌∙◌, arith}
use Rattle.stackmap.specs.Walk.{first_turn}
use Rattle.stackmap_check.proofs.walk.start.Goals as goal

pub u32_at-records-requires : goal.u32_at-records-requires
u32_at-records-requires c = let h = c.requires.1.inside in omega arith

pub returns-then-old : goal.returns-then-old
unfolding first_turn
returns-then-old c = rw (sym c.requires.0 ∙ c.if-old.true, c.u32_at-records.ensures)

pub returns : goal.returns
unfolding first_turn
returns c = rw (sym c.requires.0 ∙ c.if-old.false)
