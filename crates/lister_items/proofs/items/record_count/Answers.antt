use native.Mathlib.Omega.{arith}
use Rattle.stackmap.specs.Section.{read_function}
use Rattle.lister_items.proofs.items.record_count.Goals as goal

-- Nothing is read in version 1.
pub returns-then-old : goal.returns-then-old
unfolding read_function
returns-then-old c = rw c.if-old.true

pub u64_at-requires : goal.u64_at-requires
u64_at-requires c = let h = rw c.if-old.false at c.requires in omega arith

pub returns : goal.returns
unfolding read_function
returns c = rw c.if-old.false c.u64_at.ensures
