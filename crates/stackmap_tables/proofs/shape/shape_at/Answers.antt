use native.Mathlib.Omega.{arith}
use lib.ListN.{length-drop}
use Rattle.stackmap.proofs.Within.{part-from}
use Rattle.stackmap_tables.proofs.shape.shape_at.Goals as goal

-- The part from `at` on begins with the record.

pub record_shape-requires : goal.record_shape-requires
record_shape-requires c = rw (part-from, length-drop, c.is_old-old.ensures) (let i = c.requires.1 in omega arith)

pub returns : goal.returns
returns c = rw (← c.is_old-old.ensures) (rw part-from at c.record_shape.ensures)
