use native.Mathlib.Omega.{arith}
use lib.ListN.{length-set}
use Rattle.lister_items.proofs.Puts.{put-long}
use Rattle.lister_items.proofs.Stores.{version-put, no_version_put}
use Rattle.lister_items.proofs.items.put_version.Goals as goal

-- Two bytes, or none.
pub bounds-out-0 : goal.bounds-out-0
bounds-out-0 c = let h = rw c.if-old.true at c.requires in omega arith

pub bounds-out-1 : goal.bounds-out-1
bounds-out-1 c = let h = rw c.if-old.true at c.requires in simp length-set (omega arith)

pub returns-then-old : goal.returns-then-old
returns-then-old c = rw c.if-old.true (version-put _)

pub shape_of-out-then-old : goal.shape_of-out-then-old
shape_of-out-then-old c = put-long (returns-then-old c)

pub returns : goal.returns
returns c = rw c.if-old.false (no_version_put _)
