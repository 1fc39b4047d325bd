use native.Mathlib.Omega.{arith}
use Prim.Native.Nat.{◌+◌}
use Rattle.index_lookup.specs.Looked.{five}
use Rattle.index_answers.proofs.Writes.{part-sets}
use Rattle.index_answers.proofs.put.Goals as goal

pub returns : goal.returns
unfolding five
returns c = part-sets c.args.at (c.args.at + 5) c.args.answers.now _ (five c.args.looked) c.copy_from_slice.ensures.after (omega arith) (omega arith)
