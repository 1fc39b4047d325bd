use Rattle.flat_data.specs.Data.{read_constant}
use Rattle.flat_read.proofs.constant_at.Goals as goal

pub returns : goal.returns
unfolding read_constant
returns c = rw c.u64_at.ensures
