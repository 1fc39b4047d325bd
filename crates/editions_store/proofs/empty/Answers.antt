use Rattle.editions.specs.Store.{empty}
use Rattle.editions_store.proofs.empty.Goals as goal

pub returns : goal.returns
unfolding empty
returns c = rw c.free.ensures
