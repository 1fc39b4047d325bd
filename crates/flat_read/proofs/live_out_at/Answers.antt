use Rattle.flat_data.specs.Data.{read_live_out}
use Rattle.flat_read.proofs.Asked.{byte_word}
use Rattle.flat_read.proofs.live_out_at.Goals as goal

pub returns : goal.returns
unfolding read_live_out
returns c = rw c.u16_at.ensures (simp byte_word)
