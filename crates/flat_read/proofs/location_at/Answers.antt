use Rattle.flat_data.specs.Data.{read_location}
use Rattle.flat_read.proofs.Asked.{byte_word}
use Rattle.flat_read.proofs.location_at.Goals as goal

pub returns : goal.returns
unfolding read_location
returns c = rw (c.u32_at.ensures, c.u16_at.ensures) (simp byte_word)
