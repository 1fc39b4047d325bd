use Rattle.flat_data.specs.Data.{read_register}
use Rattle.flat_read.proofs.Asked.{byte_word}
use Rattle.flat_read.proofs.register_at.Goals as goal

pub returns : goal.returns
unfolding read_register
returns c = rw (c.u16_at-2.ensures, c.u16_at.ensures) (simp byte_word)
