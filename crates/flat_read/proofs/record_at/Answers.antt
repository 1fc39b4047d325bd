use Rattle.flat_data.specs.Data.{read_record}
use Rattle.flat_read.proofs.Asked.{byte_word}
use Rattle.flat_read.proofs.record_at.Goals as goal

pub returns : goal.returns
unfolding read_record
returns c =
    rw (
      c.u16_at-4.ensures,
      c.u16_at-3.ensures,
      c.u16_at-2.ensures,
      c.u16_at.ensures,
      c.u32_at.ensures,
      c.u64_at.ensures,
    ) (simp byte_word)
