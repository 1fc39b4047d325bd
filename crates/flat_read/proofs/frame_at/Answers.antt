use Rattle.flat_data.specs.Data.{read_frame}
use Rattle.flat_read.proofs.frame_at.Goals as goal

pub returns : goal.returns
unfolding read_frame
returns c =
    rw (
      c.u16_at-6.ensures,
      c.u16_at-5.ensures,
      c.u16_at-4.ensures,
      c.u16_at-3.ensures,
      c.u16_at-2.ensures,
      c.u16_at.ensures,
      c.u32_at-2.ensures,
      c.u32_at.ensures,
      c.u64_at.ensures,
    )
