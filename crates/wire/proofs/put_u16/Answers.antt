use Rattle.wire.proofs.Laws.{part_written}
use Rattle.wire.proofs.put_u16.Goals as goal

pub returns : goal.returns
returns c = rw (c.copy_from_slice.ensures.after, c.to_le_bytes.ensures) (part_written 2 c.args.x c.args.at c.args.out.now c.requires)
