use Rattle.builder_records.proofs.RecordPut.{head-put}
use Rattle.builder_records.proofs.head.Goals as goal

pub returns : goal.returns
returns c =
    let a = c.args in
    rw (
      c.put_u16-2.ensures,
      c.put_u16.ensures,
      c.put_u32.ensures,
      c.u32_at-offset.ensures,
      c.put_u64.ensures,
      c.u64_at-id.ensures,
    )
    (head-put a.l.now a.at a.n a.out.now a.to)
