use Rattle.builder_records.proofs.RecordPut.{record_put}
use Rattle.builder_records.proofs.whole_record.Goals as goal

pub returns : goal.returns
returns c =
    let a = c.args in
    rw (
      c.zeros-2.ensures,
      c.live_outs.ensures,
      c.put_u16.ensures,
      c.zeros.ensures,
      c.locations.ensures,
      c.head.ensures,
      c.locations_padding-padding.ensures.0,
      c.location_size.ensures.0,
    )
    (record_put a.old c.requires.0 a.out.now a.to)
