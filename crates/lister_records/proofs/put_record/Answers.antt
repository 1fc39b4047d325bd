use native.Mathlib.Omega.{arith}
use Rattle.stackmap.specs.Layout.{location_size}
use Rattle.stackmap.specs.Section.{read_location, read_record}
use Rattle.listing.specs.Listing.{location_item}
use Rattle.lister_items.proofs.Puts.{put-long}
use Rattle.listing.proofs.Items.{record_item-size, location_item-size}
use Rattle.stackmap.proofs.Fields.{size-many}
use Rattle.lister_records.proofs.Passes.{shaped_size, shaped_inside, record_join}
use Rattle.lister_records.proofs.put_record.Goals as goal

pub put_record_item-next-requires : goal.put_record_item-next-requires
put_record_item-next-requires c =
    let w = c.record_shape-shape.ensures in
    let i = shaped_inside _ _ w c.requires.0 in
    (omega arith, omega (arith, shaped_size _ _ w))

pub put_locations-next-requires : goal.put_locations-next-requires
put_locations-next-requires c =
    let w = c.record_shape-shape.ensures in
    let i = c.put_record_item-next.ensures c.args.old in
    let e = i.ends in (
      (shaped_inside _ _ w c.requires.0).0,
      omega (arith, shaped_size _ _ w, put-long i, record_item-size (read_record c.args.old c.args.s.now)),
    )

pub put_live_outs-next-requires : goal.put_live_outs-next-requires
put_live_outs-next-requires c =
    let w = c.record_shape-shape.ensures in
    let i = c.put_record_item-next.ensures c.args.old in
    let e = i.ends in
    let d = c.put_locations-next.ensures.ends in (
      (shaped_inside _ _ w c.requires.0).1,
      omega (
        arith,
        shaped_size _ _ w,
        put-long i,
        put-long c.put_locations-next.ensures,
        record_item-size (read_record c.args.old c.args.s.now),
        size-many location_item (read_location c.args.old) (location_size c.args.old) 10 location_item-size c.record_shape-shape.result.locations c.args.s.now 16,
      ),
    )

pub returns : goal.returns
returns c =
    let w = c.record_shape-shape.ensures in
    (w.ends, record_join _ _ w (c.put_record_item-next.ensures c.args.old) c.put_locations-next.ensures c.put_live_outs-next.ensures)
