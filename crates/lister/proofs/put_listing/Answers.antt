use native.Mathlib.Omega.{arith}
use Rattle.lister_items.proofs.Puts.{put-long}
use Rattle.stackmap.specs.Fields.{size, all}
use Rattle.stackmap.specs.Section.{read_records}
use Rattle.lister.proofs.Whole.{laid, parts, version-ends, functions-end, constants-end, listing_join}
use Rattle.lister.proofs.put_listing.Goals as goal

-- The parts stand one after the other, and there is room for each after those before it.
pub section_tables-tables-requires : goal.section_tables-tables-requires
section_tables-tables-requires c = let l = laid _ c.requires.0 in omega arith

pub put_version-next-requires : goal.put_version-next-requires
put_version-next-requires c =
    let k = parts _ c.section_tables-tables.ensures c.requires.0 c.args.out.now c.requires.1 in
    omega arith

pub put_functions-next-requires : goal.put_functions-next-requires
put_functions-next-requires c =
    let k = parts _ c.section_tables-tables.ensures c.requires.0 c.args.out.now c.requires.1 in
    omega (arith, version-ends _ c.put_version-next.ensures)

pub put_constants-next-requires : goal.put_constants-next-requires
put_constants-next-requires c =
    let k = parts _ c.section_tables-tables.ensures c.requires.0 c.args.out.now c.requires.1 in
    omega (arith, version-ends _ c.put_version-next.ensures, functions-end _ _ _ _ _ c.put_functions-next.ensures)

pub put_records-next-requires : goal.put_records-next-requires
unfolding size all read_records
put_records-next-requires c =
    let k = parts _ c.section_tables-tables.ensures c.requires.0 c.args.out.now c.requires.1 in
    let e = functions-end _ _ _ _ _ c.put_functions-next.ensures in
    omega (arith, version-ends _ c.put_version-next.ensures, constants-end _ _ _ _ _ c.put_constants-next.ensures)

pub bounds-out-next : goal.bounds-out-next
unfolding size all read_records
bounds-out-next c =
    let k = parts _ c.section_tables-tables.ensures c.requires.0 c.args.out.now c.requires.1 in
    let e = functions-end _ _ _ _ _ c.put_functions-next.ensures in
    let x = c.put_records-next.ensures.ends in
    let y = put-long c.put_records-next.ensures in
    omega (arith, version-ends _ c.put_version-next.ensures, constants-end _ _ _ _ _ c.put_constants-next.ensures)

pub overflow_add-result : goal.overflow_add-result
overflow_add-result c = omega (arith, bounds-out-next c)

pub returns : goal.returns
returns c =
    listing_join _ c.section_tables-tables.ensures c.put_version-next.ensures c.put_functions-next.ensures c.put_constants-next.ensures
    c.put_records-next.ensures

pub shape_of-out : goal.shape_of-out
shape_of-out c = put-long (returns c)
