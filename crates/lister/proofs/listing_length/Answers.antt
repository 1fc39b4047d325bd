use native.Mathlib.Omega.{arith}
use Rattle.lister.proofs.Whole.{laid, parts-long}
use Rattle.lister.proofs.listing_length.Goals as goal

-- An accepted section's functions, constants and records are inside.
pub section_tables-tables-requires : goal.section_tables-tables-requires
section_tables-tables-requires c = let l = laid _ c.requires in omega arith

pub records_length-records-requires : goal.records_length-records-requires
records_length-records-requires c =
    let t = c.section_tables-tables.ensures in
    let l = laid _ c.requires in
    rw (t.old_is, t.records_are, t.first_is) (omega arith)

pub overflow_mul-result : goal.overflow_mul-result
overflow_mul-result c =
    let w = parts-long _ c.requires c.section_tables-tables.ensures c.version_length.ensures.0 c.records_length-records.ensures in
    omega arith

pub overflow_add-result : goal.overflow_add-result
overflow_add-result c =
    let w = parts-long _ c.requires c.section_tables-tables.ensures c.version_length.ensures.0 c.records_length-records.ensures in
    omega arith

pub overflow_mul-result-2 : goal.overflow_mul-result-2
overflow_mul-result-2 c =
    let w = parts-long _ c.requires c.section_tables-tables.ensures c.version_length.ensures.0 c.records_length-records.ensures in
    omega arith

pub overflow_add-result-2 : goal.overflow_add-result-2
overflow_add-result-2 c =
    let w = parts-long _ c.requires c.section_tables-tables.ensures c.version_length.ensures.0 c.records_length-records.ensures in
    omega arith

pub overflow_add-result-3 : goal.overflow_add-result-3
overflow_add-result-3 c =
    let w = parts-long _ c.requires c.section_tables-tables.ensures c.version_length.ensures.0 c.records_length-records.ensures in
    omega arith

pub overflow_add-result-4 : goal.overflow_add-result-4
overflow_add-result-4 c =
    let w = parts-long _ c.requires c.section_tables-tables.ensures c.version_length.ensures.0 c.records_length-records.ensures in
    omega arith

pub returns : goal.returns
returns c = (parts-long _ c.requires c.section_tables-tables.ensures c.version_length.ensures.0 c.records_length-records.ensures).0
