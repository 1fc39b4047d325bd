use Prim.Native.Nat.{◌-◌}
use Rattle.lister_records.proofs.Passes.{Measuring, in_listing}
use Rattle.lister_records.proofs.records_length.Given as goal

-- What is added up, with the items of the records that are left, is the whole; a record's items are at most 25/16 of the record,
-- so that no sum overflows.
abbrev pub invariant-loop : goal.invariant-loop
invariant-loop l = Measuring l.old l.s (in_listing l.old l.s l.count l.at) l.p (l.count - l.counter) l.total
