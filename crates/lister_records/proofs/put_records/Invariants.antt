use Prim.Native.Nat.{◌-◌}
use Rattle.stackmap.specs.Fields.{all}
use Rattle.stackmap.specs.Section.{read_records}
use Rattle.listing.specs.Listing.{record_items}
use Rattle.lister_records.proofs.Passes.{Passing}
use Rattle.lister_records.proofs.put_records.Given as goal

-- What is left to be written gives what the whole gives.
abbrev pub invariant-loop : goal.invariant-loop
invariant-loop l = Passing l.old l.s l.initial.out l.to (all record_items (read_records l.old l.count l.s l.at)) l.out l.p (l.count - l.counter) l.next
