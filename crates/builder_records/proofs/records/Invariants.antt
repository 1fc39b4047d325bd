use Prim.Native.Nat.{◌-◌}
use Rattle.builder_records.proofs.RecordsPut.{PuttingRecords}
use Rattle.builder_records.proofs.records.Given as goal

abbrev pub invariant-loop : goal.invariant-loop
invariant-loop l = PuttingRecords l.l l.old l.from l.initial.out l.to l.out l.at l.next (l.n - l.counter)
