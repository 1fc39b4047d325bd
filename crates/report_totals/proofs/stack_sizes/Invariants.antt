use Prim.Native.Nat.{◌+◌, ◌*◌, ◌-◌}
use Rattle.stackmap.specs.Layout.{function_size}
use Rattle.stackmap.specs.Section.{is_old}
use Rattle.report_totals.proofs.Functions.{Summing}
use Rattle.report_totals.proofs.stack_sizes.Given as goal

abbrev pub invariant-loop-i : goal.invariant-loop-i
invariant-loop-i l = Summing l.s (l.functions - l.i) (16 + function_size (is_old l.s) * l.i) l.known l.unknown
