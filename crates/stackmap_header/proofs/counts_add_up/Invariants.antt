use Prim.Native.Nat.{◌+◌, ◌*◌, ◌-◌}
use mathlib.Core.Bool.{false}
use Rattle.stackmap.specs.Fields.{many}
use Rattle.stackmap.specs.Section.{read_function, counted}
use Rattle.stackmap.proofs.Steps.{Adding}
use Rattle.stackmap_header.proofs.counts_add_up.Given as goal

abbrev pub invariant-loop-f : goal.invariant-loop-f
invariant-loop-f l = Adding (read_function false) 24 l.s (counted (many (read_function false) 24 l.functions l.s 16)) l.total (16 + 24 * l.f) (l.functions - l.f) l.rest
