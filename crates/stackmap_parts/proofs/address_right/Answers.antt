use native.Mathlib.Omega.{arith}
use Prim.Native.Nat.{◌+◌, ◌-◌, ◌≤◌, ◌<◌}
use Rattle.std.proofs.Common.{inl, inr}
use Rattle.std.proofs.lemmas.Bool.{le-leb, lt-leb}
use Rattle.std.proofs.lemmas.Bool.Decides.{leb_tells}
use Rattle.stackmap.specs.Record.{address_right}
use Rattle.stackmap_parts.proofs.address_right.Goals as goal

pub returns-then-old : goal.returns-then-old
unfolding address_right
returns-then-old c = rw c.if-old.true

pub returns-else-old : goal.returns-else-old
unfolding address_right
returns-else-old c = elim (leb_tells c.args.offset (18446744073709551615 - c.args.address)) [
  | inl h ↦ let k : c.args.address + c.args.offset ≤ 18446744073709551615 = omega arith in rw (h.0, c.if-old.false, le-leb _ _ k)
  | inr h ↦ let k : 18446744073709551615 < c.args.address + c.args.offset = omega arith in rw (h.0, c.if-old.false, lt-leb _ _ k)
]
