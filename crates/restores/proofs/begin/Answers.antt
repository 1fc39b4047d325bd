use native.Mathlib.Omega.{arith}
use borrow.Author.Tests.{lt-leb, le-leb}
use Rattle.restores.proofs.Beginning.{begins_31, begins_33, begins_on}
use Rattle.restores.proofs.begin.Goals as goal

pub returns-then-named-ne0 : goal.returns-then-named-ne0
returns-then-named-ne0 c = begins_31 _ _ _ _ _ c.named-named.ensures _ c.refused.ensures (omega arith)

pub returns-then-machine-gt-LAST_MACHINE : goal.returns-then-machine-gt-LAST_MACHINE
returns-then-machine-gt-LAST_MACHINE c =
    begins_33 _ _ _ _ _ c.named-named.ensures _ _ c.unknown_machine.ensures c.check.ensures (omega arith)
    (lt-leb c.args.machine 1 (omega arith))

pub returns : goal.returns
returns c =
    begins_on _ _ _ _ _ c.named-named.ensures _ c.machine_of.ensures (omega arith)
    (le-leb c.args.machine 1 (omega arith))
