use Prim.Native.Nat.{◌-◌}
use native.Mathlib.Omega.{arith}
use mathlib.Core.Path.{sym, ◌∙◌}
use borrow.Author.Tests.{lt-leb}
use lib.ListN.{length}
use Rattle.listing.proofs.Items.{no_room}
use Rattle.replay_trace.proofs.Passing.{stands-kind}
use Rattle.replay_trace.proofs.items.stands.Goals as goal

pub returns-then-size-t : goal.returns-then-size-t
returns-then-size-t c = let a = c.args in stands-kind a.kind a.size a.t.now a.at (omega arith)

pub returns-else-size-t : goal.returns-else-size-t
returns-else-size-t c =
    let a = c.args in
    lt-leb a.size (length a.t.now - a.at) (omega arith) ∙ sym (no_room a.kind a.size a.t.now a.at (omega arith))
