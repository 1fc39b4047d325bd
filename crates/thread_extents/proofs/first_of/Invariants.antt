use Prim.Native.Nat.{◌≤◌}
use Rattle.relocate.specs.Stopped.{Stopped}
use Rattle.relocate.specs.Relocation.{Extent}
use Rattle.thread.specs.Thread.{Thread}
use Rattle.thread.specs.Code.{Apart}
use Rattle.thread_extents.specs.Extents.{GivesFrames}
use Rattle.thread_extents.proofs.Earlier.{Keeping}
use Rattle.thread_extents.proofs.first_of.Given as goal

abbrev pub invariant-loop-k : goal.invariant-loop-k
invariant-loop-k g l =
    Apart l.starts l.ends l.kept × (l.kept ≤ l.k)
    × ((e : Stopped → Extent) (t : Thread) → GivesFrames (goal.F-post g l.extent) e t l.count → Keeping e t l.count l.k l.kept l.starts l.ends)
