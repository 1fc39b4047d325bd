use Prim.Native.Nat.{◌+◌, ◌-◌, ◌^◌, ◌≤◌, ◌<◌}
use Rattle.stackmap.specs.Section.{is_old}
use Rattle.stackmap.proofs.OneWalk.{Folding}
use Rattle.questions.specs.Kept.{no_stretch, picked}
use Rattle.questions_locate.proofs.search.Given as goal

-- One walk checks the records and keeps where the wanted one stands.
abbrev pub invariant-loop-index : goal.invariant-loop-index
invariant-loop-index l = Folding (picked (is_old l.s) l.wanted) l.s l.constants no_stretch l.turn.next l.turn.left (l.count - l.index) l.index l.p l.kept × (l.kept.first + l.kept.size ≤ l.p)
