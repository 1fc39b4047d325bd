use Prim.Native.Nat.{◌-◌, ◌<◌}
use mathlib.Core.Path.{◌≡◌}
use lib.ListN.{length}
use Rattle.parser_fault.specs.Walk.{ahead, Turning}
use Rattle.parser_walk.proofs.owner.Given as goal

-- The owners ahead are those of the beginning, and where none is left of the function that was passed last, there is a next one.
abbrev pub invariant-loop-turn : goal.invariant-loop-turn
invariant-loop-turn l =
    Turning l.fn.plan.old l.fn.plan.functions l.turn.next l.turn.left × (0 < length (ahead l.l l.fn.plan.old l.fn.plan.functions l.turn.next l.turn.left))
    × (ahead l.l l.fn.plan.old l.fn.plan.functions l.turn.next l.turn.left ≡ ahead l.l l.fn.plan.old l.fn.plan.functions l.initial.turn.next l.initial.turn.left)
    × (l.turn.left ≡ 0 → l.turn.next < l.fn.plan.functions)

abbrev pub decreases-loop-turn : goal.decreases-loop-turn
decreases-loop-turn l = l.fn.plan.functions - l.turn.next
