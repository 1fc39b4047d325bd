use Prim.Native.Nat.{◌+◌, ◌<◌}
use mathlib.Core.Path.{◌≡◌, refl, ◌∙◌}
use lib.ListN.{length}
use Rattle.listing.specs.Listing.{listed_function}
use Rattle.parser_fault.specs.Walk.{ahead}
use Rattle.parser_walk.proofs.Turns.{ahead-next, ahead-some}
use native.Mathlib.Omega.{arith}
use Rattle.parser_walk.proofs.owner.Goals as goal

pub loop-turn-init : goal.loop-turn-init
loop-turn-init c = (c.requires.1, c.requires.2, refl, λ z. (ahead-some _ _ _ _ (rw z at c.requires.2)).1)

pub loop-turn-preserved : goal.loop-turn-preserved
unfolding listed_function
loop-turn-preserved c =
    let a = c.args in
    let p = c.loop-turn in
    let some = rw c.loop-turn-test.true at p.invariant.1 in
    let h = ahead-some a.l.now a.plan.functions a.plan.old p.turn.next some in
    let m = h.1 in
    let r : ahead a.l.now a.plan.old a.plan.functions (p.turn.next + 1) c.u64_at.result ≡ ahead a.l.now a.plan.old a.plan.functions p.turn.next 0 =
    rw (h.0, ahead-next a.l.now a.plan.functions p.turn.next h.1, c.u64_at.ensures) in
    let ahead_now : 0 < length (ahead a.l.now a.plan.old a.plan.functions (p.turn.next + 1) c.u64_at.result) = rw r some in (
      record { most = λ _. omega arith; begun = λ _. omega arith },
      ahead_now,
      r ∙ rw c.loop-turn-test.true at p.invariant.2,
      λ z. (ahead-some _ _ _ _ (rw z at ahead_now)).1,
    )
