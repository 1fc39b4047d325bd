use mathlib.Core.Path.{◌≡◌, sym, ◌∙◌}
use native.Mathlib.Omega.{arith}
use lib.ListN.{get_or}
use Rattle.moves.specs.Slots.{State, state, put}
use Rattle.moves.specs.Arrays.{slot_of}
use Rattle.moves.proofs.Writes.{state-same}
use Rattle.moves.proofs.Numbers.{placed_same}
use Rattle.moves.proofs.Fills.{puts-start, puts-end, put-null, put-live, put_turn}
use Rattle.moves_slots.proofs.slots.put_all.Goals as goal

pub loop-p-init : goal.loop-p-init
loop-p-init c =
    let a = c.args in
    puts-start a.live.now a.derived.now a.contents.now a.pairs (state a.window.now a.registers.now)

pub bounds-contents-p : goal.bounds-contents-p
bounds-contents-p c = omega (arith, c.requires.1)

pub put-requires : goal.put-requires
put-requires c =
    let l = c.loop-p in
    placed_same _ _ _ _ _ l.auto.window l.auto.registers (c.requires.2 l.p c.loop-p-test.true c.if-live-p-ne0.true)

pub loop-p-preserved : goal.loop-p-preserved
loop-p-preserved c =
    let l = c.loop-p in
    let a = c.args in
    let old : State = state l.window l.registers in
    let new : State = state c.if-live-p-ne0.window c.if-live-p-ne0.registers in
    let vs = put_turn a.live.now a.derived.now a.contents.now a.pairs l.p old new _ (omega arith) in
    let slot = slot_of (get_or a.derived.now l.p 0) in
    let value = get_or a.contents.now l.p 0 in
    elim c.if-live-p-ne0.branch [
      | goal.then-live-p-ne0 w ↦
          let e : new ≡ put old slot value = state-same w.window-is w.registers-is ∙ w.put.ensures in
          vs (e ∙ sym (put-live a.live.now a.derived.now a.contents.now l.p old w.if-live-p-ne0.true)) l.invariant
      | goal.else-live-p-ne0 w ↦
          let e : new ≡ old = state-same w.window-is w.registers-is in
          vs (e ∙ sym (put-null a.live.now a.derived.now a.contents.now l.p old w.if-live-p-ne0.false)) l.invariant
    ]

pub returns : goal.returns
returns c =
    let l = c.loop-p in
    let a = c.args in
    sym (puts-end a.live.now a.derived.now a.contents.now a.pairs l.p (state l.window l.registers) (omega arith)) ∙ l.invariant
