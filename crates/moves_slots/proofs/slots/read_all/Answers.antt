use Prim.Native.Nat.{ℕ}
use mathlib.Core.Path.{◌≡◌}
use native.Mathlib.Omega.{arith}
use lib.ListN.{get_or}
use Rattle.moves.specs.Slots.{state, read}
use Rattle.moves.specs.Arrays.{slot_of}
use Rattle.moves.proofs.Fills.{filled-start, filled_skip, filled-set}
use Rattle.moves_slots.proofs.slots.read_all.Goals as goal

pub loop-k-init : goal.loop-k-init
loop-k-init c = filled-start _ _ _

pub read-requires : goal.read-requires
read-requires c = c.requires.2 c.loop-k.k c.loop-k-test.true c.if-live-k-ne0.true

pub bounds-contents-k : goal.bounds-contents-k
bounds-contents-k c = omega (arith, c.loop-k.auto.contents, c.requires.1)

pub loop-k-preserved : goal.loop-k-preserved
loop-k-preserved c =
    let l = c.loop-k in
    let a = c.args in
    let f : ℕ → ℕ = λ j. read (state a.window.now a.registers.now) (slot_of (get_or a.slots.now j 0)) in
    elim c.if-live-k-ne0.branch [
      | goal.then-live-k-ne0 w ↦
          rw w.contents-is (filled-set f a.live.now l.contents l.k w.read.result (omega (arith, l.auto.contents, c.requires.1)) l.invariant w.read.ensures)
      | goal.else-live-k-ne0 w ↦
          rw w.contents-is (filled_skip f a.live.now l.contents l.k l.invariant w.if-live-k-ne0.false)
    ]

pub returns : goal.returns
returns c =
    let l = c.loop-k in
    let e : l.k ≡ c.args.pairs = omega arith in
    rw e at l.invariant
