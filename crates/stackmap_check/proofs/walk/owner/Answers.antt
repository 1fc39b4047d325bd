use Rattle.std.proofs.Common.{◌≡◌, ◌+◌, ◌-◌, ◌*◌, ◌<◌, ◌≤◌, false, length, refl, ◌∙◌, arith}
use Rattle.stackmap.specs.Section.{num_functions, is_old, read_function}
use Rattle.stackmap.specs.Walk.{ahead}
use Rattle.stackmap.proofs.Turns.{ahead-next, ahead-some}
use Rattle.stackmap_check.proofs.walk.owner.Goals as goal

pub loop-left-init : goal.loop-left-init
loop-left-init c = (c.requires.1, c.requires.2, refl)

pub overflow_mul-next : goal.overflow_mul-next
overflow_mul-next c =
    let more : (is_old c.args.s.now ≡ false) × (c.loop-left.next < num_functions c.args.s.now) = ahead-some c.args.s.now c.loop-left.next (rw c.loop-left-test.true at c.loop-left.invariant.1) in
    let room : 16 + 24 * (c.loop-left.next + 1) ≤ length c.args.s.now = let h = more in
    let i = rw h.0 at c.requires.0 in
    omega arith in
    let h = room in omega arith

pub overflow_add-next : goal.overflow_add-next
overflow_add-next c =
    let more : (is_old c.args.s.now ≡ false) × (c.loop-left.next < num_functions c.args.s.now) = ahead-some c.args.s.now c.loop-left.next (rw c.loop-left-test.true at c.loop-left.invariant.1) in
    let room : 16 + 24 * (c.loop-left.next + 1) ≤ length c.args.s.now = let h = more in
    let i = rw h.0 at c.requires.0 in
    omega arith in
    let h = room in omega arith

pub overflow_add-next-in-loop-left : goal.overflow_add-next-in-loop-left
overflow_add-next-in-loop-left c =
    let more : (is_old c.args.s.now ≡ false) × (c.loop-left.next < num_functions c.args.s.now) = ahead-some c.args.s.now c.loop-left.next (rw c.loop-left-test.true at c.loop-left.invariant.1) in
    let room : 16 + 24 * (c.loop-left.next + 1) ≤ length c.args.s.now = let h = more in
    let i = rw h.0 at c.requires.0 in
    omega arith in
    let h = room in omega arith

pub u64_at-left-requires : goal.u64_at-left-requires
u64_at-left-requires c =
    let more : (is_old c.args.s.now ≡ false) × (c.loop-left.next < num_functions c.args.s.now) = ahead-some c.args.s.now c.loop-left.next (rw c.loop-left-test.true at c.loop-left.invariant.1) in
    let room : 16 + 24 * (c.loop-left.next + 1) ≤ length c.args.s.now = let h = more in
    let i = rw h.0 at c.requires.0 in
    omega arith in
    let h = room in omega arith

pub overflow_add-next-in-loop-left-2 : goal.overflow_add-next-in-loop-left-2
overflow_add-next-in-loop-left-2 c =
    let more : (is_old c.args.s.now ≡ false) × (c.loop-left.next < num_functions c.args.s.now) = ahead-some c.args.s.now c.loop-left.next (rw c.loop-left-test.true at c.loop-left.invariant.1) in
    let room : 16 + 24 * (c.loop-left.next + 1) ≤ length c.args.s.now = let h = more in
    let i = rw h.0 at c.requires.0 in
    omega arith in
    let h = room in omega arith

pub loop-left-smaller : goal.loop-left-smaller
loop-left-smaller c =
    let more : (is_old c.args.s.now ≡ false) × (c.loop-left.next < num_functions c.args.s.now) = ahead-some c.args.s.now c.loop-left.next (rw c.loop-left-test.true at c.loop-left.invariant.1) in
    let h = (more).1 in omega arith

pub loop-left-preserved : goal.loop-left-preserved
unfolding read_function
loop-left-preserved c =
    let more : (is_old c.args.s.now ≡ false) × (c.loop-left.next < num_functions c.args.s.now) = ahead-some c.args.s.now c.loop-left.next (rw c.loop-left-test.true at c.loop-left.invariant.1) in
    let l = c.loop-left in
    let s = c.args.s.now in
    let some = rw c.loop-left-test.true at l.invariant.1 in
    let h = more in
    let r : ahead s (l.next + 1) c.u64_at-left.result ≡ ahead s l.next 0 = rw (ahead-next s l.next h.0 h.1, c.u64_at-left.ensures) in (
      record { most = λ _. let m = h.1 in omega arith; begun = λ _. omega arith },
      rw r some,
      r ∙ rw c.loop-left-test.true at l.invariant.2,
    )

pub returns : goal.returns
returns c =
    let l = c.loop-left in
    let p : 0 < l.left = omega arith in
    (l.invariant.2, p, l.invariant.0.begun p, l.invariant.0.most)
