use native.Mathlib.Omega.{arith}
use Prim.Native.Nat.{◌+◌, ◌*◌, ◌≤◌}
use lib.ListN.{length}
use Rattle.stackmap.specs.Section.{is_old, read_live_out}
use Rattle.stackmap.proofs.Items.{byte_word}
use Rattle.questions.proofs.Content.{live_out_inside, live_out_at, live_out_past}
use Rattle.questions_items.proofs.live_out_in.Goals as goal

pub returns-then-number-shape : goal.returns-then-number-shape
returns-then-number-shape c =
    let a = c.args in
    rw (c.no_live_out.ensures, live_out_past (is_old a.s.now) a.s.now a.first c.shape_at-shape.ensures a.number (omega arith))

pub overflow_add-at : goal.overflow_add-at
overflow_add-at c =
    let room : c.args.first + c.shape_at-shape.result.begin + 4 * c.args.number + 4 ≤ length c.args.s.now = live_out_inside (is_old c.args.s.now) c.args.s.now c.args.first c.shape_at-shape.ensures c.args.number (omega arith) c.requires.1 in
    let r = room in omega arith

pub overflow_mul-at : goal.overflow_mul-at
overflow_mul-at c =
    let room : c.args.first + c.shape_at-shape.result.begin + 4 * c.args.number + 4 ≤ length c.args.s.now = live_out_inside (is_old c.args.s.now) c.args.s.now c.args.first c.shape_at-shape.ensures c.args.number (omega arith) c.requires.1 in
    let r = room in omega arith

pub overflow_add-at-2 : goal.overflow_add-at-2
overflow_add-at-2 c =
    let room : c.args.first + c.shape_at-shape.result.begin + 4 * c.args.number + 4 ≤ length c.args.s.now = live_out_inside (is_old c.args.s.now) c.args.s.now c.args.first c.shape_at-shape.ensures c.args.number (omega arith) c.requires.1 in
    let r = room in omega arith

pub u16_at-requires : goal.u16_at-requires
u16_at-requires c =
    let room : c.args.first + c.shape_at-shape.result.begin + 4 * c.args.number + 4 ≤ length c.args.s.now = live_out_inside (is_old c.args.s.now) c.args.s.now c.args.first c.shape_at-shape.ensures c.args.number (omega arith) c.requires.1 in
    let r = room in omega arith

pub overflow_add-result : goal.overflow_add-result
overflow_add-result c =
    let room : c.args.first + c.shape_at-shape.result.begin + 4 * c.args.number + 4 ≤ length c.args.s.now = live_out_inside (is_old c.args.s.now) c.args.s.now c.args.first c.shape_at-shape.ensures c.args.number (omega arith) c.requires.1 in
    let r = room in omega arith

pub bounds-s-at : goal.bounds-s-at
bounds-s-at c =
    let room : c.args.first + c.shape_at-shape.result.begin + 4 * c.args.number + 4 ≤ length c.args.s.now = live_out_inside (is_old c.args.s.now) c.args.s.now c.args.first c.shape_at-shape.ensures c.args.number (omega arith) c.requires.1 in
    let r = room in omega arith

pub returns : goal.returns
unfolding read_live_out
returns c =
    let a = c.args in
    rw (live_out_at (is_old a.s.now) a.s.now a.first c.shape_at-shape.ensures a.number (omega arith), byte_word, ← c.u16_at.ensures)
