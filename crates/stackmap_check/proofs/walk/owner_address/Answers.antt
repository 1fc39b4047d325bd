use Rattle.std.proofs.Common.{◌+◌, ◌*◌, ◌≤◌, length, sym, ◌∙◌, arith}
use Rattle.stackmap.specs.Section.{read_function}
use Rattle.stackmap.specs.Walk.{owner_by}
use Rattle.stackmap_check.proofs.walk.owner_address.Goals as goal

-- The address of the function whose number is given, or nobody's.
pub returns-then-old : goal.returns-then-old
unfolding owner_by
returns-then-old c = rw (← c.requires.0, c.if-old.true)

pub overflow_mul-function : goal.overflow_mul-function
overflow_mul-function c =
    let room : 16 + 24 * (c.args.function + 1) ≤ length c.args.s.now = let e = sym c.requires.0 ∙ c.if-old.false in
    let h = c.requires.2 e in
    let i = rw e at c.requires.1 in
    omega arith in
    let h = room in omega arith

pub overflow_add-function : goal.overflow_add-function
overflow_add-function c =
    let room : 16 + 24 * (c.args.function + 1) ≤ length c.args.s.now = let e = sym c.requires.0 ∙ c.if-old.false in
    let h = c.requires.2 e in
    let i = rw e at c.requires.1 in
    omega arith in
    let h = room in omega arith

pub u64_at-requires : goal.u64_at-requires
u64_at-requires c =
    let room : 16 + 24 * (c.args.function + 1) ≤ length c.args.s.now = let e = sym c.requires.0 ∙ c.if-old.false in
    let h = c.requires.2 e in
    let i = rw e at c.requires.1 in
    omega arith in
    let h = room in omega arith

pub returns : goal.returns
unfolding owner_by read_function
returns c = rw (← c.requires.0, c.if-old.false, c.u64_at.ensures)
