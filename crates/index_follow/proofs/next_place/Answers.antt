use Prim.Native.Nat.{◌+◌}
use mathlib.Core.Path.{◌≡◌, ◌∙◌}
use native.Mathlib.Omega.{arith}
use borrow.Author.Tests.{le-leb, lt-leb}
use Rattle.stackmap.specs.Section.{address}
use Rattle.stackmap.specs.Walk.{entry_at}
use Rattle.questions.proofs.Kept.{here-address}
use Rattle.index.specs.Index.{row_of}
use Rattle.index_follow.specs.Seen.{seen}
use Rattle.index_follow.proofs.Rows.{placed_in}
use Rattle.index_follow.proofs.next_place.Goals as goal

pub returns-then-place-n : goal.returns-then-place-n
unfolding seen
returns-then-place-n c = (c.requires.4, rw (lt-leb c.args.place c.args.n (omega arith)))

pub overflow_add-start : goal.overflow_add-start
overflow_add-start c =
    let h = here-address c.args.s.now c.args.number c.args.function c.args.at in
    let w = c.requires.0 in
    let i = c.requires.2 in
    let u = c.u32_at.ensures in
    omega arith

pub place_of-here-requires : goal.place_of-here-requires
place_of-here-requires c =
    let u = c.requires.4.usable (omega arith) in
    (omega (arith, u.long), u.rising)

pub returns : goal.returns
unfolding seen
returns c =
    let h = here-address c.args.s.now c.args.number c.args.function c.args.at in
    let w = c.requires.0 in
    let u = c.u32_at.ensures in
    let a : c.args.start + c.from-offset.result ≡ address (entry_at c.args.s.now c.args.number c.args.function c.args.at) = omega arith in
    let p = placed_in c.args.list.now c.args.n c.place_of-here.result (row_of (entry_at c.args.s.now c.args.number c.args.function c.args.at)) (rw a at c.place_of-here.ensures) in
    (record { most = omega (arith, c.place_of-here.ensures.most); usable = λ l. c.requires.4.usable (omega arith) }, p ∙ rw (le-leb c.args.place c.args.n (omega arith)))
