use Prim.Native.Nat.{◌-◌}
use mathlib.Core.Path.{◌≡◌, sym}
use native.Mathlib.Omega.{arith}
use lib.ListN.{drop}
use Rattle.stackmap.specs.Section.{is_old, record_length}
use Rattle.stackmap.specs.Walk.{entry_at}
use Rattle.stackmap.proofs.Forth.{read-size}
use Rattle.questions.proofs.Kept.{picked_this, picked-other}
use Rattle.questions_locate.proofs.keep.Goals as goal

pub returns-then-index-wanted : goal.returns-then-index-wanted
returns-then-index-wanted c =
    let a = c.args in
    let e : a.end - a.at ≡ record_length (is_old a.s.now) (drop a.at a.s.now) = omega arith in
    (λ i. rw (picked_this (is_old a.s.now) a.wanted (entry_at a.s.now a.index i a.at) a.kept c.if-index-wanted.true, read-size, e), omega arith)

pub returns : goal.returns
returns c =
    let a = c.args in
    (λ i. sym (picked-other (is_old a.s.now) a.wanted (entry_at a.s.now a.index i a.at) a.kept c.if-index-wanted.false), omega arith)
