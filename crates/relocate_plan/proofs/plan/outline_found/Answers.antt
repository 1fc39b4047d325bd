use Rattle.wire.specs.Word.{Bytes}
use native.Mathlib.Omega.{arith}
use Rattle.questions.specs.Questions.{sought}
use Rattle.relocate.specs.Restore.{restore}
use Rattle.relocate.specs.Code.{limited, plan_entry}
use Rattle.relocate_plan.proofs.Asking.{none_found, several_found, found-stands, found-function}
use Rattle.relocate_plan.proofs.Stages.{refuses, entry-plan}
use Rattle.relocate_plan.proofs.plan.outline_found.Goals as goal

pub returns-then-found-ne0 : goal.returns-then-found-ne0
returns-then-found-ne0 c olds news =
    let a = c.args in
    let R = restore a.s.now olds news a.first (limited a.most) in
    refuses R a.frame _ _ a.long 10 0 (omega arith) c.refused.ensures
    (none_found a.found (plan_entry R a.long a.frame) (sought a.s.now a.frame.function a.frame.address) c.requires.1 c.if-found-ne0.true)

pub returns-then-found-ne1 : goal.returns-then-found-ne1
returns-then-found-ne1 c olds news =
    let a = c.args in
    let R = restore a.s.now olds news a.first (limited a.most) in
    refuses R a.frame _ _ a.long 15 0 (omega arith) c.refused-then-found-ne1.ensures
    (several_found a.found (plan_entry R a.long a.frame) (sought a.s.now a.frame.function a.frame.address) c.requires.1 c.if-found-ne0.false c.if-found-ne1.true)

pub stack_size-size-requires : goal.stack_size-size-requires
stack_size-size-requires c =
    let a = c.args in
    let w : Bytes a.s.now = record { below = λ i. (c.shared_slice_known-1.given i).fits } in
    found-function a.s.now a.frame.function a.frame.address c.requires.0 w a.found c.requires.1 c.if-found-ne0.false c.if-found-ne1.false

pub outline_record-requires : goal.outline_record-requires
outline_record-requires c =
    let a = c.args in
    let w : Bytes a.s.now = record { below = λ i. (c.shared_slice_known-1.given i).fits } in
    (found-stands a.s.now a.frame.function a.frame.address c.requires.0 w a.found c.requires.1 c.if-found-ne0.false c.if-found-ne1.false, c.requires.2, c.requires.3)

pub returns : goal.returns
returns c olds news =
    let a = c.args in
    let R = restore a.s.now olds news a.first (limited a.most) in
    let w : Bytes a.s.now = record { below = λ i. (c.shared_slice_known-1.given i).fits } in
    rw (entry-plan R a.long a.frame a.found c.stack_size-size.result c.requires.0 w c.requires.1 c.if-found-ne0.false c.if-found-ne1.false c.stack_size-size.ensures)
    (c.outline_record.ensures olds news)
