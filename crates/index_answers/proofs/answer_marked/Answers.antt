use native.Mathlib.Omega.{arith}
use Rattle.index_lookup.specs.Looked.{five}
use Rattle.index_answers.proofs.Writes.{writing_start, writing_on, writing_end}
use Rattle.index_answers.proofs.answer_marked.Goals as goal

pub loop-i-init : goal.loop-i-init
loop-i-init c = writing_start _ _ _

pub look_up-looked-requires : goal.look_up-looked-requires
look_up-looked-requires c = (c.requires.0, c.requires.1)

pub overflow_mul-i : goal.overflow_mul-i
overflow_mul-i c =
    let w = c.loop-i.invariant.long in
    let l = c.requires.2 in
    omega arith

pub put-requires : goal.put-requires
put-requires c =
    let w = c.loop-i.invariant.long in
    let l = c.requires.2 in
    omega arith

pub loop-i-preserved : goal.loop-i-preserved
loop-i-preserved c =
    writing_on (five c.look_up-looked.result) c.loop-i.invariant (omega arith) c.look_up-looked.ensures
    c.put.ensures

pub shape_of-answers : goal.shape_of-answers
shape_of-answers c = c.loop-i.invariant.long

pub returns : goal.returns
returns c = writing_end c.loop-i.invariant (omega arith)
