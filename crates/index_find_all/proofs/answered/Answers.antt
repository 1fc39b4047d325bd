use mathlib.Core.Path.{refl, sym}
use native.Mathlib.Omega.{arith}
use lib.ListN.{length}
use Rattle.stackmap.specs.Section.{entries}
use Rattle.questions.proofs.Standing.{tables-inside}
use Rattle.index.specs.Index.{answers_of}
use Rattle.index_answers.proofs.Writes.{answers-length}
use Rattle.index_find_all.proofs.Calls.{listed, too_short, all-written, indexed}
use Rattle.index_find_all.proofs.answered.Goals as goal

pub returns-then-answers-addresses : goal.returns-then-answers-addresses
returns-then-answers-addresses c =
    let a = c.args in
    let l = answers-length (entries a.s.now) a.addresses.now in
    listed (too_short (answers_of (entries a.s.now) a.addresses.now) a.answers.now (omega arith)) (record { number = c.refused.ensures.0; place = c.refused.ensures.1; written = c.refused.ensures.2; output = refl })

pub u32_at-n-requires : goal.u32_at-n-requires
u32_at-n-requires c =
    let k = tables-inside c.args.s.now (length c.args.s.now) c.requires.0 in
    omega arith

pub answer_all-requires : goal.answer_all-requires
answer_all-requires c = (indexed c.args.s.now c.args.index.now c.u32_at-n.result c.requires.0 c.requires.1 c.requires.2 c.u32_at-n.ensures (omega arith), omega arith)

pub returns : goal.returns
returns c =
    let a = c.args in
    let l = answers-length (entries a.s.now) a.addresses.now in
    listed (all-written (answers_of (entries a.s.now) a.addresses.now) a.answers.now (omega arith)) (record { number = refl; place = refl; written = sym l; output = c.answer_all.ensures })
