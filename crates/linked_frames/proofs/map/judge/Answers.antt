use mathlib.Core.Path.{◌≡◌, ◌∙◌}
use Rattle.questions.specs.Questions.{first_of, sought}
use Rattle.relocate.specs.Restore.{restore}
use Rattle.relocate.specs.Stopped.{stopped, cursor}
use Rattle.relocate.specs.Plan.{records_of}
use Rattle.linked_frames.proofs.Plain.{plain-plan, plain-refused, plain-accepted}
use Rattle.linked_frames.proofs.map.judge.Goals as goal

pub judge_found-outline-requires : goal.judge_found-outline-requires
unfolding records_of cursor
judge_found-outline-requires c =
    let f = c.cursor-at.result in
    let e : c.args.found ≡ first_of (sought c.args.map.now f.function f.address) = rw c.cursor-at.ensures c.requires.1 in
    (c.requires.0, e, c.requires.3, c.requires.4, c.requires.5, c.requires.6)

pub returns-then-outline-ne0 : goal.returns-then-outline-ne0
returns-then-outline-ne0 c =
    let a = c.args in
    let R = restore a.map.now a.olds.now a.news.now a.first a.settings in
    let st = stopped a.frame a.registers.now in
    let p = plain-plan R a.image.now st c.requires.0 c.requires.2 c.requires.3 c.requires.4 c.requires.6 c.cursor-at.result c.cursor-at.ensures in
    c.refused.ensures ∙ plain-refused R a.image.now st (c.judge_found-outline.ensures a.frame a.settings c.cursor-at.ensures p) c.if-outline-ne0.true

pub returns : goal.returns
returns c =
    let a = c.args in
    let R = restore a.map.now a.olds.now a.news.now a.first a.settings in
    let st = stopped a.frame a.registers.now in
    let p = plain-plan R a.image.now st c.requires.0 c.requires.2 c.requires.3 c.requires.4 c.requires.6 c.cursor-at.result c.cursor-at.ensures in
    plain-accepted R a.image.now st (c.judge_found-outline.ensures a.frame a.settings c.cursor-at.ensures p) c.if-outline-ne0.false
