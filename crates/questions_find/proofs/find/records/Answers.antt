use mathlib.Core.Path.{◌≡◌, sym, ◌∙◌}
use native.Mathlib.Omega.{arith}
use Rattle.stackmap.specs.Section.{entries}
use Rattle.questions.specs.Kept.{searched}
use Rattle.questions.specs.Questions.{ask}
use Rattle.questions.proofs.Kept.{found_none, found_some}
use Rattle.questions_find.proofs.Ends.{front_refused, front_right, front_whole, front_after}
use Rattle.questions_find.proofs.find.records.Goals as goal

pub returns-then-front-ne0 : goal.returns-then-front-ne0
unfolding searched ask
returns-then-front-ne0 c =
    let a = c.args in
    let w = c.scan-front in
    c.refused.ensures ∙ rw (front_refused a.s.now a.address w.result w.ensures.0 c.if-front-ne0.true)

pub returns-then-front-s : goal.returns-then-front-s
unfolding searched ask
returns-then-front-s c =
    let a = c.args in
    let w = c.scan-front in
    let f = front_right a.s.now a.address w.result w.ensures.0 c.if-front-ne0.false in
    c.refused-then-front-s.ensures ∙ rw (front_after f c.if-front-s.true)

pub returns-then-hits-eq0 : goal.returns-then-hits-eq0
unfolding searched ask
returns-then-hits-eq0 c =
    let a = c.args in
    let w = c.scan-front in
    let f = front_right a.s.now a.address w.result w.ensures.0 c.if-front-ne0.false in
    let z : w.result.hits.sharing ≡ 0 = omega arith in
    c.refused-then-hits-eq0.ensures
    ∙ rw (front_whole f c.if-front-s.false) (sym (found_none a.address (entries a.s.now) w.result.hits f.kept z))

pub returns : goal.returns
unfolding searched ask
returns c =
    let a = c.args in
    let w = c.scan-front in
    let f = front_right a.s.now a.address w.result w.ensures.0 c.if-front-ne0.false in
    rw (front_whole f c.if-front-s.false) (sym (found_some a.address (entries a.s.now) w.result.hits f.kept c.if-hits-eq0.false))
