use mathlib.Core.Path.{◌∙◌}
use Rattle.relocate.specs.Restore.{restore}
use Rattle.relocate.specs.Stopped.{stopped}
use Rattle.relocate.specs.Code.{limited}
use Rattle.relocate_judge.proofs.Leading.{slots_any, refuses}
use Rattle.relocate_judge.proofs.judge_found.Goals as goal

pub returns-then-outline-ne0 : goal.returns-then-outline-ne0
returns-then-outline-ne0 c g settings e p =
    let a = c.args in
    refuses (restore a.s.now a.olds.now a.news.now a.first settings) a.image.now (stopped g a.registers.now) a.frame _ _ _ _
    (p ∙ (c.outline_found-outline.ensures a.olds.now a.news.now).refused c.if-outline-ne0.true) c.if-outline-ne0.true

pub of_outline-requires : goal.of_outline-requires
of_outline-requires c =
    let a = c.args in
    ((c.outline_found-outline.ensures a.olds.now a.news.now).stands c.if-outline-ne0.false, c.if-outline-ne0.false, c.requires.5, c.requires.3, c.requires.2)

pub returns : goal.returns
returns c g settings e p =
    let a = c.args in
    c.of_outline.ensures g settings
    (record {
      accepted = c.requires.0;
      cursor_is = e;
      goes_on = p ∙ (c.outline_found-outline.ensures a.olds.now a.news.now).goes_on c.if-outline-ne0.false
          ∙ slots_any a.s.now a.olds.now a.news.now a.first (limited a.most) settings _ _ _;
    })
