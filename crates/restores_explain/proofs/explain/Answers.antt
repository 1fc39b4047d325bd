use mathlib.Core.Path.{sym, ap, ◌∙◌}
use Rattle.explain.specs.declared.Reason.TheVariants.{Refused}
use Rattle.explain.specs.Explain.{explained, slot_of}
use Rattle.relocate.specs.declared.Machine.{Machine}
use Rattle.relocate.specs.Stopped.{stopped}
use Rattle.restores.specs.Restores.{request, with_settings}
use Rattle.restores.specs.Moves.{numbered, stopped_of}
use Rattle.restores.proofs.Laws.{by-refused, by-passed, machine-is}
use Rattle.restores_explain.proofs.explain.Goals as goal

pub explain-requires : goal.explain-requires
explain-requires c = c.begin-begun.ensures.most_right

pub returns-then-begun : goal.returns-then-begun
returns-then-begun c =
    let b = c.begin-begun in
    let t = c.if-begun.true in
    let a = c.args in
    let Q = request a.store a.edition a.section.now a.olds.now a.news.now a.first in
    let g = numbered a.machine a.address a.function a.registers.now in
    c.explain.ensures
    ∙ ap (λ (m : Machine). explained (with_settings Q b.result.settings) a.image.now (stopped (record { machine = m; address = a.address; function = a.function }) a.registers.now) (slot_of a.asked))
    (machine-is Q a.machine b.result b.ensures t)
    ∙ sym (by-passed Q a.machine b.result b.ensures t Refused (λ R. explained R a.image.now (stopped_of g) (slot_of a.asked)))

pub returns : goal.returns
returns c =
    let b = c.begin-begun in
    let a = c.args in
    let Q = request a.store a.edition a.section.now a.olds.now a.news.now a.first in
    let g = numbered a.machine a.address a.function a.registers.now in
    sym (by-refused Q a.machine b.result b.ensures c.if-begun.false Refused (λ R. explained R a.image.now (stopped_of g) (slot_of a.asked)))
