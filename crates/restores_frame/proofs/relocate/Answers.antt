use Rattle.restores.specs.Restores.{request}
use Rattle.restores.specs.Moves.{numbered}
use Rattle.restores.proofs.Moving.{moves_refused, moves_passed}
use Rattle.restores_frame.proofs.relocate.Goals as goal

pub relocate-requires : goal.relocate-requires
relocate-requires c = c.begin-begun.ensures.most_right

pub returns-then-begun : goal.returns-then-begun
returns-then-begun c =
    let a = c.args in
    let Q = request a.store a.edition a.section.now a.olds.now a.news.now a.first in
    let g = numbered a.machine a.address a.function a.registers.now in
    moves_passed Q a.image.now g _ c.begin-begun.ensures _ _ _ c.relocate.ensures c.if-begun.true

pub returns : goal.returns
returns c =
    let a = c.args in
    let Q = request a.store a.edition a.section.now a.olds.now a.news.now a.first in
    let g = numbered a.machine a.address a.function a.registers.now in
    moves_refused Q a.image.now g _ c.begin-begun.ensures _ c.refused.ensures c.if-begun.false
