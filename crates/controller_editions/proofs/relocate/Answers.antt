use native.Mathlib.Omega.{arith}
use Rattle.restores.specs.Restores.{request}
use Rattle.restores.specs.Moves.{numbered}
use Rattle.controller_editions.proofs.Calling.{frame_31, frame_on}
use Rattle.controller_editions.proofs.relocate.Goals as goal

pub returns-then-named-ne0 : goal.returns-then-named-ne0
returns-then-named-ne0 c =
    let a = c.args in
    let Q = request a.store a.edition a.section.now a.olds.now a.news.now a.first in
    frame_31 Q a.image.now _ c.named-named.ensures (numbered a.machine a.address a.function a.registers.now) (omega arith) c.refused.ensures

pub returns : goal.returns
returns c =
    let a = c.args in
    let Q = request a.store a.edition a.section.now a.olds.now a.news.now a.first in
    let g = numbered a.machine a.address a.function a.registers.now in
    frame_on Q a.image.now _ c.named-named.ensures g _ (omega arith) c.machine_of-known.ensures c.relocate.ensures
