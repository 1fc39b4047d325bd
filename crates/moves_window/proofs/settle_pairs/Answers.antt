use native.Mathlib.Omega.{arith}
use Rattle.moves.specs.Table.{look_up}
use Rattle.moves.specs.Slots.{state}
use Rattle.moves_window.proofs.Meets.{done, stays}
use Rattle.moves_window.proofs.settle_pairs.Goals as goal

pub returns-then-write : goal.returns-then-write
returns-then-write c =
    let p = c.put_all in
    let j = c.judge-answer in
    let a = c.args in
    rw c.if-write.true
    (done a.live.now a.bases.now a.derived.now a.pairs (look_up a.olds.now a.news.now) (state a.window.now a.registers.now) _ _ j.ensures _ (omega arith) p.ensures)

pub returns-else-answer-eq0 : goal.returns-else-answer-eq0
returns-else-answer-eq0 c =
    let j = c.judge-answer in
    let a = c.args in
    stays a.live.now a.bases.now a.derived.now a.pairs (look_up a.olds.now a.news.now) (state a.window.now a.registers.now) _ _ j.ensures a.write (λ e. grind arith)
