use mathlib.Core.Path.{◌≡◌, ◌∙◌}
use native.Mathlib.Omega.{arith}
use lib.ListN.{length}
use Rattle.program.proofs.Written.{written-long, written-refused, written_listed}
use Rattle.program.proofs.answer.Goals as goal

pub returns-then-input-gt-INPUT_MOST : goal.returns-then-input-gt-INPUT_MOST
returns-then-input-gt-INPUT_MOST c = rw (written-long _ c.if-input-gt-INPUT_MOST.true) (c.put_line.ensures.0, c.put_line.ensures.1, omega arith)

pub returns-then-c-ne0 : goal.returns-then-c-ne0
returns-then-c-ne0 c =
    let a = c.args in
    let t = c.to_listing-c.ensures in
    let room : length a.out.now ≡ 65536 = omega arith in
    let h = written-refused a.input.now a.out.now c.if-input-gt-INPUT_MOST.false room (rw t.number at c.if-c-ne0.true) in
    let l = h.line-is in
    rw (l, ← t.number, ← t.place, ← c.from.ensures) (c.put_line-then-c-ne0.ensures.0, rw (← h.kept, ← t.output) c.put_line-then-c-ne0.ensures.1, omega arith)

pub returns : goal.returns
returns c =
    let a = c.args in
    let t = c.to_listing-c.ensures in
    let room : length a.out.now ≡ 65536 = omega arith in
    let h = written_listed a.input.now a.out.now c.if-input-gt-INPUT_MOST.false room (rw t.number at c.if-c-ne0.false) in
    (t.written ∙ h.long, t.output ∙ h.bytes, rw t.written h.fit)
