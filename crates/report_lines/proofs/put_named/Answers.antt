use Rattle.report_lines.specs.Lines.{named}
use Rattle.report_lines.proofs.Puts.{wrote, wrote_on}
use native.Mathlib.Omega.{arith}
use Rattle.decimal.specs.Line.{decimal, digits}
use Rattle.decimal.proofs.Digits.{digits-length}
use Rattle.report_lines.proofs.put_named.Goals as goal

pub returns : goal.returns
unfolding named decimal
returns c =
    let a = c.args in
    let x = c.put_text-next.ensures in
    let y = c.put_digits.ensures in
    let w = wrote_on (wrote a.out.now a.at a.name.now x.0 x.1) (digits 20 a.n) y.0 y.1 in
    (w.ends, w.bytes, omega (arith, x.0, y.0, digits-length 20 a.n))
