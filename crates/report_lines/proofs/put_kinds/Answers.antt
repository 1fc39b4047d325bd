use Rattle.report_lines.specs.Lines.{named, kinds_line, kinds_name, space}
use Rattle.report_lines.proofs.Puts.{wrote, wrote_on}
use native.Mathlib.Omega.{arith}
use Rattle.report_lines.proofs.put_kinds.Goals as goal

pub returns : goal.returns
unfolding kinds_line
returns c =
    let a = c.args in
    let p0 = c.put_named-next.ensures in
    let p1 = c.put_named-next-2.ensures in
    let p2 = c.put_named-next-3.ensures in
    let p3 = c.put_named-next-4.ensures in
    let p4 = c.put_named.ensures in
    let w0 = wrote a.out.now a.at (named kinds_name a.k.register) p0.0 p0.1 in
    let w1 = wrote_on w0 (named space a.k.direct) p1.0 p1.1 in
    let w2 = wrote_on w1 (named space a.k.indirect) p2.0 p2.1 in
    let w3 = wrote_on w2 (named space a.k.constant) p3.0 p3.1 in
    let w4 = wrote_on w3 (named space a.k.pool) p4.0 p4.1 in
    (w4.ends, w4.bytes, omega (arith, c.requires, p0.2, p1.2, p2.2, p3.2, p4.2))
