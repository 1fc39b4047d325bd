use Rattle.report_lines.specs.Lines.{named, head, sections_name, refused_name, functions_name, records_name, statepoints_name, pairs_name}
use Rattle.report_lines.proofs.Puts.{wrote, wrote_on}
use native.Mathlib.Omega.{arith}
use Rattle.report_lines.proofs.put_head.Goals as goal

pub returns : goal.returns
unfolding head
returns c =
    let a = c.args in
    let p0 = c.put_named-next.ensures in
    let p1 = c.put_named-next-2.ensures in
    let p2 = c.put_named-next-3.ensures in
    let p3 = c.put_named-next-4.ensures in
    let p4 = c.put_named-next-5.ensures in
    let p5 = c.put_named.ensures in
    let w0 = wrote a.out.now 0 (named sections_name a.t.sections) p0.0 p0.1 in
    let w1 = wrote_on w0 (named refused_name a.t.refused) p1.0 p1.1 in
    let w2 = wrote_on w1 (named functions_name a.t.functions) p2.0 p2.1 in
    let w3 = wrote_on w2 (named records_name a.t.records) p3.0 p3.1 in
    let w4 = wrote_on w3 (named statepoints_name a.t.statepoints) p4.0 p4.1 in
    let w5 = wrote_on w4 (named pairs_name a.t.pairs) p5.0 p5.1 in
    (omega (arith, w5.ends), w5.bytes, omega (arith, p0.2, p1.2, p2.2, p3.2, p4.2, p5.2))
