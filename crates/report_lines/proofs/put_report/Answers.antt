use Rattle.report_lines.specs.Lines.{named, head, kinds_line, report_text, stack_name, unknown_name, newline}
use Rattle.report_lines.proofs.Puts.{wrote, wrote_on}
use native.Mathlib.Omega.{arith}
use Rattle.report_lines.proofs.Puts.{start}
use Rattle.report_lines.proofs.put_report.Goals as goal

pub returns : goal.returns
unfolding report_text
returns c =
    let a = c.args in
    let h = c.put_head-next.ensures in
    let k = c.put_kinds-next.ensures in
    let p0 = c.put_named-next.ensures in
    let p1 = c.put_named-next-2.ensures in
    let p2 = c.put_text.ensures in
    let w0 = wrote a.out.now 0 (head a.t) (start (head a.t) h.0) h.1 in
    let w1 = wrote_on w0 (kinds_line a.t.kinds) k.0 k.1 in
    let w2 = wrote_on w1 (named stack_name a.t.stack) p0.0 p0.1 in
    let w3 = wrote_on w2 (named unknown_name a.t.unknown) p1.0 p1.1 in
    let w4 = wrote_on w3 newline p2.0 p2.1 in
    (omega (arith, w4.ends), w4.bytes, omega (arith, k.2, p0.2, p1.2, p2.0))
