use Prim.Native.Nat.{ℕ}
use mathlib.Core.Path.{sym, ap, ◌∙◌}
use mathlib.Core.List.{List}
use lib.ListN.{length}
use lib.Seq.{sets}
use Rattle.report_lines.specs.Lines.{named, newline}
use Rattle.report_lines.proofs.Puts.{wrote, wrote_on}
use native.Mathlib.Omega.{arith}
use Rattle.decimal.specs.Line.{refused_text, at_text}
use Rattle.report_lines.proofs.Puts.{refused-line}
use Rattle.report_lines.proofs.put_refused.Goals as goal

pub returns : goal.returns
returns c =
    let a = c.args in
    let p0 = c.put_named-next.ensures in
    let p1 = c.put_named-next-2.ensures in
    let p2 = c.put_text.ensures in
    let w0 = wrote a.out.now 0 (named refused_text a.number) p0.0 p0.1 in
    let w1 = wrote_on w0 (named at_text a.place) p1.0 p1.1 in
    let w2 = wrote_on w1 newline p2.0 p2.1 in
    let e = refused-line a.number a.place in
    (omega (arith, w2.ends, ap length e), w2.bytes ∙ ap (λ (xs : List ℕ). sets a.out.now 0 xs) (sym e), omega (arith, p0.2, p1.2, p2.0))
