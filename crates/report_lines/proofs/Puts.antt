-- Texts one after the other.
use Prim.Native.Nat.{ℕ, ◌+◌}
use mathlib.Core.Path.{◌≡◌, sym, ap, ◌∙◌}
use mathlib.Core.List.{List, ◌++◌, append_assoc}
use native.Mathlib.Omega.{arith}
use lib.ListN.{length, length-append}
use lib.Seq.{sets}
use Rattle.wire.proofs.Laws.{sets-append}
use Rattle.decimal.specs.Line.{decimal, line, refused_text, at_text}
use Rattle.report_lines.specs.Lines.{named, newline}

-- from `at` on a text is written, which ends before `next`
pub record Wrote (out : List ℕ) (at : ℕ) (text now : List ℕ) (next : ℕ) : Type 0 where
  pub bytes : now ≡ sets out at text
  pub ends : next ≡ at + length text

pub wrote : (out : List ℕ) (at : ℕ) (text : List ℕ) {now : List ℕ} {next : ℕ} → next ≡ at + length text → now ≡ sets out at text → Wrote out at text now next
wrote out at text e b = record { bytes = b; ends = e }

-- one text more
pub wrote_on : {out : List ℕ} {at : ℕ} {text now : List ℕ} {next : ℕ} → Wrote out at text now next → (more : List ℕ) {after : List ℕ} {next' : ℕ}
    → next' ≡ next + length more → after ≡ sets now next more → Wrote out at (text ++ more) after next'
wrote_on {out} {at} {text} w more e b =
    record { bytes = b ∙ rw (w.bytes, w.ends) (sym (sets-append out at text more)); ends = omega (arith, length-append text more, w.ends) }

-- the line that says a refusal, by two names and numbers
pub refused-line : (number place : ℕ) → line number place ≡ named refused_text number ++ named at_text place ++ newline
unfolding line named
refused-line number place = ap (λ (xs : List ℕ). xs ++ newline) (append_assoc (refused_text ++ decimal number) at_text (decimal place))

-- a text at the beginning
pub start : {n : ℕ} (text : List ℕ) → n ≡ length text → n ≡ 0 + length text
start text e = omega arith
