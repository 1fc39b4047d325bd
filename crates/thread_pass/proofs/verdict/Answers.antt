use mathlib.Core.Path.{sym}
use native.Mathlib.Omega.{arith}
use Rattle.thread_pass.proofs.verdict.Goals as goal

pub returns-then-end-gt0 : goal.returns-then-end-gt0
returns-then-end-gt0 c = sym (c.requires.4 (omega arith))
