use mathlib.Core.Path.{sym, ap}
use Rattle.relocate.specs.Limits.{general_registers}
use Rattle.relocate_registers.proofs.general_registers.Goals as goal

pub returns-in-Amd64 : goal.returns-in-Amd64
returns-in-Amd64 c = sym (ap general_registers c.in-Amd64.is)

pub returns-in-Aarch64 : goal.returns-in-Aarch64
returns-in-Aarch64 c = sym (ap general_registers c.in-Aarch64.is)
