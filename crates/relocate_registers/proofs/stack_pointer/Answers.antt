use mathlib.Core.Path.{sym, ap}
use Rattle.relocate.specs.Limits.{stack_pointer}
use Rattle.relocate_registers.proofs.stack_pointer.Goals as goal

pub returns-in-Amd64 : goal.returns-in-Amd64
returns-in-Amd64 c = sym (ap stack_pointer c.in-Amd64.is)

pub returns-in-Aarch64 : goal.returns-in-Aarch64
returns-in-Aarch64 c = sym (ap stack_pointer c.in-Aarch64.is)
