use mathlib.Core.Path.{sym, ap}
use Rattle.relocate.specs.declared.Machine.{Machine}
use Rattle.relocate.specs.Limits.{frame_pointer}
use Rattle.relocate_glance.specs.Plain.{slot_word}
use Rattle.relocate_glance.proofs.at_frame_pointer.Goals as goal

pub returns-in-Amd64 : goal.returns-in-Amd64
returns-in-Amd64 c = sym (ap (λ (m : Machine). slot_word (frame_pointer m)) c.in-Amd64.is)

pub returns-in-Aarch64 : goal.returns-in-Aarch64
returns-in-Aarch64 c = sym (ap (λ (m : Machine). slot_word (frame_pointer m)) c.in-Aarch64.is)
