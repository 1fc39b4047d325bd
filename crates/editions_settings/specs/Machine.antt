-- A machine by its number, as an edition keeps it and as it crosses the C boundary.
use Rattle.std.specs.Prelude.{ℕ, Bool, cond, List, eqb, leb}
use Rattle.stackmap.specs.Check.{section_check}
use Rattle.questions.specs.Questions.{ask}
use Rattle.relocate.specs.declared.Machine.{Machine}
use Rattle.relocate.specs.declared.Machine.TheVariants.{Amd64, Aarch64}

-- 0 is AMD64 and 1 is AArch64, as document 02 numbers them in request 9
abbrev pub machine_known : ℕ → Bool
machine_known n = leb n 1

abbrev pub machine_of : ℕ → Machine
machine_of n = cond (eqb n 0) Amd64 Aarch64

-- what a restore gives; a number that is no machine's is 33, directly after the section's own refusals
abbrev pub of_machine : {A : Type 0} → (ℕ → ℕ → A) → ℕ → List ℕ → A → A
of_machine refuse n s a = cond (machine_known n) a (ask refuse (refuse 33 0) (section_check s))

-- and leaves the image and the registers as lent
abbrev pub left_of : ℕ → List ℕ → List ℕ → List ℕ
left_of n lent moved = cond (machine_known n) moved lent
