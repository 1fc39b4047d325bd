-- The refusals that the controller gives by itself: 1 to 9, and 50.
use Prim.Native.Nat.{ℕ, ◌≤◌, ◌<◌}
use mathlib.Core.Path.{◌≡◌, refl}
use mathlib.Core.Bool.{Bool, true, false}
use mathlib.Core.Logic.{◌⊎◌, inl, inr}
use mathlib.Core.Option.{Option, none, some}
use mathlib.Core.List.{List}
use native.Mathlib.Omega.{arith}
use lib.ListN.{length}
use Rattle.stackmap.specs.Verdict.{Verdict}
use Rattle.stackmap.specs.Verdict.{Valid, Refused}
use Rattle.stackmap.specs.Verdict.{must, chain}
use Rattle.stackmap.specs.Section.{read_section, entries}
use Rattle.stackmap.proofs.Numbers.{Numbered, section-numbered}
use Rattle.relocate.specs.declared.Machine.{Machine}
use Rattle.controller.specs.Profile.{first_breach, at_breach, profile_check}

abbrev pub Own : Verdict → Type 0
Own (Valid e) = Unit {0}
Own (Refused n p) = (0 < n) × ((n ≤ 9) ⊎ (n ≡ 50))

own_section : (v : Verdict) → Numbered 9 v → Own v
own_section (Valid e) h = tt
own_section (Refused n p) h = (h.above, inl h.low)

own_chain : (a k : Verdict) → Own a → Own k → Own (chain a k)
unfolding chain
own_chain (Valid e) k a b = b
own_chain (Refused n p) k a b = a

own_must : (b : Bool) (p : ℕ) (k : Verdict) → Own k → Own (must b 50 p k)
unfolding must
own_must true p k h = h
own_must false p k h = (omega arith, inr refl)

own_breach : (end : ℕ) (o : Option ℕ) → Own (at_breach end o)
own_breach end none = tt
own_breach end (some k) = (omega arith, inr refl)

pub own : (m : Machine) (s : List ℕ) → Own (profile_check m s)
unfolding profile_check
own m s = own_chain _ _ (own_section _ (section-numbered s)) (own_must _ 0 _ (own_breach (length s) (first_breach (read_section s).constants none (entries s))))
