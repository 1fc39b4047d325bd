-- Rows that are written under an edition, after `begin`.
use Prim.Native.Nat.{ℕ}
use mathlib.Core.Path.{◌≡◌, sym, ap, ◌∙◌}
use mathlib.Core.Bool.{true, false}
use mathlib.Core.List.{List}
use Rattle.moves.specs.declared.Move.{Move}
use Rattle.moves.specs.Settle.{refused_move}
use Rattle.relocate.specs.declared.Machine.{Machine}
use Rattle.relocate.specs.Restore.{Restore}
use Rattle.editions_settings.specs.Machine.{machine_of}
use Rattle.restores.specs.declared.Begun.{Begun}
use Rattle.restores.specs.Restores.{Request, with_settings, by_edition, left_by_edition}
use Rattle.restores.specs.Code.{Begins}
use Rattle.restores.proofs.Laws.{by-refused, left-refused, by-passed, left_passed, machine-is}

module _ (Q : Request) (machine : ℕ) (b : Begun) (begins : Begins Q.store Q.edition machine Q.section b) (lent : List ℕ)
    (says : Machine → Restore → Move) (leaves : Machine → Restore → List ℕ) where
  -- the answer, and the list that is left
  abbrev Told : Move → List ℕ → Type 0
  Told r after = (r ≡ by_edition Q machine refused_move (says (machine_of machine))) × (after ≡ left_by_edition Q machine lent (leaves (machine_of machine)))

  pub told-passed : b.passed ≡ true → (r : Move) (after : List ℕ) → r ≡ says b.machine (with_settings Q b.settings)
      → after ≡ leaves b.machine (with_settings Q b.settings) → Told r after
  told-passed t r after e l =
      let m = machine-is Q machine b begins t in (
        e ∙ ap (λ (x : Machine). says x (with_settings Q b.settings)) m ∙ sym (by-passed Q machine b begins t refused_move (says (machine_of machine))),
        l ∙ ap (λ (x : Machine). leaves x (with_settings Q b.settings)) m ∙ sym (left_passed Q machine b begins t lent (leaves (machine_of machine))),
      )

  pub told-refused : b.passed ≡ false → (r : Move) → r ≡ refused_move b.number b.place → Told r lent
  told-refused f r e = (
    e ∙ sym (by-refused Q machine b begins f refused_move (says (machine_of machine))),
    sym (left-refused Q machine b begins f lent (leaves (machine_of machine))),
  )
