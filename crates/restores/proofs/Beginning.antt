-- What the tests before a restore's own have given at each of their ends.
use Prim.Native.Nat.{ℕ, ◌<◌, ◌≤◌}
use mathlib.Core.Path.{◌≡◌, sym, ap, ◌∙◌}
use mathlib.Core.Bool.{true, false}
use mathlib.Core.List.{List}
use native.Mathlib.Omega.{arith}
use Rattle.stackmap.specs.Verdict.{Verdict}
use Rattle.stackmap.specs.Verdict.{Valid, Refused}
use Rattle.stackmap.specs.Check.{section_check}
use Rattle.questions.specs.Questions.{ask}
use Rattle.moves.specs.Limits.{pairs_most}
use Rattle.editions.specs.declared.Store.{Store}
use Rattle.relocate.specs.declared.Machine.{Machine}
use Rattle.relocate.specs.declared.Settings.{Settings}
use Rattle.editions_settings.specs.declared.NamedSettings.{NamedSettings}
use Rattle.editions_settings.specs.Code.{Names}
use Rattle.editions_settings.specs.Machine.{machine_known, machine_of, of_machine}
use Rattle.editions_settings.proofs.Laws.{under-refused, under-found}
use Rattle.restores.specs.declared.Begun.{Begun}
use Rattle.restores.specs.Code.{refused_at, passed_with, Begins}

refused-most : (v : Verdict) → (ask refused_at (refused_at 33 0) v).settings.most ≤ pairs_most
unfolding ask
refused-most (Refused n p) = omega arith
refused-most (Valid x) = omega arith

module _ (st : Store) (e machine : ℕ) (s : List ℕ) (n : NamedSettings) (names : Names st e n) where
  abbrev goes_on : Settings → Begun
  goes_on settings = of_machine refused_at machine s (passed_with (machine_of machine) settings)

  pub begins_31 : (r : Begun) → r ≡ refused_at 31 0 → 0 < n.number → Begins st e machine s r
  begins_31 r is h = rw is (record { is = sym (under-refused names h (refused_at 31 0) goes_on); most_right = omega arith })

  pub begins_33 : (r : Begun) (v : Verdict) → r ≡ ask refused_at (refused_at 33 0) v → v ≡ section_check s → n.number ≡ 0 → machine_known machine ≡ false
      → Begins st e machine s r
  begins_33 r v is checked z unknown =
      rw is (record {
        is =
            ap (λ (w : Verdict). ask refused_at (refused_at 33 0) w) checked
            ∙ sym (under-found names z (refused_at 31 0) goes_on ∙ rw unknown);
        most_right = refused-most v;
      })

  pub begins_on : (m : Machine) → m ≡ machine_of machine → n.number ≡ 0 → machine_known machine ≡ true → Begins st e machine s (passed_with m n.settings)
  begins_on m is z known =
      record {
        is = ap (λ (x : Machine). passed_with x n.settings) is ∙ sym (under-found names z (refused_at 31 0) goes_on ∙ rw known);
        most_right = names.most_right;
      }
