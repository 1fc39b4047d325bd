-- What a caller of `begin` knows, for whatever it gives under the edition.
use Prim.Native.Nat.{ℕ}
use mathlib.Core.Path.{◌≡◌, refl, sym, ap, ◌∙◌}
use mathlib.Core.Bool.{Bool, true, false, cond, true≢false}
use mathlib.Core.Option.{Option, none, some}
use mathlib.Core.List.{List}
use Rattle.stackmap.specs.Verdict.{Verdict}
use Rattle.stackmap.specs.Verdict.{Valid, Refused}
use Rattle.stackmap.specs.Check.{section_check}
use Rattle.questions.specs.Questions.{ask}
use Rattle.editions.specs.declared.Settings as kept
use Rattle.editions.specs.Store.{look}
use Rattle.relocate.specs.declared.Machine.{Machine}
use Rattle.relocate.specs.declared.Settings.{Settings}
use Rattle.relocate.specs.Restore.{Restore}
use Rattle.editions_settings.specs.Under.{by_found, under}
use Rattle.editions_settings.specs.Machine.{machine_known, machine_of}
use Rattle.restores.specs.declared.Begun.{Begun}
use Rattle.restores.specs.Restores.{Request, with_settings, by_edition, left_by_edition}
use Rattle.restores.specs.Code.{refused_at, passed_with, Begins}

-- By what the tests read: the edition's settings, whether the machine is known, and the section's verdict.

abbrev given : {A : Type 0} → Option kept.Settings → Bool → Verdict → (ℕ → ℕ → A) → (Settings → A) → A
given o b v refuse k = by_found o (refuse 31 0) (λ settings. cond b (k settings) (ask refuse (refuse 33 0) v))

abbrev leaves : Option kept.Settings → Bool → List ℕ → (Settings → List ℕ) → List ℕ
leaves o b lent k = by_found o lent (λ settings. cond b (k settings) lent)

module _ (r : Begun) (m : Machine) where
  refused_as : {A : Type 0} (o : Option kept.Settings) (b : Bool) (v : Verdict) → r ≡ given o b v refused_at (passed_with m) → r.passed ≡ false
      → (refuse : ℕ → ℕ → A) (k : Settings → A) → given o b v refuse k ≡ refuse r.number r.place
  unfolding ask
  refused_as none b v e f refuse k = ap (λ (x : Begun). refuse x.number x.place) (sym e)
  refused_as (some s) true v e f refuse k = absurd (true≢false (sym (ap (λ (x : Begun). x.passed) e) ∙ f))
  refused_as (some s) false (Refused n p) e f refuse k = ap (λ (x : Begun). refuse x.number x.place) (sym e)
  refused_as (some s) false (Valid x) e f refuse k = ap (λ (x : Begun). refuse x.number x.place) (sym e)

  left_as : (o : Option kept.Settings) (b : Bool) (v : Verdict) → r ≡ given o b v refused_at (passed_with m) → r.passed ≡ false
      → (lent : List ℕ) (k : Settings → List ℕ) → leaves o b lent k ≡ lent
  left_as none b v e f lent k = refl
  left_as (some s) true v e f lent k = absurd (true≢false (sym (ap (λ (x : Begun). x.passed) e) ∙ f))
  left_as (some s) false v e f lent k = refl

  -- what a passed one has found
  passed_as : {A : Type 0} (o : Option kept.Settings) (b : Bool) (v : Verdict) → r ≡ given o b v refused_at (passed_with m) → r.passed ≡ true
      → (refuse : ℕ → ℕ → A) (k : Settings → A) → given o b v refuse k ≡ k r.settings
  unfolding ask
  passed_as none b v e f refuse k = absurd (true≢false (sym f ∙ ap (λ (x : Begun). x.passed) e))
  passed_as (some s) true v e f refuse k = ap (λ (x : Begun). k x.settings) (sym e)
  passed_as (some s) false (Refused n p) e f refuse k = absurd (true≢false (sym f ∙ ap (λ (x : Begun). x.passed) e))
  passed_as (some s) false (Valid x) e f refuse k = absurd (true≢false (sym f ∙ ap (λ (x : Begun). x.passed) e))

  left_by_as : (o : Option kept.Settings) (b : Bool) (v : Verdict) → r ≡ given o b v refused_at (passed_with m) → r.passed ≡ true
      → (lent : List ℕ) (k : Settings → List ℕ) → leaves o b lent k ≡ k r.settings
  unfolding ask
  left_by_as none b v e f lent k = absurd (true≢false (sym f ∙ ap (λ (x : Begun). x.passed) e))
  left_by_as (some s) true v e f lent k = ap (λ (x : Begun). k x.settings) (sym e)
  left_by_as (some s) false (Refused n p) e f lent k = absurd (true≢false (sym f ∙ ap (λ (x : Begun). x.passed) e))
  left_by_as (some s) false (Valid x) e f lent k = absurd (true≢false (sym f ∙ ap (λ (x : Begun). x.passed) e))

  machine_as : (o : Option kept.Settings) (b : Bool) (v : Verdict) → r ≡ given o b v refused_at (passed_with m) → r.passed ≡ true → r.machine ≡ m
  unfolding ask
  machine_as none b v e f = absurd (true≢false (sym f ∙ ap (λ (x : Begun). x.passed) e))
  machine_as (some s) true v e f = ap (λ (x : Begun). x.machine) e
  machine_as (some s) false (Refused n p) e f = absurd (true≢false (sym f ∙ ap (λ (x : Begun). x.passed) e))
  machine_as (some s) false (Valid x) e f = absurd (true≢false (sym f ∙ ap (λ (x : Begun). x.passed) e))

module _ (Q : Request) (machine : ℕ) (r : Begun) (begins : Begins Q.store Q.edition machine Q.section r) where
  -- A refusal: it is given, and what was lent is left.
  pub by-refused : {A : Type 0} → r.passed ≡ false → (refuse : ℕ → ℕ → A) (k : Restore → A) → by_edition Q machine refuse k ≡ refuse r.number r.place
  unfolding under
  by-refused f refuse k =
      refused_as r (machine_of machine) (look Q.edition Q.store.slots) (machine_known machine) (section_check Q.section) begins.is f refuse
      (λ settings. k (with_settings Q settings))

  pub left-refused : r.passed ≡ false → (lent : List ℕ) (k : Restore → List ℕ) → left_by_edition Q machine lent k ≡ lent
  unfolding under
  left-refused f lent k =
      left_as r (machine_of machine) (look Q.edition Q.store.slots) (machine_known machine) (section_check Q.section) begins.is f lent
      (λ settings. k (with_settings Q settings))

  -- None: it is the restore with the settings that were found, of the machine that was found.
  pub by-passed : {A : Type 0} → r.passed ≡ true → (refuse : ℕ → ℕ → A) (k : Restore → A)
      → by_edition Q machine refuse k ≡ k (with_settings Q r.settings)
  unfolding under
  by-passed t refuse k =
      passed_as r (machine_of machine) (look Q.edition Q.store.slots) (machine_known machine) (section_check Q.section) begins.is t refuse
      (λ settings. k (with_settings Q settings))

  pub left_passed : r.passed ≡ true → (lent : List ℕ) (k : Restore → List ℕ) → left_by_edition Q machine lent k ≡ k (with_settings Q r.settings)
  unfolding under
  left_passed t lent k =
      left_by_as r (machine_of machine) (look Q.edition Q.store.slots) (machine_known machine) (section_check Q.section) begins.is t lent
      (λ settings. k (with_settings Q settings))

  pub machine-is : r.passed ≡ true → r.machine ≡ machine_of machine
  unfolding under
  machine-is t = machine_as r (machine_of machine) (look Q.edition Q.store.slots) (machine_known machine) (section_check Q.section) begins.is t
