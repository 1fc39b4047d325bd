-- What a caller of `named` knows, for whatever it gives under the edition.
use Prim.Native.Nat.{ℕ, ◌<◌}
use mathlib.Core.Path.{◌≡◌, refl, sym, ap}
use mathlib.Core.Option.{Option, none, some}
use native.Mathlib.Omega.{arith}
use Rattle.editions.specs.declared.Settings as kept
use Rattle.editions.specs.declared.Store.{Store}
use Rattle.editions.specs.Store.{look}
use Rattle.relocate.specs.declared.Settings.{Settings}
use Rattle.editions_settings.specs.declared.NamedSettings.{NamedSettings}
use Rattle.editions_settings.specs.Under.{by_found, under}
use Rattle.editions_settings.specs.Code.{unnamed, found_settings, Names}

module _ (r : NamedSettings) where
  refused_as : {A : Type 0} (o : Option kept.Settings) → r ≡ by_found o unnamed found_settings → 0 < r.number → (a : A) (k : Settings → A) → by_found o a k ≡ a
  refused_as none e n a k = refl
  refused_as (some s) e n a k = let z : r.number ≡ 0 = ap (λ (x : NamedSettings). x.number) e in absurd (omega arith)

  number_as : (o : Option kept.Settings) → r ≡ by_found o unnamed found_settings → 0 < r.number → r.number ≡ 31
  number_as none e n = ap (λ (x : NamedSettings). x.number) e
  number_as (some s) e n = let z : r.number ≡ 0 = ap (λ (x : NamedSettings). x.number) e in absurd (omega arith)

  found_as : {A : Type 0} (o : Option kept.Settings) → r ≡ by_found o unnamed found_settings → r.number ≡ 0 → (a : A) (k : Settings → A)
      → by_found o a k ≡ k r.settings
  found_as none e n a k = let z : r.number ≡ 31 = ap (λ (x : NamedSettings). x.number) e in absurd (omega arith)
  found_as (some s) e n a k = ap (λ (x : NamedSettings). k x.settings) (sym e)

module _ {st : Store} {e : ℕ} {r : NamedSettings} (names : Names st e r) where
  -- 31: what is given under the edition is what is there without one
  pub under-refused : {A : Type 0} → 0 < r.number → (a : A) (k : Settings → A) → under st e a k ≡ a
  unfolding under
  under-refused n a k = refused_as r (look e st.slots) names.is n a k

  pub refused_31 : 0 < r.number → r.number ≡ 31
  unfolding under
  refused_31 n = number_as r (look e st.slots) names.is n

  -- no refusal: it is what the settings give
  pub under-found : {A : Type 0} → r.number ≡ 0 → (a : A) (k : Settings → A) → under st e a k ≡ k r.settings
  unfolding under
  under-found n a k = found_as r (look e st.slots) names.is n a k
