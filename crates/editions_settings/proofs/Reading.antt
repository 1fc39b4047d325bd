-- What the store tells of an edition, as the settings of a restore.
use Prim.Native.Nat.{ℕ, ◌+◌, ◌≤◌, ◌<◌}
use mathlib.Core.Path.{◌≡◌, refl, ap}
use mathlib.Core.Bool.{Bool, true, false, cond, ◌&&◌}
use mathlib.Core.Option.{Option, none, some}
use mathlib.Core.List.{List, [], ◌∷◌}
use native.Mathlib.Omega.{arith}
use borrow.Author.Tests.{leb-true}
use lib.Dec.{eqb, leb}
use Rattle.stackmap.proofs.Tests.{and_true}
use Rattle.moves.specs.Limits.{pairs_most}
use Rattle.editions.specs.declared.Settings as kept
use Rattle.editions.specs.declared.Edition.{Edition}
use Rattle.editions.specs.declared.Store.{Store}
use Rattle.editions.specs.declared.Read.{Read}
use Rattle.editions.specs.Calls.{number_most, settings_right, found, has}
use Rattle.editions.specs.Store.{holds, look, read_in, read_answer}
use Rattle.relocate.specs.declared.Settings.{Settings}
use Rattle.editions_settings.specs.declared.NamedSettings.{NamedSettings}
use Rattle.editions_settings.specs.Under.{settings_of, by_found, under}
use Rattle.editions_settings.specs.Code.{unnamed, found_settings, Names}

-- an edition that is found has a count that no move's arrays are too short for

second : (a b c d e f : Bool) → (a && b && c && d && e && f) ≡ true → b ≡ true
second true true c d e f h = refl
second true false c d e f h = h
second false true c d e f h = refl
second false false c d e f h = h

few : (k : kept.Settings) → settings_right k ≡ true → k.most ≤ pairs_most
unfolding settings_right
few k h = leb-true _ _ (second (leb 1 k.most) (leb k.most 256) (leb k.machine 1) (leb k.version1 1) (leb k.version3 1) (leb 1 (k.version1 + k.version3)) h)

held : (e : ℕ) (x : Edition) → holds e x ≡ true → settings_right x.settings ≡ true
unfolding holds
held e x h = (and_true (eqb x.number e && leb 1 x.number && leb x.number number_most) (settings_right x.settings) h).1

abbrev Few : Option kept.Settings → Type 0
Few none = Unit {0}
Few (some k) = k.most ≤ pairs_most

look-few : (e : ℕ) (xs : List Edition) → Few (look e xs)
unfolding look
look-few e [] = tt
look-few e (x ∷ xs) = go (look-few e xs) (holds e x) refl
  where
    go : Few (look e xs) → (t : Bool) → holds e x ≡ t → Few (cond t (some x.settings) (look e xs))
    go rest true h = few x.settings (held e x h)
    go rest false h = rest

-- By what `read` answers.

module _ (st : Store) (r : Read) where
  refused-by : (o : Option kept.Settings) → r ≡ read_answer (found o st (λ s. record { reply = has s; left = st })) → 0 < r.number
      → unnamed ≡ by_found o unnamed found_settings
  refused-by none e n = refl
  refused-by (some s) e n = let z : r.number ≡ 0 = ap (λ (x : Read). x.number) e in absurd (omega arith)

  found-by : (o : Option kept.Settings) → r ≡ read_answer (found o st (λ s. record { reply = has s; left = st })) → r.number ≡ 0
      → found_settings (settings_of r.settings) ≡ by_found o unnamed found_settings
  found-by none e n = let z : r.number ≡ 31 = ap (λ (x : Read). x.number) e in absurd (omega arith)
  found-by (some s) e n = ap (λ (x : Read). found_settings (settings_of x.settings)) e

  most-by : (o : Option kept.Settings) → Few o → r ≡ read_answer (found o st (λ s. record { reply = has s; left = st })) → r.settings.most ≤ pairs_most
  most-by none f e = let z : r.settings.most ≡ 0 = ap (λ (x : Read). x.settings.most) e in omega arith
  most-by (some s) f e = let z : r.settings.most ≡ s.most = ap (λ (x : Read). x.settings.most) e in omega arith

module _ (st : Store) (e : ℕ) (r : Read) (told : r ≡ read_answer (read_in st e)) where
  pub names_none : (x : NamedSettings) → x ≡ unnamed → 0 < r.number → Names st e x
  unfolding read_in under
  names_none x is n = rw is (record { is = refused-by st r (look e st.slots) told n; most_right = omega arith })

  pub names_found : (x : Settings) → x ≡ settings_of r.settings → r.number ≡ 0 → Names st e (found_settings x)
  unfolding read_in under settings_of
  names_found x is n = rw is (record {
    is = found-by st r (look e st.slots) told n;
    most_right = most-by st r (look e st.slots) (look-few e st.slots) told;
  })
