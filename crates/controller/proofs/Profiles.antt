-- The stages of the profile's check, and what it tells of a section that keeps the profile.
use Prim.Native.Nat.{ℕ}
use mathlib.Core.Path.{◌≡◌, refl, ◌∙◌}
use mathlib.Core.Bool.{true, false, not}
use mathlib.Core.Option.{Option, none, some}
use mathlib.Core.List.{List}
use native.Mathlib.Omega.{arith}
use lib.ListN.{length}
use Rattle.stackmap.specs.Verdict.{Verdict}
use Rattle.stackmap.specs.Verdict.{Valid, Refused}
use Rattle.stackmap.specs.Verdict.{must, chain}
use Rattle.stackmap.specs.Section.{is_old, read_section, entries}
use Rattle.stackmap.specs.Check.{section_check, Accepted}
use Rattle.stackmap.proofs.Tests.{and_true, not-true}
use Rattle.stackmap.proofs.Verdicts.{must-held, must-rest, chain_first, chain-rest}
use Rattle.stackmap.proofs.Forth.{accepted-length}
use Rattle.questions.specs.declared.Found.{Found}
use Rattle.questions.specs.Kept.{searched, of_section}
use Rattle.questions.specs.Questions.{ask}
use Rattle.questions.proofs.Searched.{section-refused}
use Rattle.relocate.specs.declared.Machine.{Machine}
use Rattle.relocate.specs.declared.Machine.TheVariants.{Amd64, Aarch64}
use Rattle.relocate.specs.Restore.{same_machine}
use Rattle.controller.specs.Profile.{first_breach, at_breach, profile_check}

chain_asks : (v k : Verdict) → chain v k ≡ ask Refused k v
unfolding chain ask
chain_asks (Valid e) k = refl
chain_asks (Refused n p) k = refl

module _ (m : Machine) (s : List ℕ) where
  -- the section's own refusal, as a search for any address finds it
  pub profile_searched : (a : ℕ) (r : Found) → r ≡ searched s a → of_section r ≡ true → profile_check m s ≡ Refused r.number r.place
  unfolding profile_check
  profile_searched a r e h = chain_asks (section_check s) _ ∙ section-refused s a r e Refused _ h

  pub profile_section : {n p : ℕ} → section_check s ≡ Refused n p → Refused n p ≡ profile_check m s
  unfolding profile_check chain
  profile_section h = rw h

  module _ (k : Accepted s) where
    pub profile_old : is_old s ≡ true → Refused 50 0 ≡ profile_check m s
    unfolding profile_check chain must
    profile_old h = rw (k, h)

    module _ (new : is_old s ≡ false) where
      pub profile_machine : m ≡ Aarch64 → Refused 50 0 ≡ profile_check m s
      unfolding profile_check chain must same_machine
      profile_machine h = rw (k, new, h)

      pub profile_records : m ≡ Amd64 → at_breach (length s) (first_breach (read_section s).constants none (entries s)) ≡ profile_check m s
      unfolding profile_check chain must same_machine
      profile_records h = rw (k, new, h)

-- a section that keeps the profile, for frames of this machine
pub record Profiled (m : Machine) (s : List ℕ) : Type 0 where
  pub accepted : Accepted s
  pub new : is_old s ≡ false
  pub amd : m ≡ Amd64
  pub none-broken : first_breach (read_section s).constants none (entries s) ≡ none

no_breach : (end : ℕ) (o : Option ℕ) {e : ℕ} → at_breach end o ≡ Valid e → o ≡ none
no_breach end none h = refl
no_breach end (some k) h = absurd (let z : ◌≡◌ {A = ℕ} 0 1 = cc in omega arith)

is_amd : (m : Machine) → same_machine m Amd64 ≡ true → m ≡ Amd64
unfolding same_machine
is_amd Amd64 h = refl
is_amd Aarch64 h = absurd (let z : ◌≡◌ {A = ℕ} 0 1 = cc in omega arith)

pub profiled : (m : Machine) (s : List ℕ) {e : ℕ} → profile_check m s ≡ Valid e → Profiled m s
unfolding profile_check
profiled m s h =
    let c = chain_first _ _ _ h in
    let k = c.1 in
    let r = chain-rest _ _ _ h in
    let t = and_true (not (is_old s)) (same_machine m Amd64) (must-held _ 50 0 _ _ r) in
    record {
      accepted = rw (accepted-length s _ k).0 at k;
      new = not-true (is_old s) t.0;
      amd = is_amd m t.1;
      none-broken = no_breach (length s) _ (must-rest _ 50 0 _ _ r);
    }
