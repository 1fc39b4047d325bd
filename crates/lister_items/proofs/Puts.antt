-- Fields put one after the other into an output, and a loop that does so.
use Prim.Native.Nat.{ℕ, zero, suc, ◌+◌, ◌-◌, ◌<◌}
use mathlib.Core.Path.{◌≡◌, refl, sym, ◌∙◌, ap}
use mathlib.Core.Bool.{Bool}
use mathlib.Core.List.{List, [], ◌++◌}
use native.Mathlib.Omega.{arith}
use lib.ListN.{length, drop}
use lib.Seq.{sets, length-sets}
use Rattle.wire.proofs.Laws.{sets-append}
use Rattle.stackmap.specs.Fields.{Field, bytes_of, size, all, many}
use Rattle.stackmap.specs.Section.{Record, record_length, read_record, read_records}
use Rattle.stackmap.proofs.Fields.{length-bytes_of, size-append, bytes_of-append}
use Rattle.stackmap.proofs.Steps.{many_step}
use Rattle.lister_items.specs.Put.{Put, fields_of}

-- fields and then more fields
pub put_join : {o₁ o₂ o₃ : List ℕ} {a b c : ℕ} (fs gs : List Field) → Put o₁ o₂ a b fs → Put o₂ o₃ b c gs → Put o₁ o₃ a c (fs ++ gs)
put_join {o₁} {a = a} fs gs p q =
    record {
      ends = let x = p.ends in let y = q.ends in rw size-append (omega arith);
      output = q.output ∙ rw (p.output, p.ends, ← length-bytes_of fs, ← sets-append, ← bytes_of-append);
    }

-- the output keeps its length
pub put-long : {out out' : List ℕ} {to end : ℕ} {fs : List Field} → Put out out' to end fs → length out' ≡ length out
put-long {out} {to = to} {fs = fs} p = ap length p.output ∙ length-sets out to (bytes_of fs)

-- a loop has put some of the fields `whole`, and those that are left give what the whole gives
pub record Putting (out₀ : List ℕ) (to : ℕ) (whole : List Field) (out : List ℕ) (t : ℕ) (rest : List Field) : Type 0 where
  pub long : length out ≡ length out₀
  pub there : t + size rest ≡ to + size whole
  pub same : sets out₀ to (bytes_of whole) ≡ sets out t (bytes_of rest)

pub putting_start : (out : List ℕ) (to : ℕ) (whole : List Field) → Putting out to whole out to whole
putting_start out to whole = record { long = refl; there = refl; same = refl }

pub putting_on : {out₀ out out' : List ℕ} {to t t' : ℕ} {whole rest : List Field} (fs rest' : List Field)
    → Putting out₀ to whole out t rest → rest ≡ fs ++ rest' → Put out out' t t' fs → Putting out₀ to whole out' t' rest'
putting_on {out₀} {out} {out'} {to} {t} {t'} {whole} {rest} fs rest' w e p =
    let z : size rest ≡ size fs + size rest' = ap size e ∙ size-append fs rest' in
    record {
      long = put-long p ∙ w.long;
      there = let x = w.there in let y = p.ends in omega arith;
      same = w.same ∙ rw (e, bytes_of-append, sets-append, length-bytes_of, ← p.ends, ← p.output);
    }

pub putting_end : {out₀ out : List ℕ} {to t : ℕ} {whole rest : List Field} → Putting out₀ to whole out t rest → rest ≡ [] → Put out₀ out to t whole
putting_end {out₀} {out} {to} {t} {whole} {rest} w e =
    let z : size rest ≡ 0 = rw e (unfold size in refl) in
    record {
      ends = let x = w.there in omega arith;
      output = sym (w.same ∙ rw e (unfold bytes_of in refl));
    }

-- The first of n items, and the others.

-- items that are written by their fields
pub all_fields : {A : Type 0} (item : A → List Field) (read : List ℕ → ℕ → A) (step n : ℕ) (s : List ℕ) (at : ℕ)
    → fields_of (λ s at. item (read s at)) step n s at ≡ all item (many read step n s at)
unfolding all many
all_fields item read step zero s at = refl
all_fields item read step (suc n) s at = rw (all_fields item read step n s (at + step))

module _ {A : Type 0} (item : A → List Field) (read : List ℕ → ℕ → A) (step : ℕ) (s : List ℕ) where
  pub first_item : (n at : ℕ) → 0 < n → all item (many read step n s at) ≡ item (read s at) ++ all item (many read step (n - 1) s (at + step))
  first_item n at h = rw (many_step read step n s at h) (unfold all in refl)

  pub no_item : (n at : ℕ) → n ≡ 0 → all item (many read step n s at) ≡ []
  unfolding all many
  no_item n at h = rw h

module _ (old : Bool) (item : Record → List Field) (s : List ℕ) where
  pub first_record : (n at : ℕ) → 0 < n
      → all item (read_records old n s at) ≡ item (read_record old (drop at s)) ++ all item (read_records old (n - 1) s (at + record_length old (drop at s)))
  unfolding all read_records
  first_record zero at h = absurd (omega arith)
  first_record (suc n) at h = let b : suc n - 1 ≡ n = omega arith in rw b

  pub no_record : (n at : ℕ) → n ≡ 0 → all item (read_records old n s at) ≡ []
  unfolding all read_records
  no_record n at h = rw h
