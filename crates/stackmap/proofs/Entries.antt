-- The entries of a section, as a walk over its bytes finds them.
use Prim.Native.Nat.{ℕ, zero, suc, ◌+◌, ◌*◌, ◌-◌, ◌≤◌, ◌<◌}
use mathlib.Core.Path.{◌≡◌, refl, ◌∙◌, ap}
use mathlib.Core.Bool.{Bool, true, false}
use mathlib.Core.List.Memᴰ
use mathlib.Core.List.{List, [], ◌∷◌, Memᴰ}
use mathlib.Core.Logic.{⊎_elim}
use native.Mathlib.Omega.{arith}
use lib.ListN.{length, drop, replicate}
use Rattle.wire.specs.Word.{Bytes}
use Rattle.stackmap.specs.Verdict.{Valid}
use Rattle.stackmap.specs.Layout.{function_size}
use Rattle.stackmap.specs.Fields.{size, all, many}
use Rattle.stackmap.specs.Section.{Record, record_fields, section_fields, num_functions, num_records, records_at, read_function, read_constant, record_length, read_record, read_records, read_functions, is_old, read_section, Owner, nobody, owners, record_owners, Entry, entries_from, entries_of, entries}
use Rattle.stackmap.specs.Check.{section_check}
use Rattle.stackmap.proofs.Fields.{size-append, length-many}
use Rattle.stackmap.proofs.Back.{section-size}
use Rattle.stackmap.proofs.Forth.{read-size, length-records, section-long}

-- one step of the walk, by the bytes at `at`
pub entries_step : (old : Bool) (k at n : ℕ) (o : Owner) (os : List Owner) (s : List ℕ)
    → entries_from old k at (o ∷ os) (read_records old (suc n) s at)
    ≡ record { number = k; first = at; owner = o; body = read_record old (drop at s) }
    ∷ entries_from old (suc k) (at + record_length old (drop at s)) os (read_records old n s (at + record_length old (drop at s)))
unfolding entries_from read_records
entries_step old k at n o os s = rw (read-size old (drop at s))

-- an entry's content is what is read from its own stretch
from_stretch : (old : Bool) (n k at : ℕ) (os : List Owner) (s : List ℕ) (e : Entry) → Memᴰ e (entries_from old k at os (read_records old n s at)) → e.body ≡ read_record old (drop e.first s)
unfolding entries_from read_records
from_stretch old zero k at [] s e m = absurd (Memᴰ.not-nil m)
from_stretch old zero k at (o ∷ os) s e m = absurd (Memᴰ.not-nil m)
from_stretch old (suc n) k at [] s e m = absurd (Memᴰ.not-nil m)
from_stretch old (suc n) k at (o ∷ os) s e m =
    ⊎_elim (λ q. rw q) (λ h. from_stretch old n (suc k) (at + record_length old (drop at s)) os s e (rw (read-size old (drop at s)) at h)) (Memᴰ.cases_cons m)

-- and its stretch is inside
stretch_inside : (old : Bool) (rs : List Record) (k at : ℕ) (os : List Owner) (e : Entry) → Memᴰ e (entries_from old k at os rs)
    → (at ≤ e.first) × (e.first + size (record_fields old e.body) ≤ at + size (all (record_fields old) rs))
unfolding entries_from all size
stretch_inside old [] k at [] e m = absurd (Memᴰ.not-nil m)
stretch_inside old [] k at (o ∷ os) e m = absurd (Memᴰ.not-nil m)
stretch_inside old (r ∷ rs) k at [] e m = absurd (Memᴰ.not-nil m)
stretch_inside old (r ∷ rs) k at (o ∷ os) e m =
    let z = size-append (record_fields old r) (all (record_fields old) rs) in
    ⊎_elim (λ q. rw q (omega arith, omega arith))
    (λ h. let i = stretch_inside old rs (suc k) (at + size (record_fields old r)) os e h in (omega arith, omega arith))
    (Memᴰ.cases_cons m)

-- The function that a record belongs to, by its number.

all_same : {A : Type 0} (n : ℕ) (x y : A) → Memᴰ y (replicate n x) → y ≡ x
all_same zero x y m = absurd (Memᴰ.not-nil m)
all_same (suc n) x y m = ⊎_elim (λ e. e) (λ h. all_same n x y h) (Memᴰ.cases_cons m)

owner_in : (old : Bool) (rs : List Record) (k at : ℕ) (os : List Owner) (e : Entry) → Memᴰ e (entries_from old k at os rs) → Memᴰ e.owner os
unfolding entries_from
owner_in old rs k at [] e m = absurd (Memᴰ.not-nil m)
owner_in old [] k at (o ∷ os) e m = absurd (Memᴰ.not-nil m)
owner_in old (r ∷ rs) k at (o ∷ os) e m =
    ⊎_elim (λ q. Memᴰ.head (ap (λ (x : Entry). x.owner) q))
    (λ h. Memᴰ.tail (owner_in old rs (suc k) (at + size (record_fields old r)) os e h))
    (Memᴰ.cases_cons m)

-- o is one of the n functions from `at`, of which the first has the number i
record Among (s : List ℕ) (i n at : ℕ) (o : Owner) : Type 0 where
  low : i ≤ o.number
  high : o.number < i + n
  is : o.function ≡ read_function false s (at + 24 * (o.number - i))

owner_at : (n i at : ℕ) (s : List ℕ) (o : Owner) → Memᴰ o (owners i (many (read_function false) 24 n s at)) → Among s i n at o
unfolding owners many
owner_at zero i at s o m = absurd (Memᴰ.not-nil m)
owner_at (suc n) i at s o m =
    let f = read_function false s at in
    ⊎_elim
    (λ h.
    let q = all_same f.count (record { number = i; function = f }) o h in
    let d : o.number ≡ i = ap (λ (x : Owner). x.number) q in
    let z : at + 24 * (o.number - i) ≡ at = omega arith in
    record { low = omega arith; high = omega arith; is = rw z (ap (λ (x : Owner). x.function) q) })
    (λ h.
    let r = owner_at n (suc i) (at + 24) s o h in
    let l = r.low in
    let u = r.high in
    let z : at + 24 + 24 * (o.number - suc i) ≡ at + 24 * (o.number - i) = omega arith in
    record { low = omega arith; high = omega arith; is = rw z at r.is })
    (Memᴰ.append_cases (replicate f.count (record { number = i; function = f })) m)

pub old_of : (s : List ℕ) → (read_section s).old ≡ is_old s
unfolding read_section
old_of s = refl

module _ (s : List ℕ) where
  pub begins : 16 + function_size (is_old s) * length (read_section s).functions + 8 * length (read_section s).constants ≡ records_at s
  unfolding read_section read_functions
  begins = rw (length-many (read_function (is_old s)), length-many read_constant)

  -- the entries, by the places and counts that the section's bytes give
  pub entries-are : entries s
      ≡ entries_from (is_old s) 0 (records_at s) (record_owners (is_old s) (num_records s) (read_functions s)) (read_records (is_old s) (num_records s) s (records_at s))
  unfolding entries entries_of read_section read_functions
  entries-are = rw (length-many (read_function (is_old s)), length-many read_constant, length-records)

  read_section-size : size (section_fields (read_section s))
      ≡ 16 + function_size (is_old s) * length (read_section s).functions + 8 * length (read_section s).constants
      + size (all (record_fields (is_old s)) (read_section s).records)
  unfolding read_section
  read_section-size = section-size (read_section s)

  pub entry-body : (e : Entry) → Memᴰ e (entries s) → e.body ≡ read_record (is_old s) (drop e.first s)
  unfolding entries entries_of read_section
  entry-body e m = from_stretch (is_old s) (num_records s) 0 (records_at s) _ s e (rw begins at m)

  -- an entry's owner is one of the section's
  entry-among : (e : Entry) → Memᴰ e (entries s)
      → Memᴰ e.owner (record_owners (is_old s) (length (read_section s).records) (read_section s).functions)
  unfolding entries entries_of read_section
  entry-among e m = owner_in (is_old s) _ 0 _ _ e m

  -- in version 3 it is a function, at its number
  pub entry-owner : is_old s ≡ false → (e : Entry) → Memᴰ e (entries s)
      → (e.owner.number < num_functions s) × (e.owner.function ≡ read_function false s (16 + 24 * e.owner.number))
  unfolding record_owners read_section read_functions
  entry-owner new e m =
      let a = owner_at (num_functions s) 0 16 s e.owner (rw new at (entry-among e m)) in
      let u = a.high in
      let z : e.owner.number - 0 ≡ e.owner.number = omega arith in
      (omega arith, rw z at a.is)

  -- and in version 1 nobody
  pub entry-nobody : is_old s ≡ true → (e : Entry) → Memᴰ e (entries s) → e.owner ≡ nobody
  unfolding record_owners
  entry-nobody old e m = all_same (length (read_section s).records) nobody e.owner (rw old at (entry-among e m))

  module _ (n : ℕ) (k : section_check s ≡ Valid n) (w : Bytes s) where
    pub entry-inside : (e : Entry) → Memᴰ e (entries s) → (16 ≤ e.first) × (e.first + record_length (is_old s) (drop e.first s) ≤ length s)
    unfolding entries entries_of
    entry-inside e m =
        let i = stretch_inside (is_old s) _ 0 _ _ e (rw (old_of s) at m) in
        let z = read_section-size in
        let l = section-long s n k in
        let b : size (record_fields (is_old s) e.body) ≡ record_length (is_old s) (drop e.first s) =
        ap (λ (r : Record). size (record_fields (is_old s) r)) (entry-body e m) ∙ read-size (is_old s) (drop e.first s) in
        (omega arith, omega arith)
