-- The bytes of an accepted section are those of the section that is read from them.
use Prim.Native.Nat.{ℕ, zero, suc, ◌+◌, ◌*◌, ◌%◌, ◌≤◌}
use mathlib.Core.Path.{◌≡◌, refl, sym, ◌∙◌, ap}
use mathlib.Core.Bool.{Bool, true, false}
use mathlib.Core.Logic.{⊎_elim}
use mathlib.Core.List.{List, [], ◌∷◌, ◌++◌, append-nil}
use native.Mathlib.Omega.{arith}
use native.Mathlib.Nat.{add-zero, zero-add, add_assoc}
use borrow.Author.Tests.{leb-true, eqb-true}
use lib.ListN.{length, get_or, drop}
use lib.Seq.{drop-length}
use Rattle.wire.specs.Word.{Bytes, word}
use Rattle.wire.proofs.Laws.{word-drop}
use Rattle.stackmap.specs.Verdict.{Valid}
use Rattle.stackmap.specs.Layout.{version_number, function_size, location_size, locations_padding}
use Rattle.stackmap.specs.Fields.{Field, ◌of◌, size, all, many}
use Rattle.stackmap.specs.Section.{function_fields, constant_fields, location_fields, live_out_fields, record_fields, section_fields, encode_section, Encodable, num_functions, num_constants, num_records, constants_at, records_at, read_function, read_constant, read_location, read_live_out, num_locations, locations_end, num_live_outs, record_length, read_record, read_records, read_functions, is_old, read_section, Owner, record_owners}
use Rattle.stackmap.specs.Record.{zeros, location_zeros, location_check, locations, live_outs, record_bytes, record_check}
use Rattle.stackmap.specs.Check.{version_right, header_check, tables_check, records_check, walk_check, section_check}
use Rattle.stackmap.specs.Fault.{section_fault}
use Rattle.stackmap.proofs.Tests.{or_true}
use Rattle.stackmap.proofs.Verdicts.{must-held, must-rest, chain_first, chain-rest, bind-first, shift-valid}
use Rattle.stackmap.proofs.Fields.{Has, HasFrom, join, many-has, length-many, has-bytes, has_fit, size-append, size-many}
use Rattle.stackmap.proofs.Items.{byte_word, function-size, constant-size, location_size_lem, live_out_size_lem}
use Rattle.stackmap.proofs.Back.{check-back, owners_enough}

zeros-word : (n : ℕ) (s : List ℕ) (a e : ℕ) → zeros n s a ≡ Valid e → word n s a ≡ 0
unfolding zeros word
zeros-word zero s a e h = refl
zeros-word (suc n) s a e h =
    let z : get_or s a 0 ≡ 0 = eqb-true _ _ (must-held _ _ _ _ _ h) in
    let r : word n s (a + 1) ≡ 0 = zeros-word n s (a + 1) e (must-rest _ _ _ _ _ h) in
    omega arith

zero_word : (s : List ℕ) (a : ℕ) → get_or s a 0 ≡ 0 → word 1 s a ≡ 0
unfolding word
zero_word s a h = omega arith

zero_words : (s : List ℕ) (a b : ℕ) → b ≡ a + 1 → get_or s a 0 ≡ 0 → get_or s b 0 ≡ 0 → word 2 s a ≡ 0
unfolding word
zero_words s a b e h k = let z : get_or s (a + 1) 0 ≡ 0 = rw (← e) k in omega arith

-- the version, as the header states it
version : (s : List ℕ) → version_right (get_or s 0 0) ≡ true → word 1 s 0 ≡ version_number (is_old s)
version s h =
    byte_word s 0
    ∙ ⊎_elim (λ n. let e : get_or s 0 0 ≡ 3 = eqb-true _ _ n in rw e) (λ o. let e : get_or s 0 0 ≡ 1 = eqb-true _ _ o in rw e) (or_true _ _ h)

-- Items.

function-has : (old : Bool) (s : List ℕ) (a : ℕ) → Has s a (function_fields old (read_function old s a))
unfolding function_fields read_function
function-has true s a = (rw add-zero, (refl, tt))
function-has false s a = (rw add-zero, (refl, (refl, tt)))

constant-has : (s : List ℕ) (a : ℕ) → Has s a (constant_fields (read_constant s a))
unfolding constant_fields read_constant
constant-has s a = (rw add-zero, tt)

location_has : (old : Bool) (s : List ℕ) (c a e : ℕ) → location_check old s c a ≡ Valid e → Has s a (location_fields old (read_location old s a))
unfolding location_check location_zeros location_fields read_location
location_has true s c a e k = (rw add-zero, (refl, (refl, (refl, tt))))
location_has false s c a e k =
    let k₂ = must-rest _ _ _ _ _ (must-rest _ _ _ _ _ k) in
    let k₃ = must-rest _ _ _ _ _ k₂ in
    let k₄ = must-rest _ _ _ _ _ k₃ in
    let z₁ : get_or s (a + 1) 0 ≡ 0 = eqb-true _ _ (must-held _ _ _ _ _ k₂) in
    let z₆ : get_or s (a + 6) 0 ≡ 0 = eqb-true _ _ (must-held _ _ _ _ _ k₃) in
    let z₇ : get_or s (a + 7) 0 ≡ 0 = eqb-true _ _ (must-held _ _ _ _ _ k₄) in
    (rw add-zero, (zero_word s (a + 1) z₁, (refl, (refl, (zero_words s (a + 6) (a + 7) (omega arith) z₆ z₇, (refl, tt))))))

locations-has : (old : Bool) (n : ℕ) (s : List ℕ) (c a e : ℕ) → locations old n s c a ≡ Valid e → Has s a (all (location_fields old) (many (read_location old) (location_size old) n s a))
unfolding locations many all
locations-has old zero s c a e h = tt
locations-has old (suc n) s c a e h =
    join s a (a + location_size old) (location_fields old (read_location old s a)) (all (location_fields old) (many (read_location old) (location_size old) n s (a + location_size old))) (rw location_size_lem)
    (location_has old s c a _ (chain_first _ _ _ h).1) (locations-has old n s c (a + location_size old) e (chain-rest _ _ _ h))

live_outs-has : (n : ℕ) (s : List ℕ) (a e : ℕ) → live_outs n s a ≡ Valid e → Has s a (all live_out_fields (many read_live_out 4 n s a))
unfolding live_outs many all
live_outs-has zero s a e h = tt
live_outs-has (suc n) s a e h =
    join s a (a + 4) (live_out_fields (read_live_out s a)) (all live_out_fields (many read_live_out 4 n s (a + 4))) (rw live_out_size_lem)
    (unfold live_out_fields read_live_out in (rw add-zero, (zero_word s (a + 2) (eqb-true _ _ (must-held _ _ _ _ _ h)), (refl, tt))))
    (live_outs-has n s (a + 4) e (must-rest _ _ _ _ _ h))

-- A record.

module _ (old : Bool) (s : List ℕ) where
  abbrev n : ℕ
  n = num_locations s

  abbrev m : ℕ
  m = num_live_outs old s

  abbrev A : List Field
  A = (8 of word 8 s 0) ∷ (4 of word 4 s 8) ∷ (2 of 0) ∷ (2 of n) ∷ []

  abbrev B : List Field
  B = all (location_fields old) (many (read_location old) (location_size old) n s 16)

  abbrev C : List Field
  C = ((locations_padding old n + 2) of 0) ∷ (2 of m) ∷ []

  abbrev D : List Field
  D = all live_out_fields (many read_live_out 4 m s (locations_end old s + 4))

  abbrev E : List Field
  E = (((m + 1) % 2 * 4) of 0) ∷ []

  fields_read : record_fields old (read_record old s) ≡ A ++ B ++ C ++ D ++ E
  unfolding record_fields read_record
  fields_read = rw (length-many (read_location old), length-many read_live_out)

  sizes : (size B ≡ location_size old * n) × (size D ≡ 4 * m)
  sizes = (size-many (location_fields old) (read_location old) (location_size old) (location_size old) (location_size_lem old) n s 16, size-many live_out_fields read_live_out 4 4 live_out_size_lem m s (locations_end old s + 4))

  pub read-size : size (record_fields old (read_record old s)) ≡ record_length old s
  unfolding record_length size
  read-size = rw fields_read (simp size-append (omega (arith, sizes)))

  record_has : (c a e : ℕ) → record_check old s c a ≡ Valid e → Has s 0 (record_fields old (read_record old s))
  unfolding record_check record_bytes size
  record_has c a e k =
      let k₁ = must-rest _ _ _ _ _ (chain-rest _ _ _ k) in
      let k₂ = chain-rest _ _ _ k₁ in
      let k₃ = chain-rest _ _ _ k₂ in
      let k₄ = chain-rest _ _ _ k₃ in
      let k₅ = chain-rest _ _ _ k₄ in
      let a₁ : Has s 0 A = (refl, (refl, (zeros-word _ _ _ _ (chain_first _ _ _ k₁).1, (refl, tt)))) in
      let p : 16 + location_size old * n + (0 + (locations_padding old n + 2)) ≡ locations_end old s + 2 = omega arith in
      let c₁ : Has s (16 + location_size old * n) C = (rw add-zero (zeros-word _ _ _ _ (chain_first _ _ _ k₃).1), (rw p, tt)) in
      let e₁ : Has s (locations_end old s + 4 + 4 * m) E = (rw add-zero (zeros-word _ _ _ _ (chain_first _ _ _ k₅).1), tt) in
      rw fields_read
      (join s 0 (locations_end old s + 4 + 4 * m) (A ++ B ++ C ++ D) E (simp size-append (omega (arith, sizes)))
      (join s 0 (locations_end old s + 4) (A ++ B ++ C) D (simp size-append (omega (arith, sizes)))
      (join s 0 (16 + location_size old * n) (A ++ B) C (simp size-append (omega (arith, sizes)))
      (join s 0 16 A B refl a₁ (locations-has old n s c 16 _ (chain_first _ _ _ k₂).1))
      c₁)
      (live_outs-has m s (locations_end old s + 4) _ (chain_first _ _ _ k₄).1))
      e₁)

  pub ends : (c a e : ℕ) → record_check old s c a ≡ Valid e → e ≡ record_length old s
  unfolding record_check record_bytes
  ends c a e h =
      let h₁ = must-rest _ _ _ _ _ (chain-rest _ _ _ h) in
      let h₂ = chain-rest _ _ _ (chain-rest _ _ _ (chain-rest _ _ _ (chain-rest _ _ _ (chain-rest _ _ _ h₁)))) in
      cc

has-whole : (s : List ℕ) (p a o : ℕ) (fs : List Field) → HasFrom (drop p s) a o fs → HasFrom s (p + a) o fs
has-whole s p a o [] h = tt
has-whole s p a o (f ∷ fs) h = (rw (add_assoc p a o, ← word-drop) h.0, has-whole s p a (o + f.width) fs h.1)

-- The walk.

module _ (old : Bool) (s : List ℕ) (c stop : ℕ) where
  -- n records stand at `at`, and end at the end of the walk
  record Stand (n at : ℕ) : Type 0 where
    stand : Has s at (all (record_fields old) (read_records old n s at))
    end : at + size (all (record_fields old) (read_records old n s at)) ≡ stop

  one_more : (n at a : ℕ) (e : ℕ) → record_check old (drop at s) c a ≡ Valid e → Stand n (at + record_length old (drop at s)) → Stand (suc n) at
  unfolding read_records all
  one_more n at a e h k =
      let z = size-append (record_fields old (read_record old (drop at s))) (all (record_fields old) (read_records old n s (at + record_length old (drop at s)))) in
      let l = read-size old (drop at s) in
      let j : Has s at (record_fields old (read_record old (drop at s))) = rw add-zero at (has-whole s at 0 0 (record_fields old (read_record old (drop at s))) (record_has old (drop at s) c a e h)) in
      record { stand = join s at (at + record_length old (drop at s)) (record_fields old (read_record old (drop at s))) (all (record_fields old) (read_records old n s (at + record_length old (drop at s)))) (rw l) j k.stand; end = rw (z, l) (rw add_assoc at k.end) }

  -- a valid walk over n owners passes n records
  records_stand : (os : List Owner) (at : ℕ) → records_check old os s c at ≡ Valid stop → Stand (length os) at
  unfolding records_check read_records all size
  records_stand [] at h = record { stand = tt; end = let e : at ≡ stop = cc in omega arith }
  records_stand (o ∷ os) at h =
      let b = bind-first _ _ _ h in
      let f = shift-valid _ _ _ b.1 in
      let d : b.0 ≡ at + record_length old (drop at s) = f.2 ∙ ap (λ (x : ℕ). at + x) (ends old (drop at s) c o.function.address _ f.1) in
      one_more (length os) at o.function.address _ f.1 (records_stand os (at + record_length old (drop at s)) (rw d at b.2))

pub length-records : (old : Bool) (s : List ℕ) (n at : ℕ) → length (read_records old n s at) ≡ n
unfolding read_records
length-records old s zero at = refl
length-records old s (suc n) at = ap suc (length-records old s n _)

module _ (s : List ℕ) (e : ℕ) (k : section_check s ≡ Valid e) where
  abbrev nf : ℕ
  nf = num_functions s

  abbrev nc : ℕ
  nc = num_constants s

  abbrev F : List Field
  F = all (function_fields (is_old s)) (many (read_function (is_old s)) (function_size (is_old s)) nf s 16)

  abbrev K : List Field
  K = all constant_fields (many read_constant 8 nc s (constants_at s))

  abbrev R : List Field
  R = all (record_fields (is_old s)) (read_records (is_old s) (num_records s) s (records_at s))

  abbrev H : List Field
  H = (1 of version_number (is_old s)) ∷ (3 of 0) ∷ (4 of nf) ∷ (4 of nc) ∷ (4 of num_records s) ∷ []

  section_fields_lem : section_fields (read_section s) ≡ H ++ F ++ K ++ R
  unfolding section_fields read_section read_functions
  section_fields_lem = rw (length-many (read_function (is_old s)), length-many read_constant, length-records)

  tables : (size F ≡ function_size (is_old s) * nf) × (size K ≡ 8 * nc)
  tables = (size-many (function_fields (is_old s)) (read_function (is_old s)) (function_size (is_old s)) (function_size (is_old s)) (function-size (is_old s)) nf s 16, size-many constant_fields read_constant 8 8 constant-size nc s (constants_at s))

  -- what the check tells
  record Held : Type 0 where
    version-is : word 1 s 0 ≡ version_number (is_old s)
    reserved : word 3 s 1 ≡ 0
    walked : Stand (is_old s) s nc (length s) (num_records s) (records_at s)
    length_is : e ≡ length s
    small : length s ≤ 16777216

  held : Held
  unfolding section_check header_check tables_check walk_check
  held =
      let h₁ = (chain_first _ _ _ k).1 in
      let h₀ = must-rest _ _ _ _ _ h₁ in
      let h₂ = must-rest _ _ _ _ _ h₀ in
      let k₁ = chain-rest _ _ _ k in
      let t₂ = must-rest _ _ _ _ _ (must-rest _ _ _ _ _ (chain_first _ _ _ k₁).1) in
      let b = bind-first _ _ _ (chain-rest _ _ _ k₁) in
      let f : b.0 ≡ length s = eqb-true _ _ (must-held _ _ _ _ _ b.2) in
      let g = must-rest _ _ _ _ _ b.2 in
      let c : length (record_owners (is_old s) (num_records s) (read_functions s)) ≡ num_records s = owners_enough (is_old s) (num_records s) (read_functions s) (must-held _ _ _ _ _ t₂) in
      record {
        version-is = version s (must-held _ _ _ _ _ h₂);
        reserved = zeros-word _ _ _ _ (must-rest _ _ _ _ _ h₂);
        walked = rw c at (records_stand (is_old s) s nc (length s) (record_owners (is_old s) (num_records s) (read_functions s)) (records_at s) (rw f at b.1));
        length_is = cc;
        small = leb-true _ _ (must-held _ _ _ _ _ h₀);
      }

  section-has : Has s 0 (section_fields (read_section s))
  unfolding size
  section-has =
      let h = held in
      let a : Has s 0 H = (h.version-is, (h.reserved, (refl, (refl, (refl, tt))))) in
      rw section_fields_lem
      (join s 0 (records_at s) (H ++ F ++ K) R (simp size-append (omega (arith, tables)))
      (join s 0 (constants_at s) (H ++ F) K (simp size-append (omega (arith, tables)))
      (join s 0 16 H F refl a (many-has (function_fields (is_old s)) (read_function (is_old s)) (function_size (is_old s)) (function-size (is_old s)) s (function-has (is_old s) s) nf 16))
      (many-has constant_fields read_constant 8 constant-size s (constant-has s) nc (constants_at s)))
      h.walked.stand)

  pub section-long : size (section_fields (read_section s)) ≡ length s
  unfolding size
  section-long = rw section_fields_lem (simp size-append (omega (arith, tables, held.walked.end)))

  pub accepted-length : (e ≡ length s) × (length s ≤ 16777216)
  accepted-length = (held.length_is, held.small)

  module _ (w : Bytes s) where
    -- an accepted section's numbers fit
    pub accepted_encodable : Encodable (read_section s)
    accepted_encodable = has_fit s 0 0 (section_fields (read_section s)) w section-has

    -- its bytes are those of what is read from it
    pub accepted-bytes : encode_section (read_section s) ≡ s
    unfolding encode_section
    accepted-bytes =
        let b = has-bytes s 0 0 (section_fields (read_section s)) w section-has (omega (arith, section-long)) in
        rw (section-long, zero-add, drop-length, append-nil) at b

    -- and what is read from it has no fault
    pub accepted-fault : section_fault (read_section s) ≡ Valid e
    accepted-fault = sym (check-back (read_section s) accepted_encodable) ∙ ap section_check accepted-bytes ∙ k
