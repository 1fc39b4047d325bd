-- The whole section, put part by part.
use Prim.Native.Nat.{ℕ, ◌+◌, ◌*◌}
use mathlib.Core.Path.{◌≡◌, refl}
use mathlib.Core.List.{List, [], ◌∷◌, ◌++◌}
use mathlib.Core.Bool.{Bool, true, false}
use native.Mathlib.Omega.{arith}
use lib.ListN.{length}
use lib.Seq.{sets}
use Rattle.wire.specs.Word.{bytes}
use Rattle.stackmap.specs.Layout.{version_number, function_size}
use Rattle.stackmap.specs.Fields.{Field, ◌of◌, bytes_of, size, all, many}
use Rattle.stackmap.specs.Section.{function_fields, constant_fields, record_fields, section_fields, encode_section}
use Rattle.stackmap.proofs.Fields.{size-append, length-many, size-many}
use Rattle.stackmap.proofs.Items.{function-size, constant-size}
use Rattle.listing.specs.Listing.{listed_function, listed_constant, read_items}
use Rattle.parser_items.specs.Count.{TablesCounted}
use Rattle.parser_items.specs.Survey.{records_from, records_after, functions_of}
use Rattle.builder.specs.Put.{header_fields}
use Rattle.builder_items.proofs.Puts.{then_put, puts-all}
use Rattle.parser_items.proofs.Tables.{reads}

-- The header: the version and three zero bytes are one number.

abbrev header_words : Bool → ℕ → ℕ → ℕ → List Field
header_words old f c n = (4 of version_number old) ∷ (4 of f) ∷ (4 of c) ∷ (4 of n) ∷ []

header_words_lem : (old : Bool) (f c n : ℕ) → bytes_of (header_words old f c n) ≡ bytes_of (header_fields old f c n)
unfolding bytes_of bytes
header_words_lem true f c n = refl
header_words_lem false f c n = refl

pub header_put : (old : Bool) (f c n : ℕ) (out : List ℕ)
    → sets (sets (sets (sets out 0 (bytes 4 (version_number old))) 4 (bytes 4 f)) 8 (bytes 4 c)) 12 (bytes 4 n)
    ≡ sets out 0 (bytes_of (header_fields old f c n))
header_put old f c n out = rw (← header_words_lem old f c n) (puts-all (header_words old f c n) out 0)

-- The section.

module _ (old : Bool) {l : List ℕ} {f c n : ℕ} (t : TablesCounted l f c) (counted : length (records_from l (records_after l f c)) ≡ n) where
  abbrev H : List Field
  H = header_fields old f c n

  abbrev F : List Field
  F = all (function_fields old) (functions_of l f)

  abbrev K : List Field
  K = all constant_fields (many listed_constant 9 c l (25 * f))

  abbrev R : List Field
  R = all (record_fields old) (records_from l (records_after l f c))

  fields_are : section_fields (read_items l old) ≡ H ++ F ++ K ++ R
  unfolding section_fields
  fields_are = rw (reads t old, counted) (simp length-many)

  sizes : (size F ≡ function_size old * f) × (size K ≡ 8 * c)
  sizes = (size-many (function_fields old) listed_function 25 (function_size old) (function-size old) f l 0, size-many constant_fields listed_constant 9 8 constant-size c l (25 * f))

  pub section-put : (out : List ℕ)
      → sets (sets (sets (sets out 0 (bytes_of H)) 16 (bytes_of F)) (16 + function_size old * f) (bytes_of K)) (16 + function_size old * f + 8 * c) (bytes_of R)
      ≡ sets out 0 (encode_section (read_items l old))
  unfolding encode_section
  section-put out =
      let s₁ : size H ≡ 16 = unfold size in refl in
      let s₂ : size (H ++ F) ≡ 16 + function_size old * f = rw (size-append H F, s₁, sizes.0) in
      let s₃ : size (H ++ F ++ K) ≡ 16 + function_size old * f + 8 * c = rw (size-append (H ++ F) K, s₂, sizes.1) in
      rw (
        fields_are,
        then_put H F out 0 16 (omega arith),
        then_put (H ++ F) K out 0 (16 + function_size old * f) (omega arith),
        then_put (H ++ F ++ K) R out 0 (16 + function_size old * f + 8 * c) (omega arith),
      )
