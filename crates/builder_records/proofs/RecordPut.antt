-- A record, put part by part.
use Prim.Native.Nat.{ℕ, ◌+◌, ◌*◌, ◌%◌}
use mathlib.Core.Path.{◌≡◌, refl}
use mathlib.Core.Bool.{Bool}
use mathlib.Core.List.{List, [], ◌∷◌, ◌++◌, append-nil}
use native.Mathlib.Omega.{arith}
use native.Mathlib.Nat.{add-zero}
use lib.Seq.{sets}
use Rattle.wire.specs.Word.{word, bytes}
use Rattle.wire.proofs.Laws.{length-bytes, sets-append}
use Rattle.stackmap.specs.Layout.{location_size, locations_padding}
use Rattle.stackmap.specs.Fields.{Field, ◌of◌, bytes_of, size, all, many}
use Rattle.stackmap.specs.Section.{location_fields, live_out_fields, record_fields}
use Rattle.stackmap.proofs.Fields.{size-append, length-many, size-many}
use Rattle.stackmap.proofs.Items.{location_size_lem, live_out_size_lem}
use Rattle.listing.specs.Listing.{listed_location, listed_live_out, listed_record}
use Rattle.parser_items.specs.Count.{RecordCounted}
use Rattle.builder_records.specs.Put.{head_fields}
use Rattle.builder_items.proofs.Puts.{then_put, puts-all}

-- a product by the size that was answered
pub scaled : (a b n : ℕ) → a ≡ b → a * n ≡ b * n
scaled a b n e = rw e

-- the head
pub head-put : (l : List ℕ) (at n : ℕ) (out : List ℕ) (to : ℕ)
    → sets (sets (sets (sets out to (bytes 8 (word 8 l (at + 1)))) (to + 8) (bytes 4 (word 4 l (at + 9)))) (to + 12) (bytes 2 0)) (to + 14) (bytes 2 n)
    ≡ sets out to (bytes_of (head_fields l at n))
head-put l at n out to = rw add-zero at (puts-all (head_fields l at n) out to)

-- one number is a field, and two are two
one_field : (w v : ℕ) (out : List ℕ) (p : ℕ) → sets out p (bytes w v) ≡ sets out p (bytes_of ((w of v) ∷ []))
unfolding bytes_of
one_field w v out p = rw append-nil

two_fields : (w v u x : ℕ) (out : List ℕ) (p q : ℕ) → q ≡ p + w → sets (sets out p (bytes w v)) q (bytes u x) ≡ sets out p (bytes_of ((w of v) ∷ (u of x) ∷ []))
unfolding bytes_of
two_fields w v u x out p q e = rw (append-nil, sets-append, length-bytes, e)

module _ (old : Bool) {l : List ℕ} {at n m stop : ℕ} (h : RecordCounted l at n m stop) where
  abbrev H : List Field
  H = head_fields l at n

  abbrev B : List Field
  B = all (location_fields old) (many listed_location 10 n l (at + 13))

  abbrev C : List Field
  C = ((locations_padding old n + 2) of 0) ∷ (2 of m) ∷ []

  abbrev D : List Field
  D = all live_out_fields (many listed_live_out 4 m l (at + 13 + 10 * n))

  abbrev E : List Field
  E = (((m + 1) % 2 * 4) of 0) ∷ []

  fields_are : record_fields old (listed_record l at) ≡ H ++ B ++ C ++ D ++ E
  unfolding record_fields listed_record
  fields_are = rw (length-many listed_location, length-many listed_live_out, ← h.live_outs_are, ← h.locations_are)

  sizes : (size B ≡ location_size old * n) × (size D ≡ 4 * m)
  sizes = (size-many (location_fields old) listed_location 10 (location_size old) (location_size_lem old) n l (at + 13), size-many live_out_fields listed_live_out 4 4 live_out_size_lem m l (at + 13 + 10 * n))

  module _ (out : List ℕ) (to : ℕ) where
    -- where the locations end, and where their padding does
    abbrev pad : ℕ
    pad = to + 16 + location_size old * n

    abbrev end : ℕ
    end = pad + locations_padding old n

    pub record_put :
        sets (sets (sets (sets (sets (sets out to (bytes_of H)) (to + 16) (bytes_of B)) pad (bytes (locations_padding old n + 2) 0)) (end + 2) (bytes 2 m)) (end + 4) (bytes_of D)) (end + 4 + 4 * m) (bytes ((m + 1) % 2 * 4) 0)
        ≡ sets out to (bytes_of (record_fields old (listed_record l at)))
    record_put =
        let s₁ : size H ≡ 16 = unfold size in refl in
        let s₂ : size (H ++ B) ≡ 16 + location_size old * n = rw (size-append H B, s₁, sizes.0) in
        let k : size C ≡ locations_padding old n + 4 = unfold size in omega arith in
        let s₃ : size (H ++ B ++ C) ≡ 16 + location_size old * n + (locations_padding old n + 4) = rw (size-append (H ++ B) C, s₂, k) in
        let s₄ : size (H ++ B ++ C ++ D) ≡ 16 + location_size old * n + (locations_padding old n + 4) + 4 * m = rw (size-append (H ++ B ++ C) D, s₃, sizes.1) in
        rw (
          fields_are,
          then_put H B out to (to + 16) (rw s₁),
          two_fields (locations_padding old n + 2) 0 2 m (sets out to (bytes_of (H ++ B))) pad (end + 2) (omega arith),
          then_put (H ++ B) C out to pad (omega arith),
          then_put (H ++ B ++ C) D out to (end + 4) (omega arith),
          one_field ((m + 1) % 2 * 4) 0,
          then_put (H ++ B ++ C ++ D) E out to (end + 4 + 4 * m) (omega arith),
        )
