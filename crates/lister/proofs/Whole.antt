-- A whole section that is accepted: where its parts stand, how long its listing is, and what the conversion answers.
use Prim.Native.Nat.{ℕ, ◌+◌, ◌*◌, ◌≤◌, ◌<◌}
use mathlib.Core.Path.{◌≡◌, refl, sym, ◌∙◌}
use mathlib.Core.Bool.{Bool}
use mathlib.Core.List.{List}
use native.Mathlib.Omega.{arith}
use native.Mathlib.Nat.{zero-add}
use lib.ListN.{length, set}
use Rattle.wire.specs.Word.{bytes}
use Rattle.stackmap.specs.Verdict.{Verdict}
use Rattle.stackmap.specs.Verdict.{Valid, Refused}
use Rattle.stackmap.specs.Layout.{function_size}
use Rattle.stackmap.specs.Fields.{bytes_of, size, all, many}
use Rattle.stackmap.specs.Section.{Function, section_fields, num_functions, num_constants, num_records, is_old, records_at, read_function, read_constant, read_functions, read_records, read_section}
use Rattle.stackmap.specs.Check.{section_check, Accepted}
use Rattle.stackmap.proofs.Fields.{length-bytes_of, length-many, size-many}
use Rattle.stackmap.proofs.Back.{section-size}
use Rattle.stackmap.proofs.Entries.{begins}
use Rattle.stackmap.proofs.Forth.{section-long, accepted-length}
use Rattle.listing.specs.Listing.{version_item, function_item, constant_item, record_items, end_item, item_fields, listing_fields, encode_listing, version_length, to_listing}
use Rattle.listing.proofs.Items.{function_item-size, constant_item-size}
use Rattle.listing.proofs.Listing.{version-size, listing_length as encoded-listing}
use Rattle.listing.proofs.Short.{listing_short}
use Rattle.listing.proofs.Writes.{give-short, give_all}
use Rattle.lister_items.specs.Put.{Put}
use Rattle.lister.specs.Shape.{SectionLayout}
use Rattle.lister_items.proofs.Puts.{put_join, put-long}
use Rattle.lister_records.proofs.Passes.{in_section, in_listing}

-- what a part has taken of the output, by its count
module _ {o o' : List ℕ} {to end : ℕ} where
  pub version-ends : (old : Bool) → Put o o' to end (version_item old) → (end ≡ to + version_length old) × (length o' ≡ length o)
  version-ends old p = (p.ends ∙ rw (version-size old), put-long p)

  pub functions-end : (read : List ℕ → ℕ → Function) (step n : ℕ) (s : List ℕ) (at : ℕ) → Put o o' to end (all function_item (many read step n s at))
      → (end ≡ to + 25 * n) × (length o' ≡ length o)
  functions-end read step n s at p = (p.ends ∙ rw (size-many function_item read step 25 function_item-size n s at), put-long p)

  pub constants-end : (read : List ℕ → ℕ → ℕ) (step n : ℕ) (s : List ℕ) (at : ℕ) → Put o o' to end (all constant_item (many read step n s at))
      → (end ≡ to + 9 * n) × (length o' ≡ length o)
  constants-end read step n s at p = (p.ends ∙ rw (size-many constant_item read step 9 constant_item-size n s at), put-long p)

module _ (s : List ℕ) where
  -- how long its listing is
  abbrev pub listed : ℕ
  listed =
      version_length (is_old s) + 25 * num_functions s + 9 * num_constants s + in_listing (is_old s) s (num_records s) (records_at s) + 1

  pub listing_length : length (encode_listing (read_section s)) ≡ listed
  unfolding read_section read_functions
  listing_length = encoded-listing (read_section s) ∙ rw (length-many (read_function (is_old s)), length-many read_constant)

  -- its functions, its constants and its records are inside, and nothing follows
  pub record Laid : Type 0 where
    pub ends : records_at s + in_section (is_old s) s (num_records s) (records_at s) ≡ length s
    pub small : length s ≤ 16777216
    pub short : 16 * listed ≤ 25 * length s

  section-ends : size (section_fields (read_section s)) ≡ records_at s + in_section (is_old s) s (num_records s) (records_at s)
  unfolding read_section
  section-ends = section-size (read_section s) ∙ rw (begins s)

  pub laid : Accepted s → Laid
  laid k =
      record {
        ends = sym section-ends ∙ section-long s (length s) k;
        small = (accepted-length s (length s) k).1;
        short = omega (arith, listing_length, listing_short s (length s) k);
      }

  -- the parts of the listing's length, which is at most 25/16 of the section's, so that no sum overflows
  pub parts-long : Accepted s → {old : Bool} {functions constants records pool first : ℕ} → SectionLayout s old functions constants records pool first
      → {v r : ℕ} → v ≡ version_length old → r ≡ in_listing old s records first
      → (v + 25 * functions + 9 * constants + r + 1 ≡ length (encode_listing (read_section s))) × (length (encode_listing (read_section s)) ≤ 26214400)
  parts-long k t v r =
      let l = laid k in
      let f = t.functions_are in
      let c = t.constants_are in
      let a = rw t.old_is at v in
      let b = rw (t.old_is, t.records_are, t.first_is) at r in
      (omega (arith, listing_length), omega (arith, listing_length))

  -- its parts are inside, and so is their listing in an output that is long enough
  pub record Parts (old : Bool) (functions constants records pool first room : ℕ) : Type 0 where
    pub functions_inside : 16 + function_size old * functions ≤ length s
    pub constants-inside : pool + 8 * constants ≤ length s
    pub records-inside : first + in_section old s records first ≤ length s
    pub fits : version_length old + 25 * functions + 9 * constants + in_listing old s records first + 1 ≤ room

  pub parts : {old : Bool} {functions constants records pool first : ℕ} → SectionLayout s old functions constants records pool first → Accepted s
      → (out : List ℕ) → length (encode_listing (read_section s)) ≤ length out → Parts old functions constants records pool first (length out)
  parts h k out room =
      let l = laid k in
      let e = l.ends in
      rw (h.old_is, h.functions_are, h.constants_are, h.records_are, h.pool_is, h.first_is)
      (record { functions_inside = omega arith; constants-inside = omega arith; records-inside = omega arith; fits = omega (arith, listing_length) })

  -- its version, its functions, its constants, its records and the end are all of it
  module _ {old : Bool} {functions constants records pool first : ℕ} (h : SectionLayout s old functions constants records pool first) where
    pub listing_join : {o₀ o₁ o₂ o₃ o₄ : List ℕ} {z a b c d : ℕ} → Put o₀ o₁ z a (version_item old)
        → Put o₁ o₂ a b (all function_item (many (read_function old) (function_size old) functions s 16))
        → Put o₂ o₃ b c (all constant_item (many read_constant 8 constants s pool)) → Put o₃ o₄ c d (all record_items (read_records old records s first))
        → Put o₀ (set o₄ d 6) z (d + 1) (listing_fields (read_section s))
    unfolding listing_fields item_fields read_section read_functions
    listing_join {o₄ = o₄} {d = d} v p q r =
        put_join _ _ (rw h.old_is at v)
        (put_join _ _ (rw (h.old_is, h.functions_are) at p)
        (put_join _ _ (rw (h.constants_are, h.pool_is) at q)
        (put_join _ end_item (rw (h.old_is, h.records_are, h.first_is) at r)
        (end-put o₄ d))))
      where
        end-put : (o : List ℕ) (t : ℕ) → Put o (set o t 6) t (t + 1) end_item
        end-put o t = record { ends = unfold size in refl; output = unfold bytes_of bytes in refl }

  -- What the conversion answers.

  pub accepted : {v : Verdict} {e : ℕ} → v ≡ section_check s → v ≡ Valid e → Accepted s
  accepted {e = e} h k = let w = sym h ∙ k in rw (accepted-length s e w).0 at w

  pub refused : (out : List ℕ) {n p : ℕ} → section_check s ≡ Refused n p → to_listing s out ≡ record { number = n; place = p; written = 0; output = out }
  unfolding to_listing
  refused out h = rw h

  pub too_short : (out : List ℕ) → Accepted s → length out < length (encode_listing (read_section s))
      → to_listing s out ≡ record { number = 24; place = 0; written = 0; output = out }
  unfolding to_listing
  too_short out k h = rw k (give-short (length s) (encode_listing (read_section s)) out h)

  pub converted : (out out' : List ℕ) {end : ℕ} → Accepted s → length (encode_listing (read_section s)) ≤ length out
      → Put out out' 0 end (listing_fields (read_section s)) → to_listing s out ≡ record { number = 0; place = 0; written = end; output = out' }
  unfolding to_listing encode_listing
  converted out out' k h p =
      let e = p.ends ∙ zero-add _ ∙ sym (length-bytes_of (listing_fields (read_section s))) in
      rw k (give_all (length s) (encode_listing (read_section s)) out h ∙ rw (e, p.output))
