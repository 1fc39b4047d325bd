-- The listing's two laws, over both versions: the listing of a section is accepted and read as the section, and an accepted listing is
-- the listing of what is read from it. The version's item stands before the items.
use Prim.Native.Nat.{ℕ, ◌+◌, ◌≤◌}
use mathlib.Core.Path.{◌≡◌, refl, sym, ◌∙◌, ap}
use mathlib.Core.Bool.{Bool, true, false}
use mathlib.Core.List.{List, [], ◌++◌, append-nil}
use native.Mathlib.Omega.{arith}
use borrow.Author.Tests.{le-leb, leb-true, eq-eqb, eqb-true}
use lib.ListN.{length, drop, length-append, length-drop}
use lib.Seq.{drop-append_seam, get_or-drop}
use Rattle.wire.specs.Word.{Bytes}
use Rattle.stackmap.specs.Fields.{Field, Fit, bytes_of, size}
use Rattle.stackmap.specs.Section.{Encodable, Section}
use Rattle.stackmap.specs.Verdict.{must, shift}
use Rattle.stackmap.specs.Verdict.{Valid}
use Rattle.stackmap.proofs.Fields.{bytes_of-append, fields_back, has-bytes, length-bytes_of}
use Rattle.stackmap.proofs.Items.{byte_word}
use Rattle.stackmap.proofs.Tests.{and_true}
use Rattle.stackmap.proofs.Verdicts.{must-held, must-rest, shift-valid}
use Rattle.listing.specs.Listing.{version_item, item_fields, listing_fields, encode_listing, read_items, listed_old, version_length, items_of, read_listing, items_check, listing_check}
use Rattle.listing.specs.RoundTrip.{NoCounts}
use Rattle.listing.proofs.Items.{yes_item, is_item, Leads, no_item, kind_byte}
use Rattle.listing.proofs.Old.{counts-none}
use Rattle.listing.proofs.Fits.{Listable}
use Rattle.listing.proofs.Listing.{leads_items, version-size, items_length, listing_length, items_back, items_check_lem, kept, accepted_items, items_encodable}

-- fields after the version's item

version-bytes : (old : Bool) → length (bytes_of (version_item old)) ≡ version_length old
version-bytes old = length-bytes_of (version_item old) ∙ version-size old

module _ (fs : List Field) (d : Leads 7 fs) (fit : Fit fs) where
  version-back : (old : Bool) → listed_old (bytes_of (version_item old ++ fs)) ≡ old
  unfolding version_item listed_old
  version-back true =
      let l = bytes_of (version_item true ++ fs) in
      let h = fields_back l 0 0 (version_item true ++ fs) [] (omega arith, (omega arith, fit)) (rw append-nil) in
      let n : 2 ≤ length l = rw (bytes_of-append, length-append) (omega (arith, version-bytes true)) in
      rw (yes_item 7 2 l 0 n (kind_byte l 0 7 h.0), eq-eqb _ _ (sym (byte_word l 1) ∙ h.1.0))
  version-back false =
      let l = bytes_of (version_item false ++ fs) in
      rw (no_item 7 2 l 0 fs d (fields_back l 0 0 fs [] fit (rw append-nil)))

  items_after : (old : Bool) → drop (version_length old) (bytes_of (version_item old ++ fs)) ≡ bytes_of fs
  items_after old = rw (bytes_of-append, ← version-bytes old) (drop-append_seam (bytes_of (version_item old)) (bytes_of fs))

-- The listing of a section.

module _ (t : Section) where
  listing_old : Listable t → listed_old (encode_listing t) ≡ t.old
  unfolding encode_listing listing_fields
  listing_old h = version-back (item_fields t) (leads_items t) h.fits t.old

  listing_items : Listable t → items_of (encode_listing t) ≡ bytes_of (item_fields t)
  listing_items h = rw (listing_old h) (unfold encode_listing listing_fields in items_after (item_fields t) (leads_items t) h.fits t.old)

  -- it is read as the section
  pub listing_back : Listable t → read_listing (encode_listing t) ≡ t
  unfolding read_listing
  listing_back h = rw (listing_items h, listing_old h) (items_back t h.fits)

  -- and accepted
  pub listing_check_lem : Listable t → length (encode_listing t) ≤ 33554432 → listing_check (encode_listing t) ≡ Valid (length (encode_listing t))
  unfolding listing_check must shift
  listing_check_lem h b =
      let e = items_check_lem t h.fits h.small h.counts h.sizes in
      rw (le-leb _ _ b, listing_items h, listing_old h, e)
      (ap Valid (omega (arith, listing_length t, items_length t)))

-- An accepted listing.

bytes_drop : (n : ℕ) (l : List ℕ) → Bytes l → Bytes (drop n l)
bytes_drop n l w = record { below = λ i. rw get_or-drop (w.below (n + i)) }

version-stands : (l : List ℕ) → Bytes l → (old : Bool) → listed_old l ≡ old → bytes_of (version_item old) ++ drop (version_length old) l ≡ l
unfolding version_item listed_old size
version-stands l w true e =
    let a = and_true _ _ e in
    let s = is_item 7 2 l 0 a.0 in
    has-bytes l 0 0 (version_item true) w (byte_word l 0 ∙ s.1, (byte_word l 1 ∙ eqb-true _ _ a.1, tt)) (omega arith)
version-stands l w false e = unfold bytes_of in refl

module _ (l : List ℕ) (e : ℕ) (k : listing_check l ≡ Valid e) where
  record Taken : Type 0 where
    end : ℕ
    whole : items_check (listed_old l) (items_of l) ≡ Valid end
    under : length l ≤ 33554432

  taken : Taken
  unfolding listing_check
  taken =
      let s = shift-valid _ _ _ (must-rest _ _ _ _ _ k) in
      record { end = s.0; whole = s.1; under = leb-true _ _ (must-held _ _ _ _ _ k) }

  -- it states no record counts if it is of version 1
  pub listing_no_counts : NoCounts (read_listing l)
  unfolding read_listing read_items
  listing_no_counts =
      counts-none (read_listing l).old (read_listing l).functions (kept (items_of l) (listed_old l) taken.end taken.whole).old-right.0

  module _ (w : Bytes l) where
    items_same : bytes_of (item_fields (read_listing l)) ≡ items_of l
    unfolding read_listing
    items_same = accepted_items (items_of l) (listed_old l) taken.end taken.whole (bytes_drop (version_length (listed_old l)) l w)

    -- it is the listing of what is read from it
    pub accepted_listing : encode_listing (read_listing l) ≡ l
    unfolding encode_listing listing_fields read_listing read_items
    accepted_listing =
        bytes_of-append (version_item (listed_old l)) (item_fields (read_listing l))
        ∙ ap (λ (x : List ℕ). bytes_of (version_item (listed_old l)) ++ x) items_same
        ∙ version-stands l w (listed_old l) refl

    -- whose numbers fit
    pub listing_encodable : Encodable (read_listing l)
    unfolding read_listing
    listing_encodable =
        items_encodable (items_of l) (listed_old l) taken.end taken.whole (bytes_drop (version_length (listed_old l)) l w) (rw length-drop (omega (arith, taken.under)))
