-- Demand 2: section to listing to section, or listing to section to listing, gives the same bytes for all that is accepted.
use Rattle.std.specs.Prelude.{ℕ, ◌≤◌, ◌≡◌, true, length, take}
use mathlib.Core.List.{List, Memᴰ}
use Rattle.stackmap.specs.Verdict.{Valid}
use Rattle.wire.specs.Word.{Bytes}
use Rattle.listing.specs.Layout.{listing_most}
use Rattle.stackmap.specs.Section.{Encodable, Function, Section}
use Rattle.listing.specs.Listing.{encode_listing, read_listing, listing_check, Converted, give, to_listing, to_section}

-- version 1 states no record counts
abbrev pub NoCounts : Section → Type 0
NoCounts t = t.old ≡ true → (f : Function) → Memᴰ f t.functions → f.count ≡ 0

-- accepted listings and sections whose numbers fit correspond one to one, over both versions
abbrev pub AcceptedListing : List ℕ → Type 0
AcceptedListing l = listing_check l ≡ Valid (length l)

pub record ListingOneToOne : Type 0 where
  pub read_fits : (l : List ℕ) → Bytes l → AcceptedListing l → Encodable (read_listing l)
  pub read_no_counts : (l : List ℕ) → AcceptedListing l → NoCounts (read_listing l)
  pub encode_read : (l : List ℕ) → Bytes l → AcceptedListing l → encode_listing (read_listing l) ≡ l
  pub encode_bytes : (t : Section) → Bytes (encode_listing t)
  pub encode_accepted : (t : Section) → Encodable t → NoCounts t → length (encode_listing t) ≤ listing_most → AcceptedListing (encode_listing t)
  pub read_encode : (t : Section) → Encodable t → NoCounts t → read_listing (encode_listing t) ≡ t

-- the bytes that a conversion wrote
unfoldable pub result : Converted → List ℕ
result c = take c.written c.output

-- the conversion whose result is b: b and its length, and the output beyond it unchanged; or 24
abbrev pub converted_to : List ℕ → List ℕ → Converted
converted_to b out = give (Valid (length b)) b out

abbrev pub RoundTrips : Type 0
RoundTrips =
    ((s out out' : List ℕ) → Bytes s → (to_listing s out).number ≡ 0 → to_section (result (to_listing s out)) out' ≡ converted_to s out')
    × ((l out out' : List ℕ) → Bytes l → (to_section l out).number ≡ 0 → to_listing (result (to_section l out)) out' ≡ converted_to l out')

-- a refused conversion leaves the output untouched
abbrev pub OutputKept : Type 0
OutputKept =
    ((s out : List ℕ) → ((to_listing s out).number ≡ 0 → ⊥) → (to_listing s out).output ≡ out)
    × ((l out : List ℕ) → ((to_section l out).number ≡ 0 → ⊥) → (to_section l out).output ≡ out)
