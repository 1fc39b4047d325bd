-- The round trips.
use Prim.Native.Nat.{ℕ, ◌≤◌}
use mathlib.Core.Path.{◌≡◌, refl}
use mathlib.Core.List.{List}
use mathlib.Core.Bool.{Bool, true, false}
use native.Mathlib.Omega.{arith}
use lib.ListN.{length, drop}
use lib.Seq.{take-append_seam}
use lib.Dec.{leb}
use Rattle.stackmap.specs.Verdict.{Verdict}
use Rattle.stackmap.specs.Verdict.{Valid, Refused}
use Rattle.wire.specs.Word.{Bytes}
use Rattle.stackmap.specs.Check.{section_check}
use Rattle.stackmap.specs.Fault.{section_fault}
use Rattle.stackmap.specs.Section.{Section, encode_section, read_section}
use Rattle.stackmap.specs.Verdict.{chain}
use Rattle.stackmap.proofs.Back.{check-back, read_back}
use Rattle.stackmap.proofs.Forth.{accepted-length}
use Rattle.stackmap.proofs.Verdicts.{chain_first, chain-rest}
use Rattle.stackmap.proofs.WellFormed.{accepted_well_formed, bytes_of_lem}
use Rattle.listing.specs.Listing.{listing_fields, encode_listing, listing_check, read_listing, give, to_listing, to_section}
use Rattle.listing.specs.RoundTrip.{result, converted_to, RoundTrips, OutputKept, ListingOneToOne}
use Rattle.listing.proofs.Fits.{section-to_listing}
use Rattle.listing.proofs.Versions.{listing_back, listing_check_lem, listing_no_counts, accepted_listing, listing_encodable}
use Rattle.stackmap.proofs.Numbers.{Numbered, n_more, n_chain, section-numbered}
use Rattle.listing.proofs.Refusals.{listing_numbered}
use Rattle.listing.proofs.Short.{listing_short}

-- where nothing is refused, all is whole, and the result is written
record Gave (c : Verdict) (r out : List ℕ) : Type 0 where
  end : ℕ
  whole : c ≡ Valid end
  wrote : result (give c r out) ≡ r

gave : {m : ℕ} (c : Verdict) (r out : List ℕ) → Numbered m c → (give c r out).number ≡ 0 → Gave c r out
unfolding result
gave (Refused n p) r out a h = absurd (let z = a.above in omega arith)
gave (Valid e) r out a h = go (leb (length r) (length out)) refl h
  where
    go : (b : Bool) → leb (length r) (length out) ≡ b → (give (Valid e) r out).number ≡ 0 → Gave (Valid e) r out
    go true q h = record { end = e; whole = refl; wrote = rw (q, give) (take-append_seam r (drop (length r) out)) }
    go false q h = absurd (let z : ◌≡◌ {A = ℕ} 24 0 = rw (q, give) at h in omega arith)

section-first : (s out out' : List ℕ) → Bytes s → (to_listing s out).number ≡ 0 → to_section (result (to_listing s out)) out' ≡ converted_to s out'
unfolding to_listing to_section chain
section-first s out out' w h =
    let t = read_section s in
    let g = gave (section_check s) (encode_listing t) out (section-numbered s) h in
    let k = g.whole in
    let a = accepted_well_formed s _ w k in
    let f = section-to_listing t a.0.fits a.0.no_counts in
    let l : length (encode_listing t) ≤ 33554432 = omega (arith, listing_short s _ k, accepted-length s _ k) in
    rw (g.wrote, listing_check_lem t f l, listing_back t f, a.1, k)

listing_first : (l out out' : List ℕ) → Bytes l → (to_section l out).number ≡ 0 → to_listing (result (to_section l out)) out' ≡ converted_to l out'
unfolding to_listing to_section
listing_first l out out' w h =
    let t = read_listing l in
    let g = gave (chain (listing_check l) (section_check (encode_section t))) (encode_section t) out (n_chain _ _ (listing_numbered l) (n_more (omega arith) (section-numbered (encode_section t)))) h in
    let k = (chain_first _ _ _ g.whole).1 in
    let j = chain-rest _ _ _ g.whole in
    rw (g.wrote, j, read_back t (listing_encodable l _ k w) (listing_no_counts l _ k), accepted_listing l _ k w)

pub round_trips : RoundTrips
round_trips = (section-first, listing_first)

kept : (c : Verdict) (r out : List ℕ) → ((give c r out).number ≡ 0 → ⊥) → (give c r out).output ≡ out
kept (Refused n p) r out h = refl
kept (Valid e) r out h = go (leb (length r) (length out)) refl
  where
    go : (b : Bool) → leb (length r) (length out) ≡ b → (give (Valid e) r out).output ≡ out
    go true q = absurd (h (rw (q, give)))
    go false q = rw (q, give)

pub output_kept : OutputKept
unfolding to_listing to_section
output_kept = (
  λ s out. kept (section_check s) (encode_listing (read_section s)) out,
  λ l out. kept (chain (listing_check l) (section_check (encode_section (read_listing l)))) (encode_section (read_listing l)) out,
)

-- the built section's refusal needs no bytes
pub built_refusal : (l : List ℕ) → Bytes l → chain (listing_check l) (section_check (encode_section (read_listing l))) ≡ chain (listing_check l) (section_fault (read_listing l))
built_refusal l w = go (listing_check l) refl
  where
    go : (c : Verdict) → listing_check l ≡ c → chain c (section_check (encode_section (read_listing l))) ≡ chain c (section_fault (read_listing l))
    go (Valid e) h = rw (check-back (read_listing l) (listing_encodable l e h w))
    go (Refused n p) h = unfold chain in refl

listing_bytes : (t : Section) → Bytes (encode_listing t)
unfolding encode_listing
listing_bytes t = bytes_of_lem (listing_fields t)

pub listing_one_to_one : ListingOneToOne
listing_one_to_one =
    record {
      read_fits = λ l w k. listing_encodable l (length l) k w;
      read_no_counts = λ l k. listing_no_counts l (length l) k;
      encode_read = λ l w k. accepted_listing l (length l) k w;
      encode_bytes = listing_bytes;
      encode_accepted = λ t f c n. listing_check_lem t (section-to_listing t f c) n;
      read_encode = λ t f c. listing_back t (section-to_listing t f c);
    }
