-- The answer of the conversion, for each outcome.
use Prim.Native.Nat.{ℕ, ◌≤◌, ◌<◌}
use mathlib.Core.Path.{◌≡◌, sym, ◌∙◌}
use mathlib.Core.Bool.{Bool}
use mathlib.Core.List.{List}
use lib.ListN.{length}
use lib.Seq.{sets}
use Rattle.wire.specs.Word.{Bytes}
use Rattle.stackmap.specs.Verdict.{Refused}
use Rattle.stackmap.specs.Section.{encode_section}
use Rattle.stackmap.proofs.Back.{encoded-length}
use Rattle.listing.specs.Listing.{read_items, items_of, read_listing, give, to_section}
use Rattle.listing.proofs.RoundTrip.{built_refusal}
use Rattle.listing.proofs.Writes.{give-short, give_all}
use Rattle.parser.specs.Outcome.{refusal, Buildable}
use Rattle.parser_walk.proofs.Plans.{planned-size}

module _ (l : List ℕ) (w : Bytes l) (out : List ℕ) where
  -- what is given is known without the section's bytes
  given : to_section l out ≡ give (refusal l) (encode_section (read_listing l)) out
  unfolding to_section refusal
  given = rw (built_refusal l w)

  pub converted-refused : {n p : ℕ} → refusal l ≡ Refused n p → to_section l out ≡ record { number = n; place = p; written = 0; output = out }
  converted-refused h = given ∙ rw h

  module _ {old : Bool} {f c r b n : ℕ} (k : Buildable l old f c r b n) where
    pub read_as : read_items (items_of l) old ≡ read_listing l
    unfolding read_listing
    read_as = rw k.version

    built_length : length (encode_section (read_listing l)) ≡ n
    built_length = rw (← read_as) (encoded-length (read_items (items_of l) old)) ∙ planned-size k.planned ∙ sym k.sized

    -- 24
    pub converted-short : length out < n → to_section l out ≡ record { number = 24; place = 0; written = 0; output = out }
    converted-short h = given ∙ rw k.accepted (give-short n (encode_section (read_listing l)) out (rw built_length h))

    pub converted : n ≤ length out → to_section l out ≡ record { number = 0; place = 0; written = n; output = sets out 0 (encode_section (read_listing l)) }
    converted h = given ∙ rw (k.accepted, ← built_length) (give_all n (encode_section (read_listing l)) out (rw built_length h))
