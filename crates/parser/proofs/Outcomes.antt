-- What a listing comes to: its items after the version's, with places of the whole listing, and then the section.
use Prim.Native.Nat.{ℕ, ◌+◌, ◌-◌, ◌≤◌, ◌<◌}
use mathlib.Core.Path.{◌≡◌, sym, ◌∙◌}
use mathlib.Core.List.{List}
use mathlib.Core.Bool.{Bool, true, false}
use native.Mathlib.Omega.{arith}
use borrow.Author.Tests.{le-leb, lt-leb}
use lib.ListN.{length, take, drop}
use Rattle.stackmap.specs.Verdict.{Valid, Refused}
use Rattle.stackmap.specs.Verdict.{must, chain, shift}
use Rattle.stackmap.specs.Fields.{size}
use Rattle.stackmap.specs.Section.{Section, section_fields}
use Rattle.stackmap.specs.Fault.{section_fault}
use Rattle.stackmap.proofs.Tests.{and_true}
use Rattle.stackmap.proofs.Verdicts.{must-rest}
use Rattle.stackmap.proofs.Within.{part-from}
use Rattle.stackmap.proofs.Back.{entries-valid}
use Rattle.listing.specs.Layout.{listing_most, version_kind, version_item_size}
use Rattle.listing.specs.Listing.{read_items, listed_old, version_length, items_of, read_listing, items_check, listing_check}
use Rattle.listing.proofs.Items.{is_item}
use Rattle.parser_items.specs.Draft.{Whole}
use Rattle.parser.specs.Outcome.{refusal, Buildable}
use Rattle.parser_walk.proofs.Plans.{planned-size}

-- 1
pub too_long : (l : List ℕ) → listing_most < length l → refusal l ≡ Refused 1 0
unfolding refusal listing_check must chain
too_long l h = rw (lt-leb _ _ h)

-- a section without refusal ends where its bytes do
section-end : (t : Section) (n : ℕ) → section_fault t ≡ Valid n → n ≡ size (section_fields t)
unfolding section_fault
section-end t n h = entries-valid _ _ _ _ n (must-rest _ _ _ _ _ (must-rest _ _ _ _ _ h))

-- the version's item is inside
version-inside : (l : List ℕ) (old : Bool) → old ≡ listed_old l → version_length old ≤ length l
unfolding listed_old
version-inside l true v = (is_item version_kind version_item_size l 0 (and_true _ _ (sym v)).0).0
version-inside l false v = omega arith

-- `start` is where the items begin that follow the version's
module _ (l : List ℕ) {old : Bool} {start : ℕ} (v : old ≡ listed_old l) (s : start ≡ version_length old) where
  pub start-inside : start ≤ length l
  start-inside = rw s (version-inside l old v)

  abbrev part : List ℕ
  part = take (length l - start) (drop start l)

  pub part-is : part ≡ items_of l
  part-is = part-from l start ∙ rw (s, v)

  module _ (short : length l ≤ listing_most) where
    -- 22, 23, 28
    pub items_refused : {n p : ℕ} → items_check old part ≡ Refused n p → refusal l ≡ Refused n (start + p)
    unfolding refusal listing_check must chain shift
    items_refused h = rw (le-leb _ _ short, rw (part-is, v) at h, s, v)

    -- the items are as they should be
    module _ {old' : Bool} {f c r b : ℕ} (o : old' ≡ old) (w : Whole part old' f c r b) where
      pub items_accepted : refusal l ≡ section_fault (read_items part old')
      unfolding refusal listing_check read_listing must chain shift
      items_accepted = rw (le-leb _ _ short, rw (part-is, o, v) at w.accepted, part-is, o, v)

      pub buildable : {n : ℕ} → section_fault (read_items part old') ≡ Valid n → Buildable l old' f c r b n
      buildable {n} h =
          record {
            accepted = items_accepted ∙ h;
            version = o ∙ v;
            planned = rw part-is at w.planned;
            ready = rw part-is at w.ready;
            short = short;
            sized = section-end (read_items part old') n h ∙ planned-size w.planned;
          }
