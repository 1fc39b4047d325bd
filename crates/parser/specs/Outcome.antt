-- For the code alone: nothing here has to be believed.
-- What a listing comes to: refused, or the section that is to be built of it.
use Rattle.std.specs.Prelude.{ℕ, ◌+◌, ◌*◌, ◌≤◌, ◌≡◌, Bool, List, length, Result, Ok, Err}
use Rattle.refusals.specs.declared.Refusal.{Refusal}
use Rattle.refusals.specs.Refusal.{number_of_cause}
use Rattle.stackmap.specs.Verdict.{Verdict}
use Rattle.stackmap.specs.Verdict as verdict
use Rattle.stackmap.specs.Layout.{header_size, function_size, constant_size}
use Rattle.stackmap.specs.Verdict.{chain}
use Rattle.stackmap.specs.Fault.{section_fault}
use Rattle.listing.specs.Layout.{listing_most}
use Rattle.listing.specs.Listing.{listed_old, items_of, listing_check, read_listing}
use Rattle.parser.specs.declared.SectionPlan.{SectionPlan}
use Rattle.parser_items.specs.Survey.{records_after, Planned}
use Rattle.parser_items.specs.Draft.{Ready}

-- where a section ends that has so many functions and constants, and so many bytes of records
abbrev pub section_end : Bool → ℕ → ℕ → ℕ → ℕ
section_end old functions constants bytes = header_size + function_size old * functions + constant_size * constants + bytes

-- the refusal of the listing or of the section that it is to become, or that section's length
unfoldable pub refusal : List ℕ → Verdict
refusal l = chain (listing_check l) (section_fault (read_listing l))

-- all that is to be known before the section is written
pub record Buildable (l : List ℕ) (old : Bool) (functions constants records bytes size : ℕ) : Type 0 where
  pub accepted : refusal l ≡ verdict.Valid size
  pub version : old ≡ listed_old l
  pub planned : Planned (items_of l) old functions constants records bytes
  pub ready : Ready (items_of l) (records_after (items_of l) functions constants) records
  pub short : length l ≤ listing_most
  pub sized : size ≡ section_end old functions constants bytes

abbrev pub Parsed : List ℕ → Result SectionPlan Refusal → Type 0
Parsed l (Err r) = refusal l ≡ verdict.Refused (number_of_cause r.0) r.1
Parsed l (Ok s) = Buildable l s.plan.old s.plan.functions s.plan.constants s.plan.records s.plan.bytes s.size
