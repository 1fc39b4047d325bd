-- For the code alone: nothing here has to be believed.
-- What the items of a listing come to: refused, or all that was counted in them.
use Rattle.std.specs.Prelude.{ℕ, ◌≤◌, ◌≡◌, Bool, List, length, Result, Ok, Err}
use Rattle.refusals.specs.declared.Refusal.{Refusal}
use Rattle.refusals.specs.Refusal.{number_of_cause}
use Rattle.stackmap.specs.Verdict as verdict
use Rattle.listing.specs.Listing.{items_check}
use Rattle.parser_items.specs.declared.Plan.{Plan}
use Rattle.parser_items.specs.Draft.{Whole}

-- the items of a listing of this version; a place counts from the first of them
abbrev pub Drafted : List ℕ → Bool → Result Plan Refusal → Type 0
Drafted l old (Err r) = (items_check old l ≡ verdict.Refused (number_of_cause r.0) r.1) × (r.1 ≤ length l)
Drafted l old (Ok plan) = (plan.old ≡ old) × Whole l plan.old plan.functions plan.constants plan.records plan.bytes
