-- For the code alone: nothing here has to be believed.
-- Refusals 22 and 23 of a listing whose records begin at a place.
use Rattle.std.specs.Prelude.{ℕ, ◌+◌, ◌≤◌, List, length, eqb}
use Rattle.stackmap.specs.Verdict.{Verdict}
use Rattle.stackmap.specs.Verdict.{Valid, Refused}
use Rattle.stackmap.specs.Verdict.{must, chain}
use Rattle.listing.specs.Layout.{end_kind, end_item_size}
use Rattle.listing.specs.Listing.{stands, not_too_many}
use Rattle.parser_items.specs.Survey.{records_from, stop_from}

-- 22: one end stands where the items stop, and nothing after it
unfoldable pub end_check : List ℕ → ℕ → Verdict
end_check l stop =
    must (stands end_kind end_item_size l stop) 22 stop (must (eqb (stop + end_item_size) (length l)) 22 (stop + end_item_size) (Valid (length l)))

-- 22 over the whole listing, and then 23
unfoldable pub grammar_check : List ℕ → ℕ → Verdict
grammar_check l from =
    chain (end_check l (stop_from l from)) (chain (not_too_many (records_from l from) from) (Valid (length l)))

-- a refusal's place is at most n
abbrev pub Inside : ℕ → Verdict → Type 0
Inside n (Valid e) = Unit {0}
Inside n (Refused k p) = p ≤ n
