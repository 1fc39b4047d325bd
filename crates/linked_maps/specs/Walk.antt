-- For the code alone: nothing here has to be believed.
-- What a walk over the maps of a linked section has counted, and the ends that it has kept.
use Rattle.std.specs.Prelude.{ℕ, zero, suc, ◌+◌, ◌<◌, ◌≡◌, List, [], length, get_or, drop}
use Rattle.stackmap.specs.Verdict.{Verdict}
use Rattle.stackmap.specs.Verdict.{Valid, Refused}
use Rattle.stackmap.specs.Verdict.{shift}
use Rattle.stackmap.specs.Check.{section_check}
use Rattle.linked.specs.Linked.{Map, Cut, maps, refusal}
use Rattle.linked_maps.specs.Counted.{Counted}
use Rattle.linked_maps.specs.Counted as counts

-- what there is to tell of a cut, where n maps are counted already
unfoldable pub told : ℕ → Cut → Counted
told n (maps ms) = counts.Count (n + length ms)
told n (refusal k p) = counts.Refused k p

unfoldable pub maps_in : Cut → List Map
maps_in (maps ms) = ms
maps_in (refusal k p) = []

abbrev pub end_in : Verdict → ℕ
end_in (Valid e) = e
end_in (Refused n p) = p

-- where the map at `at` ends
unfoldable pub end_at : List ℕ → ℕ → ℕ
end_at s at = end_in (shift at (section_check (drop at s)))

-- where map number i begins
unfoldable pub start_of : ℕ → List ℕ → ℕ
start_of zero s = 0
start_of (suc i) s = end_at s (start_of i s)

-- the ends of the first `count` maps are kept, as far as there is room
pub record Kept (s ends : List ℕ) (count : ℕ) : Type 0 where
  pub end : (i : ℕ) → i < count → i < length ends → get_or ends i 0 ≡ start_of (suc i) s

abbrev pub KeptBy : List ℕ → List ℕ → Counted → Type 0
KeptBy s ends (counts.Count n) = Kept s ends n
KeptBy s ends (counts.Refused k p) = Unit {0}
