-- For the code alone: nothing here has to be believed.
-- Where the record of an address is, over all maps.
use Rattle.std.specs.Prelude.{ℕ, ◌-◌, ◌≤◌, ◌≡◌, false, List, [], ◌∷◌, length}
use Rattle.stackmap.specs.Section.{is_old, entries}
use Rattle.stackmap.specs.Check.{Accepted}
use Rattle.questions.specs.Questions.{with_address, first_of}
use Rattle.moves.specs.Window.{part}
use Rattle.linked.specs.Linked.{Map}
use Rattle.linked.specs.Find.{MapEntry, all_with_address}
use Rattle.linked_frames.specs.declared.Site.{Site}

-- the one record with the address a, in the bytes of its map
pub record Here (s : List ℕ) (a : ℕ) (x : MapEntry) (r : Site) : Type 0 where
  pub number_is : r.number ≡ 0
  pub ordered : r.from ≤ r.to
  pub inside : r.to ≤ length s
  pub content_is : x.map.content ≡ part s r.from (r.to - r.from)
  pub accepted : Accepted x.map.content
  pub new : is_old x.map.content ≡ false
  pub only : with_address a (entries x.map.content) ≡ x.entry ∷ []
  pub found_is : r.found ≡ first_of (x.entry ∷ [])

-- 10, or this record, or 15
abbrev pub SiteBy : List ℕ → ℕ → Site → List MapEntry → Type 0
SiteBy s a r [] = r.number ≡ 10
SiteBy s a r (x ∷ []) = Here s a x r
SiteBy s a r (x ∷ y ∷ xs) = r.number ≡ 15

pub record SiteOf (s : List ℕ) (ms : List Map) (a : ℕ) (r : Site) : Type 0 where
  pub is : SiteBy s a r (all_with_address a 0 ms)
