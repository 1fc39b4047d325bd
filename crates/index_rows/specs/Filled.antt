-- For the code alone: nothing here has to be believed.
-- What the second walk writes: the rows in section order.
use Rattle.std.specs.Prelude.{ℕ, ◌+◌, ◌*◌, Bool, ◌&&◌, List, map, leb, set}
use Rattle.std.proofs.lemmas.List.Edits.{sets}
use Rattle.stackmap.specs.Section.{Entry, address, entries}
use Rattle.index.specs.Rows.{flat}
use Rattle.index.specs.Index.{row_of}

-- the rows of a section in section order, put at the beginning of a list
unfoldable pub in_place : List ℕ → List ℕ → List ℕ
in_place s out = sets out 0 (flat (map row_of (entries s)))

-- the list so far, the last address, and whether the addresses have risen
pub record Filling : Type 0 where
  pub list : List ℕ
  pub last : ℕ
  pub rises : Bool

-- one record more
unfoldable pub filled : Entry → Filling → Filling
filled e h =
    record {
      list = set (set h.list (2 * e.number) (address e)) (2 * e.number + 1) e.number;
      last = address e;
      rises = h.rises && leb h.last (address e);
    }
