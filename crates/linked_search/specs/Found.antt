-- For the code alone: nothing here has to be believed.
-- What a search over the maps of a linked section has found so far.
use Rattle.std.specs.Prelude.{ℕ, ◌+◌, ◌*◌, ◌<◌, ◌≡◌, cond, List, [], ◌∷◌, length, get_or, set}
use Rattle.stackmap.specs.Section.{is_old}
use Rattle.questions.specs.declared.Hits.{Hits}
use Rattle.sorted.specs.Sorted.{LowerBound}
use Rattle.thread.specs.Code.{hits_at}
use Rattle.linked.specs.Linked.{Map}
use Rattle.linked.specs.Find.{MapEntry, all_with_address}
use Rattle.linked_moves.specs.Code.{site_numbers}

-- the first byte of the first map of version 1, or else d
unfoldable pub first_old : ℕ → List Map → ℕ
first_old d [] = d
first_old d (m ∷ ms) = cond (is_old m.content) m.first (first_old d ms)

-- The place of the record that was found first. It is counted from the whole section's first byte, with this mark on it, until its map's end
-- is known; no place in a section is so high.
abbrev pub mark : ℕ
mark = 4294967296

-- Then it is counted from the map's first byte, and the map's two numbers stand beside it.
pub record Settled (sites : List ℕ) (i : ℕ) (x : MapEntry) (p : ℕ) : Type 0 where
  pub place_is : p ≡ x.entry.first
  pub low : p < mark
  pub map_is : get_or sites (site_numbers * i) 0 ≡ x.map.first
  pub length_is : get_or sites (site_numbers * i + 1) 0 ≡ length x.map.content

-- Before that the map is one of n, which lie between two neighbours in the table.
pub record Pending (table : List ℕ) (n : ℕ) (x : MapEntry) (p : ℕ) : Type 0 where
  pub place_is : p ≡ mark + (x.map.first + x.entry.first)
  pub inside : x.entry.first < length x.map.content
  pub low : length x.map.content < mark
  pub number : ℕ
  pub among : number < n
  pub from_is : get_or table number 0 ≡ x.map.first
  pub to_is : get_or table (number + 1) 0 ≡ x.map.first + length x.map.content

pub data Placed (table : List ℕ) (n : ℕ) (sites : List ℕ) (i : ℕ) (x : MapEntry) (p : ℕ) : Type 0 where
  settled : Settled sites i x p → Placed table n sites i x p
  pending : Pending table n x p → Placed table n sites i x p

-- what was found of an address are these records: their first one, and how many there are
pub record First (F : MapEntry → ℕ → Type 0) (x : MapEntry) (n : ℕ) (h : Hits) : Type 0 where
  pub index_is : h.index ≡ x.entry.number
  pub function_is : h.function ≡ x.entry.owner.number
  pub sharing_is : h.sharing ≡ n
  pub placed : F x h.first

abbrev pub LikeBy : (MapEntry → ℕ → Type 0) → List MapEntry → Hits → Type 0
LikeBy F [] h = h.sharing ≡ 0
LikeBy F (x ∷ xs) h = First F x (length (x ∷ xs)) h

pub record Like (F : MapEntry → ℕ → Type 0) (xs : List MapEntry) (h : Hits) : Type 0 where
  pub by : LikeBy F xs h

-- all addresses in the maps that are done; of equal ones the first stands for all
pub record Finding (keys : List ℕ) (count : ℕ) (table : List ℕ) (n : ℕ) (sites hits : List ℕ) (done : List Map) : Type 0 where
  pub at : (i : ℕ) → i < count → LowerBound keys count (get_or keys i 0) i
      → Like (Placed table n sites i) (all_with_address (get_or keys i 0) 0 done) (hits_at hits i)

-- one place is settled, and the others are as they were
pub record SettlesOne (table : List ℕ) (n i : ℕ) (hits sites hits' sites' : List ℕ) : Type 0 where
  pub here : (xs : List MapEntry) → Like (Placed table n sites i) xs (hits_at hits i) → Like (Placed table 0 sites' i) xs (hits_at hits' i)
  pub hits_others : (j : ℕ) → (j ≡ i → ⊥) → hits_at hits' j ≡ hits_at hits j
  pub map_others : (j : ℕ) → (j ≡ i → ⊥) → get_or sites' (site_numbers * j) 0 ≡ get_or sites (site_numbers * j) 0
  pub length_others : (j : ℕ) → (j ≡ i → ⊥) → get_or sites' (site_numbers * j + 1) 0 ≡ get_or sites (site_numbers * j + 1) 0
  pub sharing_here : (hits_at hits' i).sharing ≡ (hits_at hits i).sharing

-- the two numbers of a place are written
pub record SiteStored (sites sites' : List ℕ) (i first long : ℕ) : Type 0 where
  pub map_here : get_or sites' (site_numbers * i) 0 ≡ first
  pub length_here : get_or sites' (site_numbers * i + 1) 0 ≡ long
  pub map_others : (j : ℕ) → (j ≡ i → ⊥) → get_or sites' (site_numbers * j) 0 ≡ get_or sites (site_numbers * j) 0
  pub length_others : (j : ℕ) → (j ≡ i → ⊥) → get_or sites' (site_numbers * j + 1) 0 ≡ get_or sites (site_numbers * j + 1) 0

-- one number of a list is written
pub record Put (t t' : List ℕ) (i x : ℕ) : Type 0 where
  pub is : t' ≡ set t i x
  pub room : i < length t
