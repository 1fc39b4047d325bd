-- The question by address over all maps of a linked section: document 01's question, asked of each map.
use Rattle.std.specs.Prelude.{ℕ, suc, ◌+◌, not, List, [], ◌∷◌, ◌++◌, length}
use Rattle.stackmap.specs.Verdict.{need}
use Rattle.stackmap.specs.Section.{is_old, Entry, entries}
use Rattle.questions.specs.Questions.{with_address}
use Rattle.linked.specs.declared.FoundIn.{FoundIn}
use Rattle.linked.specs.Linked.{Map, cut, ask_maps}

-- 27, at its first byte, if a map is of version 1, which does not say which function owns a record
unfoldable pub none_old : {A : Type 0} → (ℕ → ℕ → A) → List Map → A → A
none_old refused [] k = k
none_old refused (m ∷ ms) k = need (not (is_old m.content)) (refused 27 m.first) (none_old refused ms k)

-- a record of a map: the map's number, the map, and the record's entry there
pub record MapEntry : Type 0 where
  pub number : ℕ
  pub map : Map
  pub entry : Entry

unfoldable pub of_map : ℕ → Map → List Entry → List MapEntry
of_map i m [] = []
of_map i m (e ∷ es) = record { number = i; map = m; entry = e } ∷ of_map i m es

-- the records with the address a in all maps, in order; the first map has the number i
unfoldable pub all_with_address : ℕ → ℕ → List Map → List MapEntry
all_with_address a i [] = []
all_with_address a i (m ∷ ms) = of_map i m (with_address a (entries m.content)) ++ all_with_address a (suc i) ms

abbrev pub not_found_in : ℕ → ℕ → FoundIn
not_found_in n p = record { number = n; place = p; map = 0; index = 0; function = 0; sharing = 0; first = 0 }

-- 10 exactly if there is none; else the first one's map, its number and its function's there, how many there are over all maps, and
-- its first byte in the whole
abbrev pub first_of_all : List MapEntry → FoundIn
first_of_all [] = not_found_in 10 0
first_of_all (x ∷ xs) =
    record {
      number = 0;
      place = 0;
      map = x.number;
      index = x.entry.number;
      function = x.entry.owner.number;
      sharing = length (x ∷ xs);
      first = x.map.first + x.entry.first;
    }

-- the maps' refusal, 27, 10
unfoldable pub by_address_in : List ℕ → ℕ → FoundIn
by_address_in s a = ask_maps not_found_in (λ ms. none_old not_found_in ms (first_of_all (all_with_address a 0 ms))) (cut s)
