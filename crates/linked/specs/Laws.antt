-- What the definitions of a linked section are, said in other words.
use Rattle.std.specs.Prelude.{ℕ, ◌+◌, ◌≤◌, ◌<◌, ◌≡◌, true, false, length}
use mathlib.Core.List.{List, [], ◌∷◌, ◌++◌, map, Memᴰ}
use Rattle.stackmap.specs.Verdict.{Refused}
use Rattle.stackmap.specs.Layout.{section_most}
use Rattle.stackmap.specs.Verdict.{number_of}
use Rattle.stackmap.specs.Section.{is_old}
use Rattle.stackmap.specs.Check.{section_check, Accepted}
use Rattle.questions.specs.declared.Found.{Found}
use Rattle.questions.specs.Questions.{by_address}
use Rattle.linked.specs.declared.FoundIn.{FoundIn}
use Rattle.linked.specs.Linked.{Map, map_at, maps, refusal, cut_from, cut}
use Rattle.linked.specs.Find.{not_found_in, by_address_in}

-- an answer of document 01's question, as one of the first map
abbrev pub in_first_map : Found → FoundIn
in_first_map f =
    record {
      number = f.number;
      place = f.place;
      map = 0;
      index = f.index;
      function = f.function;
      sharing = f.sharing;
      first = f.first;
    }

-- Where the check of a section gives anything but 9, it is one map, or it has the section's own refusal; and the question by address is
-- document 01's.
pub record OneMap : Type 0 where
  pub accepted : (s : List ℕ) → Accepted s → cut s ≡ maps (map_at 0 s ∷ [])
  pub refused : (s : List ℕ) (n p : ℕ) → section_check s ≡ Refused n p → (n ≡ 9 → ⊥) → cut s ≡ refusal n p
  pub found : (s : List ℕ) (a : ℕ) → (number_of (section_check s) ≡ 9 → ⊥) → by_address_in s a ≡ in_first_map (by_address s a)

-- Each map that cutting gives is accepted by itself.
abbrev pub EachAccepted : Type 0
EachAccepted = (s : List ℕ) (ms : List Map) → cut s ≡ maps ms → (m : Map) → Memᴰ m ms → Accepted m.content

-- The question by address over all maps is what document 01's question answers of each map, put together.

-- these maps are of version 3
abbrev pub AllNew : List Map → Type 0
AllNew ms = (m : Map) → Memᴰ m ms → is_old m.content ≡ false

-- how many records share the address, by the maps' own answers
unfoldable pub sharings : ℕ → List Map → ℕ
sharings a [] = 0
sharings a (m ∷ ms) = (by_address m.content a).sharing + sharings a ms

-- an answer of a map, as one of the whole: the map has this number, and so many records share the address over all maps
abbrev pub in_map : ℕ → Map → ℕ → Found → FoundIn
in_map i m n f =
    record {
      number = f.number;
      place = f.place;
      map = i;
      index = f.index;
      function = f.function;
      sharing = n;
      first = m.first + f.first;
    }

pub record EachMap : Type 0 where
  -- 27 at the first byte of the first map of version 1
  pub old : (s : List ℕ) (a : ℕ) (bs : List Map) (m : Map) (cs : List Map) → cut s ≡ maps (bs ++ m ∷ cs) → AllNew bs → is_old m.content ≡ true
      → by_address_in s a ≡ not_found_in 27 m.first
  -- 10 where no map has such a record
  pub absent : (s : List ℕ) (a : ℕ) (ms : List Map) → cut s ≡ maps ms → AllNew ms → sharings a ms ≡ 0 → by_address_in s a ≡ not_found_in 10 0
  -- else the answer of the first map that has one, with the sharings of all maps added up
  pub found : (s : List ℕ) (a : ℕ) (bs : List Map) (m : Map) (cs : List Map) → cut s ≡ maps (bs ++ m ∷ cs) → AllNew (bs ++ m ∷ cs) → sharings a bs ≡ 0
      → (by_address m.content a).number ≡ 0
      → by_address_in s a ≡ in_map (length bs) m (sharings a (bs ++ m ∷ cs)) (by_address m.content a)

-- lists of bytes, one after the other
unfoldable pub joined : List (List ℕ) → List ℕ
joined [] = []
joined (c ∷ cs) = c ++ joined cs

-- and the maps that they are, where the first stands at `at`
unfoldable pub laid : ℕ → List (List ℕ) → List Map
laid at [] = []
laid at (c ∷ cs) = map_at at c ∷ laid (at + length c) cs

unfoldable pub contents : List Map → List (List ℕ)
contents ms = map (λ (m : Map). m.content) ms

-- Cutting and joining are each other's way back: the maps, one after the other, are all bytes of the section, and each stands where it
-- says; and accepted maps, at least one and not too long in all, are cut into these maps and no others.
pub record Joined : Type 0 where
  pub whole : (s : List ℕ) (ms : List Map) → cut s ≡ maps ms → joined (contents ms) ≡ s
  pub placed : (s : List ℕ) (ms : List Map) → cut s ≡ maps ms → ms ≡ laid 0 (contents ms)
  pub cut_again : (c : List ℕ) (cs : List (List ℕ)) → ((x : List ℕ) → Memᴰ x (c ∷ cs) → Accepted x)
      → length (joined (c ∷ cs)) ≤ section_most → cut (joined (c ∷ cs)) ≡ maps (laid 0 (c ∷ cs))
  -- and where bytes follow them that the check refuses, this is the refusal, at its place in the whole
  pub refused_after : (cs : List (List ℕ)) (r : List ℕ) (n p : ℕ) → ((x : List ℕ) → Memᴰ x cs → Accepted x) → 0 < length r
      → length (joined cs ++ r) ≤ section_most → section_check r ≡ Refused n p → (n ≡ 9 → ⊥) → cut (joined cs ++ r) ≡ refusal n (length (joined cs) + p)

-- The bound of `cut` is never met: a larger one gives the same.
abbrev pub BoundSuffices : Type 0
BoundSuffices = (s : List ℕ) (bound : ℕ) → length s < bound → cut_from bound 0 s ≡ cut s
