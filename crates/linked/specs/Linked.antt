-- Linked sections. A linker puts the stack maps of all objects one after the other into one section. No document speaks of this; the
-- words `Map`, `Cut` and "linked section" are coined here. A map is what document 01 calls a section, and each is checked by document
-- 01's check. Where this gives 9, the map ends there and the next one begins: nothing lies between two maps.
use Rattle.std.specs.Prelude.{ℕ, zero, suc, ◌+◌, ◌*◌, cond, List, [], ◌∷◌, ◌++◌, eqb, leb, length, take, drop}
use Rattle.stackmap.specs.Verdict.{Verdict}
use Rattle.stackmap.specs.Verdict.{Valid, Refused}
use Rattle.stackmap.specs.Verdict.{need}
use Rattle.stackmap.specs.Check.{section_check}

-- a map: where its first byte stands in the whole, and its bytes
pub record Map : Type 0 where
  pub first : ℕ
  pub content : List ℕ

abbrev pub map_at : ℕ → List ℕ → Map
map_at at s = record { first = at; content = s }

-- what cutting gives: all maps in order, or a refusal's number and its place in the whole
pub data Cut : Type 0 where
  maps : List Map → Cut
  refusal : ℕ → ℕ → Cut

-- a map before the others; a refusal of a later map is one of the whole
abbrev pub before : Map → Cut → Cut
before m (maps ms) = maps (m ∷ ms)
before m (refusal n p) = refusal n p

-- The bytes s, which stand at `at` in the whole, by the verdict on them: they are the last map; or 9 at p, so that their first p bytes
-- are a map, and the rest is cut from there; or any other refusal, at its place in the whole.
abbrev pub cut_by : ℕ → List ℕ → (ℕ → Cut) → Verdict → Cut
cut_by at s rest (Valid e) = maps (map_at at s ∷ [])
cut_by at s rest (Refused n p) = cond (eqb n 9) (before (map_at at (take p s)) (rest p)) (refusal n (at + p))

-- at most `bound` maps from `at` on; a map has 16 bytes or more, so that there is always a bound which is never met (`BoundSuffices`)
unfoldable pub cut_from : ℕ → ℕ → List ℕ → Cut
cut_from zero at s = refusal 9 at
cut_from (suc bound) at s = cut_by at s (λ p. cut_from bound (at + p) (drop p s)) (section_check s)

-- The whole. It has at most 16,777,216 bytes, like a section: 1, by the check of the first map.
unfoldable pub cut : List ℕ → Cut
cut s = cut_from (suc (length s)) 0 s

-- Every call on a linked section first gives the refusal of its maps, if any.
abbrev pub ask_maps : {A : Type 0} → (ℕ → ℕ → A) → (List Map → A) → Cut → A
ask_maps refused answer (refusal n p) = refused n p
ask_maps refused answer (maps ms) = answer ms

-- The maps in a lent list of numbers: the first byte and the length of each, by turns.

unfoldable pub numbers_of : List Map → List ℕ
numbers_of [] = []
numbers_of (m ∷ ms) = m.first ∷ length m.content ∷ numbers_of ms

-- the answer, and the list that is left
pub record MapsListed : Type 0 where
  pub number : ℕ
  pub place : ℕ
  pub count : ℕ
  pub output : List ℕ

-- a refusal leaves the list as it was
abbrev pub not_listed : List ℕ → ℕ → ℕ → MapsListed
not_listed out n p = record { number = n; place = p; count = 0; output = out }

-- 24 if the list is shorter than two numbers a map; else these numbers, and what lies beyond them is as it was
unfoldable pub list_maps : List ℕ → List Map → MapsListed
list_maps out ms =
    need (leb (2 * length ms) (length out)) (not_listed out 24 0)
    (record { number = 0; place = 0; count = length ms; output = numbers_of ms ++ drop (2 * length ms) out })

-- the maps' refusal, 24
unfoldable pub maps_of : List ℕ → List ℕ → MapsListed
maps_of s out = ask_maps (not_listed out) (list_maps out) (cut s)
