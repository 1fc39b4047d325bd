-- An address index: document 02, request 4. From an accepted version 3 section: address and record number, two entries a record, ordered
-- by address and then record number.
use Rattle.std.specs.Prelude.{ℕ, ◌*◌, Bool, true, false, not, ◌&&◌, List, [], ◌∷◌, ◌++◌, map, eqb, leb, length, drop}
use Rattle.stackmap.specs.Verdict.{need}
use Rattle.stackmap.specs.Section.{Entry, address, entries, is_old}
use Rattle.stackmap.specs.Check.{section_check}
use Rattle.questions.specs.declared.Found.{Found}
use Rattle.questions.specs.Questions.{ask, with_address, not_found, first_of}
use Rattle.index.specs.Rows.{Row, ordered, flat}

abbrev pub row_of : Entry → Row
row_of e = record { address = address e; number = e.number }

-- the entries that a section yields
unfoldable pub index_of : List ℕ → List ℕ
index_of s = flat (ordered (map row_of (entries s)))

-- a list that is handed in is exactly these entries
unfoldable pub same : List ℕ → List ℕ → Bool
same [] [] = true
same [] (y ∷ ys) = false
same (x ∷ xs) [] = false
same (x ∷ xs) (y ∷ ys) = eqb x y && same xs ys

-- The calls that write into a lent list of numbers.

-- the answer, and the list that is left
pub record Listed : Type 0 where
  pub number : ℕ
  pub place : ℕ
  pub written : ℕ
  pub output : List ℕ

-- a refusal leaves the list as it was
abbrev pub not_listed : List ℕ → ℕ → ℕ → Listed
not_listed out n p = record { number = n; place = p; written = 0; output = out }

-- 24 if the list is too short; else these numbers, and what lies beyond them is as it was
unfoldable pub put_numbers : List ℕ → List ℕ → Listed
put_numbers ns out =
    need (leb (length ns) (length out)) (not_listed out 24 0)
    (record { number = 0; place = 0; written = length ns; output = ns ++ drop (length ns) out })

-- Filling an index: 1 to 9, 27, 24.
unfoldable pub fill_index : List ℕ → List ℕ → Listed
fill_index s out =
    ask (not_listed out)
    (need (not (is_old s)) (not_listed out 27 0)
    (put_numbers (index_of s) out))
    (section_check s)

-- A lookup through an index: 1 to 9, 27, 29, then what the plain walk gives, which is 10 exactly if no record has the address.
unfoldable pub by_index : List ℕ → List ℕ → ℕ → Found
by_index s index a =
    ask not_found
    (need (not (is_old s)) (not_found 27 0)
    (need (same index (index_of s)) (not_found 29 0)
    (first_of (with_address a (entries s)))))
    (section_check s)

-- Many lookups in one call: five numbers an address.

unfoldable pub five_numbers : Found → List ℕ
five_numbers f = f.number ∷ f.place ∷ f.index ∷ f.function ∷ f.sharing ∷ []

unfoldable pub answers_of : List Entry → List ℕ → List ℕ
answers_of es [] = []
answers_of es (a ∷ more) = five_numbers (first_of (with_address a es)) ++ answers_of es more

-- 1 to 9, 27, 29, 24
unfoldable pub all_by_index : List ℕ → List ℕ → List ℕ → List ℕ → Listed
all_by_index s index addresses out =
    ask (not_listed out)
    (need (not (is_old s)) (not_listed out 27 0)
    (need (same index (index_of s)) (not_listed out 29 0)
    (put_numbers (answers_of (entries s) addresses) out)))
    (section_check s)
