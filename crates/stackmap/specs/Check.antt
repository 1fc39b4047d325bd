-- The check of a whole section, in document 01's order: 1, 2, 3 in the header, 4 for functions then constants, 5, then each
-- record, and 9 last.
use Rattle.std.specs.Prelude.{ℕ, zero, suc, ◌+◌, ◌≡◌, Bool, true, false, cond, ◌||◌, List, [], ◌∷◌, length, get_or, drop, leb, eqb}
use Rattle.stackmap.specs.Verdict.{Verdict}
use Rattle.stackmap.specs.Verdict.{Valid}
use Rattle.stackmap.specs.Layout.{header_size, version_number, num_records_at, function_size, constant_size, section_most}
use Rattle.stackmap.specs.Verdict.{must, chain, bind, shift}
use Rattle.stackmap.specs.Section.{Function, num_functions, num_constants, num_records, is_old, constants_at, records_at, read_functions, Owner, record_owners, counted}
use Rattle.stackmap.specs.Record.{zeros, record_check}

-- 2: the version is 3 or 1
abbrev pub version_right : ℕ → Bool
version_right b = eqb b (version_number false) || eqb b (version_number true)

-- 1, 2, 3: the bytes of the header; three zero bytes follow the version
unfoldable pub header_check : List ℕ → Verdict
header_check s =
    must (leb header_size (length s)) 1 0
    (must (leb (length s) section_most) 1 0
    (must (version_right (get_or s 0 0)) 2 0
    (zeros 3 s 1)))

-- 4: of m items of n bytes each from `at`, the first byte of the first that is not wholly inside
unfoldable pub first_outside : ℕ → ℕ → List ℕ → ℕ → ℕ
first_outside n zero s at = at
first_outside n (suc m) s at = cond (leb (at + n) (length s)) (first_outside n m s (at + n)) at

-- the record counts add up; version 1 states none
unfoldable pub counts_right : Bool → List Function → ℕ → Bool
counts_right true fs n = true
counts_right false fs n = eqb (counted fs) n

-- 4, 5: the functions and the constants are inside, and the record counts add up
unfoldable pub tables_check : List ℕ → Verdict
tables_check s =
    must (leb (constants_at s) (length s)) 4 (first_outside (function_size (is_old s)) (num_functions s) s header_size)
    (must (leb (records_at s) (length s)) 4 (first_outside constant_size (num_constants s) s (constants_at s))
    (must (counts_right (is_old s) (read_functions s) (num_records s)) 5 num_records_at
    (Valid (records_at s))))

-- the records of these owners from `at`, in a section of c constants; each is read from its own stretch of s
unfoldable pub records_check : Bool → List Owner → List ℕ → ℕ → ℕ → Verdict
records_check old [] s c at = Valid at
records_check old (o ∷ os) s c at =
    bind (shift at (record_check old (drop at s) c o.function.address)) (λ p. records_check old os s c p)

-- all records, and 9: nothing follows the last one
unfoldable pub walk_check : List ℕ → Verdict
walk_check s =
    bind (records_check (is_old s) (record_owners (is_old s) (num_records s) (read_functions s)) s (num_constants s) (records_at s)) (λ p. must (eqb p (length s)) 9 p (Valid p))

-- the whole section
unfoldable pub section_check : List ℕ → Verdict
section_check s = chain (header_check s) (chain (tables_check s) (walk_check s))

abbrev pub Accepted : List ℕ → Type 0
Accepted s = section_check s ≡ Valid (length s)
