-- For the code alone: nothing here has to be believed.
-- What one walk tells of a section that other bytes may follow.
use Rattle.std.specs.Prelude.{ℕ, ◌^◌, ◌≤◌, ◌<◌, List}
use Rattle.stackmap.specs.Verdict.{Verdict}
use Rattle.stackmap.specs.Verdict.{Valid, Refused}
use Rattle.stackmap.specs.Verdict.{chain}
use Rattle.stackmap.specs.Section.{num_constants, num_records, is_old, records_at, read_functions, record_owners, entries}
use Rattle.stackmap.specs.Check.{header_check, tables_check, records_check}
use Rattle.stackmap.proofs.OneWalk.{fold}
use Rattle.questions.specs.declared.Hits.{Hits}
use Rattle.questions.specs.Kept.{no_hits, noted}
use Rattle.questions_find.specs.declared.Scanned.{Scanned}

-- all records of s, and where the last one ends
unfoldable pub all_records : List ℕ → Verdict
all_records s = records_check (is_old s) (record_owners (is_old s) (num_records s) (read_functions s)) s (num_constants s) (records_at s)

-- the check of s but for 9: of what stands at its front, and where that ends
unfoldable pub front_check : List ℕ → Verdict
front_check s = chain (chain (header_check s) (tables_check s)) (all_records s)

-- its verdict, with what was kept of all entries where they are right, and else nothing
abbrev pub refused_at : ℕ → ℕ → Scanned
refused_at n p = record { number = n; place = p; hits = no_hits }

unfoldable pub told : Hits → Verdict → Scanned
told h (Refused n p) = refused_at n p
told h (Valid e) = record { number = 0; place = e; hits = h }

unfoldable pub scanned : List ℕ → ℕ → Scanned
scanned s a = told (fold (noted a) (entries s) no_hits) (front_check s)

-- what is kept can be added up over many sections: there are fewer than 2^32 records, and the first one lies in the first n bytes
pub record Bounded (n : ℕ) (h : Hits) : Type 0 where
  pub few : h.sharing < 2 ^ 32
  pub inside : h.first ≤ n
