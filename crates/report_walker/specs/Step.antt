-- For the code alone: nothing here has to be believed.
-- Where a walker can stand, and what a step from there gives.
use Rattle.std.specs.Prelude.{ℕ, ◌+◌, ◌-◌, ◌≤◌, ◌<◌, ◌≡◌, false, List, length, drop, Option, None, Some, Result, Ok, Err}
use Rattle.refusals.specs.declared.Refusal.{Refusal}
use Rattle.refusals.specs.Refusal.{number_of_cause}
use Rattle.stackmap.specs.Verdict.{Verdict}
use Rattle.stackmap.specs.Verdict.{Valid, Refused}
use Rattle.stackmap.specs.Verdict.{shift}
use Rattle.stackmap.specs.Section.{num_functions, num_constants, num_records, is_old, constants_at, records_at}
use Rattle.stackmap.specs.Record.{record_check}
use Rattle.stackmap.specs.Walk.{owner_at, ahead, first_turn, Turning}
use Rattle.report_walker.specs.declared.Place.{Place}

-- the place before the first record
pub record First (s : List ℕ) (p : Place) : Type 0 where
  pub old_is : p.old ≡ is_old s
  pub constants_are : p.constants ≡ num_constants s
  pub turn_next : p.next ≡ (first_turn (is_old s) s).next
  pub turn_left : p.left ≡ (first_turn (is_old s) s).left
  pub all_ahead : p.remaining ≡ num_records s
  pub none_passed : p.number ≡ 0
  pub begins : p.at ≡ records_at s

-- the functions and the place are inside, and so many records are ahead as it says
pub record Standing (s : List ℕ) (p : Place) : Type 0 where
  pub old_is : p.old ≡ is_old s
  pub functions : constants_at s ≤ length s
  pub turning : Turning s p.next p.left
  pub counted : length (ahead s p.next p.left) ≡ p.remaining
  pub inside : p.at ≤ length s
  pub few : p.number + p.remaining < 4294967296

-- the verdict on the record at p, of function number i
abbrev pub verdict_at : List ℕ → Place → ℕ → Verdict
verdict_at s p i = shift p.at (record_check (is_old s) (drop p.at s) p.constants (owner_at s i).function.address)

-- the next record is the first of `left` records of the function before `next`
pub record Owned (s : List ℕ) (p : Place) (next left : ℕ) : Type 0 where
  pub same : ahead s next left ≡ ahead s p.next p.left
  pub some_left : 0 < left
  pub some_next : 0 < next
  pub most : is_old s ≡ false → next ≤ num_functions s

-- a record is valid, and q is the place after it
pub record Passing (s : List ℕ) (p q : Place) : Type 0 where
  pub some_ahead : 0 < p.remaining
  pub owner : Owned s p q.next (q.left + 1)
  pub valid : verdict_at s p (q.next - 1) ≡ Valid q.at
  pub old_is : q.old ≡ p.old
  pub constants : q.constants ≡ p.constants
  pub remaining : q.remaining ≡ p.remaining - 1
  pub number : q.number ≡ p.number + 1

-- it is refused
pub record Refusing (s : List ℕ) (p : Place) (n at : ℕ) : Type 0 where
  pub next : ℕ
  pub left : ℕ
  pub owner : Owned s p next left
  pub refused : verdict_at s p (next - 1) ≡ Refused n at

-- what a step answers: the place after a valid record, that no record is ahead, or a refusal
abbrev pub Stepping : List ℕ → Place → Result (Option Place) Refusal → Type 0
Stepping s p (Ok (Some q)) = Passing s p q
Stepping s p (Ok None) = p.remaining ≡ 0
Stepping s p (Err r) = Refusing s p (number_of_cause r.0) r.1
