-- Verdicts: valid up to a place, or a refusal's number and place; and how tests are put one after the other.
use Rattle.std.specs.Prelude.{ℕ, ◌+◌, Bool, true, false, Result, Ok, Err}
use Rattle.refusals.specs.declared.Refusal.{Refusal}
use Rattle.refusals.specs.Refusal.{number_of_cause}

-- A verdict on bytes: they are valid up to a place, or a refusal's number and its place.
pub data Verdict : Type 0 where
  Valid : ℕ → Verdict
  Refused : ℕ → ℕ → Verdict

-- what a function answers, as a verdict
abbrev pub verdict : Result ℕ Refusal → Verdict
verdict (Ok e) = Valid e
verdict (Err r) = Refused (number_of_cause r.0) r.1

-- Document 01's number and place for each case of a verdict; what is accepted has 0 and 0.

abbrev pub number_of : Verdict → ℕ
number_of (Valid e) = 0
number_of (Refused n p) = n

abbrev pub place_of : Verdict → ℕ
place_of (Valid e) = 0
place_of (Refused n p) = p

-- go on with k where the test holds, and else this refusal; of any type of answer
abbrev pub need : {A : Type 0} → Bool → A → A → A
need true refusal k = k
need false refusal k = refusal

-- go on with k where the test holds, and else the refusal n at p
unfoldable pub must : Bool → ℕ → ℕ → Verdict → Verdict
must b n p k = need b (Refused n p) k

-- the first refusal of the two
unfoldable pub chain : Verdict → Verdict → Verdict
chain (Valid e) k = k
chain (Refused n p) k = Refused n p

-- go on from where the first ended, or its refusal
unfoldable pub bind : Verdict → (ℕ → Verdict) → Verdict
bind (Valid e) k = k e
bind (Refused n p) k = Refused n p

-- a where the test holds, and else b
unfoldable pub pick : Bool → Verdict → Verdict → Verdict
pick true a b = a
pick false a b = b

-- a verdict on a part that starts at p, said of the whole
unfoldable pub shift : ℕ → Verdict → Verdict
shift p (Valid e) = Valid (p + e)
shift p (Refused n q) = Refused n (p + q)
