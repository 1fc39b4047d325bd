-- A refusal that `?` passes up is the one that came.
use Rattle.std.specs.Prelude.{ℕ, ◌≡◌, Result, Ok, Err}
use Rattle.std.specs.Result.{IsErrAnd}
use mathlib.Core.Path.{ap}
use Rattle.refusals.specs.declared.Refusal.{Refusal}
use Rattle.stackmap.specs.Verdict.{Verdict, verdict}

pub passed : (r : Result ℕ Refusal) (e : Refusal) → IsErrAnd r (λ f. f ≡ e) → verdict r ≡ verdict (Err e)
passed (Ok x) e h = absurd h
passed (Err f) e h = ap (λ f. verdict (Err f)) h
