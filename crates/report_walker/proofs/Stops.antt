-- A refusal that `?` passes up is the step's answer.
use Rattle.std.specs.Prelude.{ℕ, ◌≡◌, List, Option, Result, Ok, Err}
use Rattle.std.specs.Result.{IsErrAnd}
use Rattle.refusals.specs.declared.Refusal.{Refusal}
use Rattle.refusals.specs.Refusal.{number_of_cause}
use Rattle.report_walker.specs.declared.Place.{Place}
use Rattle.report_walker.specs.Step.{Refusing, Stepping}

pub stops : (s : List ℕ) (p : Place) (r : Result (Option Place) Refusal) (e : Refusal) → IsErrAnd r (λ f. f ≡ e) → Refusing s p (number_of_cause e.0) e.1
    → Stepping s p r
stops s p (Ok x) e h w = absurd h
stops s p (Err f) e h w = rw h w
