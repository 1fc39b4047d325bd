-- The bound of `trace` suffices.
use Prim.Native.Nat.{ℕ, zero, suc, ◌+◌, ◌≤◌}
use mathlib.Core.Path.{◌≡◌, refl, ap}
use mathlib.Core.Bool.{Bool, true, false}
use mathlib.Core.List.{List}
use native.Mathlib.Omega.{arith}
use lib.ListN.{length}
use Rattle.listing.proofs.Items.{is_item}
use Rattle.replay.specs.Trace.{step_at, before, frame_stands, answer_stands, trace_from, trace}
use Rattle.replay.specs.Laws.{TraceBound}

answer-inside : (t : List ℕ) (at : ℕ) → answer_stands t at ≡ true → at + 10 ≤ length t
unfolding answer_stands
answer-inside t at h = (is_item 2 10 t at h).0

by_tests : (t : List ℕ) (n m at : ℕ) (f a : Bool) → frame_stands t at ≡ f → answer_stands t (at + 274) ≡ a
    → (at + 284 ≤ length t → trace_from t n (at + 284) ≡ trace_from t m (at + 284)) → trace_from t (suc n) at ≡ trace_from t (suc m) at
unfolding trace_from
by_tests t n m at false a qf qa rest = rw qf
by_tests t n m at true false qf qa rest = rw (qf, qa)
by_tests t n m at true true qf qa rest =
    let i = answer-inside t (at + 274) qa in
    rw (qf, qa) (ap (before (step_at t at)) (rest (omega arith)))

bounds : (t : List ℕ) (n m at : ℕ) → length t ≤ at + n → length t ≤ at + m → trace_from t (suc n) at ≡ trace_from t (suc m) at
bounds t zero zero at p q = refl
bounds t zero (suc m) at p q = by_tests t zero (suc m) at _ _ refl refl (λ l. absurd (omega arith))
bounds t (suc n) zero at p q = by_tests t (suc n) zero at _ _ refl refl (λ l. absurd (omega arith))
bounds t (suc n) (suc m) at p q = by_tests t (suc n) (suc m) at _ _ refl refl (λ l. bounds t n m (at + 284) (omega arith) (omega arith))

pub trace_bound : TraceBound
unfolding trace
trace_bound t m h = bounds t m (length t) 0 (omega arith) (omega arith)
