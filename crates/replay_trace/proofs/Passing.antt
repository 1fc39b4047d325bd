-- The check of a trace, step by step.
use Prim.Native.Nat.{ℕ, zero, suc, ◌+◌, ◌*◌, ◌-◌, ◌/◌, ◌≤◌, ◌<◌}
use mathlib.Core.Path.{◌≡◌, refl, sym, ap, ◌∙◌}
use mathlib.Core.Bool.{Bool, true, false, not, ◌&&◌, true≢false}
use mathlib.Core.List.{List, [], ◌∷◌}
use native.Mathlib.Omega.{arith}
use native.Mathlib.Numerals.{add-one}
use Rattle.std.specs.Prelude as Std
use Rattle.std.proofs.Common.{Some, None}
use Rattle.std.specs.Option.{MatchOption, unwrap_or}
use borrow.Author.Tests.{le-leb}
use lib.Dec.{eqb, leb}
use lib.ListN.{length, get_or}
use Rattle.stackmap.specs.Fields.{many}
use Rattle.stackmap.proofs.Tests.{and_true}
use Rattle.listing.specs.Listing.{stands}
use Rattle.listing.proofs.Items.{is_item}
use Rattle.replay.specs.Trace.{Step, step_at, Traced, broken, whole, before, frame_stands, answer_stands, end_stands, trace_from, trace}
use Rattle.replay.specs.Code.{steps_from, Holds}
use Rattle.replay_trace.specs.Shapes.{Shapes, ended}

-- items

pub stands-kind : (k n : ℕ) (t : List ℕ) (at : ℕ) → at + n ≤ length t → eqb (get_or t at 0) k ≡ stands k n t at
unfolding stands
stands-kind k n t at h = rw (le-leb (at + n) (length t) h)

module _ (t : List ℕ) (at : ℕ) where
  pub frame-inside : frame_stands t at ≡ true → at + 274 ≤ length t
  unfolding frame_stands
  frame-inside h = (is_item 1 274 t at (and_true (stands 1 274 t at) (leb (get_or t (at + 1) 0) 1) h).0).0

  pub step_inside : (frame_stands t at && answer_stands t (at + 274)) ≡ true → at + 284 ≤ length t
  unfolding answer_stands
  step_inside h = let i = is_item 2 10 t (at + 274) (and_true (frame_stands t at) (answer_stands t (at + 274)) h).1 in omega arith

-- steps before what is still to be read

abbrev heads : List Step → Traced → Traced
heads [] x = x
heads (s ∷ ss) x = before s (heads ss x)

heads_broken : (ss : List Step) (p : ℕ) → heads ss (broken p) ≡ broken p
heads_broken [] p = refl
heads_broken (s ∷ ss) p = rw (heads_broken ss p)

heads_whole : (ss : List Step) → heads ss (whole []) ≡ whole ss
heads_whole [] = refl
heads_whole (s ∷ ss) = rw (heads_whole ss)

heads_on : (t : List ℕ) (n at : ℕ) (x : Traced) → heads (many step_at 284 (suc n) t at) x ≡ heads (many step_at 284 n t at) (before (step_at t (at + 284 * n)) x)
unfolding many
heads_on t zero at x = let z : at + 284 * 0 ≡ at = omega arith in rw z
heads_on t (suc n) at x =
    let z : at + 284 * suc n ≡ at + 284 + 284 * n = omega arith in
    rw z (ap (before (step_at t at)) (heads_on t n (at + 284) x))

-- n steps are passed, and p is the place after them

pub record Passing (t : List ℕ) (n p : ℕ) : Type 0 where
  pub same : trace t ≡ heads (steps_from t n 0) (trace_from t (suc (length t - n)) p)
  pub place : p ≡ 284 * n
  pub inside : p ≤ length t

pub passing_start : (t : List ℕ) → Passing t 0 0
unfolding trace many
passing_start t = let z : length t - 0 ≡ length t = omega arith in record { same = rw z; place = refl; inside = omega arith }

module _ {t : List ℕ} {n p : ℕ} (g : Passing t n p) where
  pub passing_on : (frame_stands t p && answer_stands t (p + 274)) ≡ true → Passing t (n + 1) (p + 284)
  unfolding trace_from
  passing_on h =
      let i = step_inside t p h in
      let b = and_true (frame_stands t p) (answer_stands t (p + 274)) h in
      let e : length t - n ≡ suc (length t - (n + 1)) = omega (arith, g.place) in
      let one : trace_from t (suc (length t - n)) p ≡ before (step_at t p) (trace_from t (length t - n) (p + 284)) = rw (b.0, b.1) in
      let q : 0 + 284 * n ≡ p = omega (arith, g.place) in
      record {
        same = g.same ∙ ap (heads (steps_from t n 0)) (one ∙ ap (λ (m : ℕ). before (step_at t p) (trace_from t m (p + 284))) e) ∙ sym (rw (add-one n) (heads_on t n 0 _ ∙ rw q));
        place = omega (arith, g.place);
        inside = i;
      }

  whole_on : trace_from t (suc (length t - n)) p ≡ whole [] → trace t ≡ whole (steps_from t n 0)
  whole_on e = g.same ∙ ap (heads (steps_from t n 0)) e ∙ heads_whole (steps_from t n 0)

  broken_on : (q : ℕ) → trace_from t (suc (length t - n)) p ≡ broken q → trace t ≡ broken q
  broken_on q e = g.same ∙ ap (heads (steps_from t n 0)) e ∙ heads_broken (steps_from t n 0) q

  end-room : end_stands t p ≡ true → Holds t n
  unfolding end_stands
  end-room e = let i = is_item 3 1 t p e in record { room = omega (arith, g.place) }

  by_tests : (f a e l : Bool) → frame_stands t p ≡ f → answer_stands t (p + 274) ≡ a → end_stands t p ≡ e → eqb (p + 1) (length t) ≡ l → (f && a) ≡ false
      → Shapes t (ended t n p)
  unfolding ended trace_from
  by_tests true true e l qf qa qe ql h = absurd (let z : ◌≡◌ {A = ℕ} 0 1 = cc in omega arith)
  by_tests true false e l qf qa qe ql h = rw qf (broken_on (p + 274) (rw (qf, qa)))
  by_tests false a true true qf qa qe ql h = rw (qf, qe, ql) (whole_on (rw (qf, qe, ql)), end-room qe)
  by_tests false a true false qf qa qe ql h = rw (qf, qe, ql) (broken_on (p + 1) (rw (qf, qe, ql)))
  by_tests false a false l qf qa qe ql h = rw (qf, qe) (broken_on p (rw (qf, qe)))

  pub passing_end : (frame_stands t p && answer_stands t (p + 274)) ≡ false → Shapes t (ended t n p)
  passing_end h = by_tests (frame_stands t p) (answer_stands t (p + 274)) (end_stands t p) (eqb (p + 1) (length t)) refl refl refl refl h

-- whether a step stands where the step number k would
abbrev pub step_at-number : List ℕ → ℕ → Bool
step_at-number t k = frame_stands t (284 * k) && answer_stands t (284 * k + 274)

-- all of the first n stand
pub passing_all : (t : List ℕ) (n : ℕ) → ((k : ℕ) → k < n → step_at-number t k ≡ true) → Passing t n (284 * n)
passing_all t zero h = passing_start t
passing_all t (suc n) h =
    let g = passing_all t n (λ k l. h k (omega arith)) in
    let z : 284 * n + 284 ≡ 284 * suc n = omega arith in
    let y : n + 1 ≡ suc n = omega arith in
    rw (z, y) at (passing_on g (h n (omega arith)))

-- where there is no room for a step, none stands
pub no_step : (t : List ℕ) (p : ℕ) → length t < p + 284 → (frame_stands t p && answer_stands t (p + 274)) ≡ false
no_step t p l = go (frame_stands t p && answer_stands t (p + 274)) refl
  where
    go : (b : Bool) → (frame_stands t p && answer_stands t (p + 274)) ≡ b → b ≡ false
    go true e = let i = step_inside t p e in absurd (omega arith)
    go false e = refl

stands_not : (b : Bool) → not b ≡ false → b ≡ true
stands_not true e = refl
stands_not false e = absurd (true≢false e)

none-not : (b : Bool) → not b ≡ true → b ≡ false
none-not true e = absurd (true≢false (sym e))
none-not false e = refl

-- the first number, of the m for which there is room, at which none stands
abbrev pub First : List ℕ → ℕ → Std.Option ℕ → Type 0
First t m r =
    MatchOption r ((k : ℕ) → 0 ≤ k → k < m → not (step_at-number t k) ≡ false)
    (λ i. (0 ≤ i) × (i < m) × (not (step_at-number t i) ≡ true) × ((k : ℕ) → 0 ≤ k → k < i → not (step_at-number t k) ≡ false))

pub first-most : (t : List ℕ) (m : ℕ) (r : Std.Option ℕ) → First t m r → unwrap_or r m ≤ m
first-most t m None h = omega arith
first-most t m (Some i) h = omega (arith, h.1)

pub shapes_first : (t : List ℕ) (m : ℕ) (r : Std.Option ℕ) → m ≡ length t / 284 → First t m r → Shapes t (ended t (unwrap_or r m) (284 * unwrap_or r m))
shapes_first t m None e h =
    passing_end (passing_all t m (λ k l. stands_not (step_at-number t k) (h k (omega arith) l))) (no_step t (284 * m) (omega arith))
shapes_first t m (Some i) e h =
    passing_end (passing_all t i (λ k l. stands_not (step_at-number t k) (h.3 k (omega arith) l))) (none-not (step_at-number t i) h.2)
