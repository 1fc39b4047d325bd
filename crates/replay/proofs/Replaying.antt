-- A replay step by step: what is left gives what was left before.
use Prim.Native.Nat.{ℕ, suc, ◌+◌, ◌*◌, ◌-◌, ◌≤◌, ◌<◌}
use mathlib.Core.Path.{◌≡◌, refl, sym, ap, ◌∙◌}
use mathlib.Core.Bool.{Bool, true, false, cond}
use mathlib.Core.List.{List, [], ◌∷◌, map}
use native.Mathlib.Omega.{arith}
use lib.ListN.{length}
use Rattle.stackmap.specs.Verdict.{Refused}
use Rattle.stackmap.specs.Fields.{many}
use Rattle.stackmap.specs.Check.{section_check}
use Rattle.questions.specs.Questions.{ask}
use Rattle.moves.specs.declared.Move.{Move}
use Rattle.moves.specs.Settle.{refused_move}
use Rattle.moves.specs.Plan.{refuse}
use Rattle.relocate.specs.Restore.{Restore}
use Rattle.relocate.specs.Stopped.{Stopped}
use Rattle.relocate.specs.Plan.{plan}
use Rattle.relocate.specs.Relocation.{answer, moved}
use Rattle.relocate.specs.Lists.{answers, final}
use Rattle.replay.specs.declared.Outcome.{Outcome}
use Rattle.replay.specs.declared.Outcome.TheVariants.{Broken, Same, Differs}
use Rattle.replay.specs.Trace.{Step, step_at}
use Rattle.replay.specs.Replay.{value_of, as_recorded, compared, frames_of}
use Rattle.replay.specs.Code.{steps_from, frame_number, or_else, compared1, compared_alike, outcome_from, image_from, Done}

-- what is known stays

pub or_else_join : (a b c : Outcome) → or_else (or_else a b) c ≡ or_else a (or_else b c)
or_else_join (Broken p) b c = refl
or_else_join Same b c = refl
or_else_join (Differs i n v) b c = refl

pub or_else-same : (a : Outcome) → or_else a Same ≡ a
or_else-same (Broken p) = refl
or_else-same Same = refl
or_else-same (Differs i n v) = refl

picked : (b : Bool) (o d : Outcome) → cond b o d ≡ cond b o (or_else d o) → cond b o d ≡ or_else (cond b Same d) o
picked true o d e = refl
picked false o d e = e

pub compared-first : (i : ℕ) (s : Step) (ss : List Step) (m : Move) (ms : List Move)
    → compared i (s ∷ ss) (m ∷ ms) ≡ or_else (compared1 i s.recorded m) (compared (suc i) ss ms)
unfolding compared compared1
compared-first i s ss m ms = picked (as_recorded s.recorded m) _ (Differs i m.number (value_of m)) refl

-- the steps ahead

pub steps_on : (t : List ℕ) (n i : ℕ) → i < n → steps_from t (n - i) i ≡ step_at t (284 * i) ∷ steps_from t (n - (i + 1)) (i + 1)
unfolding many
steps_on t n i h =
    let e : n - i ≡ suc (n - (i + 1)) = omega arith in
    let g : 284 * i + 284 ≡ 284 * (i + 1) = omega arith in
    rw (e, g)

pub steps_none : (t : List ℕ) (n i : ℕ) → n ≤ i → steps_from t (n - i) i ≡ []
unfolding many
steps_none t n i h = let e : n - i ≡ 0 = omega arith in rw e

-- steps that all get one answer

module _ (t : List ℕ) (n : ℕ) (m : Move) where
  pub alike_on : (i : ℕ) → i < n → compared_alike t (n - i) i m ≡ or_else (compared1 i (step_at t (284 * i)).recorded m) (compared_alike t (n - (i + 1)) (i + 1) m)
  unfolding compared_alike
  alike_on i h =
      let g : suc i ≡ i + 1 = omega arith in
      let rest = steps_from t (n - (i + 1)) (i + 1) in
      rw (steps_on t n i h) (rw g at (compared-first i (step_at t (284 * i)) rest m (map (λ (f : Stopped). m) (frames_of rest))))

  pub alike_none : (i : ℕ) → n ≤ i → compared_alike t (n - i) i m ≡ Same
  unfolding compared_alike compared
  alike_none i h = rw (steps_none t n i h)

  -- all from number i on are like those from number k on, where `known` is known
  pub record Alike (i : ℕ) (kept : Outcome) (k : ℕ) (known : Outcome) : Type 0 where
    pub same : or_else known (compared_alike t (n - k) k m) ≡ or_else kept (compared_alike t (n - i) i m)
    pub most : k ≤ n

  pub alike_step : {i k : ℕ} {kept known known' : Outcome} → Alike i kept k known → k < n
      → known' ≡ or_else known (compared1 k (step_at t (284 * k)).recorded m) → Alike i kept (k + 1) known'
  alike_step {i} {k} {kept} {known} g h e =
      record {
        same = rw e (or_else_join known (compared1 k (step_at t (284 * k)).recorded m) _ ∙ ap (or_else known) (sym (alike_on k h)) ∙ g.same);
        most = omega arith;
      }

  pub alike_end : {i k : ℕ} {kept known : Outcome} → Alike i kept k known → n ≤ k → known ≡ or_else kept (compared_alike t (n - i) i m)
  alike_end {i} {k} {kept} {known} g h = sym (or_else-same known) ∙ ap (or_else known) (sym (alike_none k h)) ∙ g.same

-- all steps are left at the start, and none at the end

module _ (R : Restore) (t : List ℕ) (n : ℕ) where
  pub done_start : (im : List ℕ) → Done R t n 0 Same im 0 Same im
  done_start im = record { outcome = refl; image = refl; long = refl }

  pub done_join : {i j k : ℕ} {a b c : Outcome} {x y z : List ℕ} → Done R t n i a x j b y → Done R t n j b y k c z → Done R t n i a x k c z
  done_join p q = record { outcome = p.outcome ∙ q.outcome; image = p.image ∙ q.image; long = q.long ∙ p.long }

  -- one step: its frame is moved, and its answer compared
  pub done_step : {i : ℕ} {kept kept' : Outcome} {im im' : List ℕ} → i < n
      → kept' ≡ or_else kept (compared1 i (step_at t (284 * i)).recorded (answer R im (frame_number t i)))
      → im' ≡ moved R im (frame_number t i) → length im' ≡ length im → Done R t n i kept im (i + 1) kept' im'
  unfolding outcome_from image_from
  done_step {i} {kept} {kept'} {im} {im'} h e d l =
      let g : suc i ≡ i + 1 = omega arith in
      let f = frame_number t i in
      let rest = steps_from t (n - (i + 1)) (i + 1) in
      record {
        outcome =
            rw (steps_on t n i h, e, d, or_else_join kept (compared1 i (step_at t (284 * i)).recorded (answer R im f)) (compared (i + 1) rest (answers R (frames_of rest) (moved R im f))))
            (ap (or_else kept) (rw g at (compared-first i (step_at t (284 * i)) rest (answer R im f) (answers R (frames_of rest) (moved R im f)))));
        image = rw (steps_on t n i h, d);
        long = l;
      }

  pub done_end : {im im' : List ℕ} {kept : Outcome} → Done R t n 0 Same im n kept im'
      → (kept ≡ compared 0 (steps_from t n 0) (answers R (frames_of (steps_from t n 0)) im)) × (im' ≡ final R (frames_of (steps_from t n 0)) im)
  unfolding outcome_from image_from compared
  done_end {im} {im'} {kept} p =
      let z : n - 0 ≡ n = omega arith in
      (sym (rw (steps_none t n n (omega arith), z) at p.outcome ∙ or_else-same kept), sym (rw (steps_none t n n (omega arith), z) at p.image))

-- A refused section gives all frames one answer.

module _ (R : Restore) (a p : ℕ) (k : section_check R.section ≡ Refused a p) where
  plan-refused : (n : ℕ) (f : Stopped) → plan R n f ≡ refuse a p
  unfolding plan ask
  plan-refused n f = rw k

  pub answers_alike : (fs : List Stopped) (im : List ℕ) → answers R fs im ≡ map (λ (f : Stopped). refused_move a p) fs
  unfolding answer moved
  answers_alike [] im = refl
  answers_alike (f ∷ fs) im = rw plan-refused (ap (λ (ms : List Move). refused_move a p ∷ ms) (answers_alike fs im))

  pub final_alike : (fs : List Stopped) (im : List ℕ) → final R fs im ≡ im
  unfolding moved
  final_alike [] im = refl
  final_alike (f ∷ fs) im = rw plan-refused (final_alike fs im)

  pub done_alike : (t : List ℕ) (n i : ℕ) (kept kept' : Outcome) (im : List ℕ) → kept' ≡ or_else kept (compared_alike t (n - i) i (refused_move a p))
      → Done R t n i kept im n kept' im
  unfolding outcome_from image_from compared_alike compared
  done_alike t n i kept kept' im e =
      record {
        outcome =
            rw (answers_alike (frames_of (steps_from t (n - i) i)) im, steps_none t n n (omega arith), e)
            (sym (or_else-same _));
        image = rw (final_alike (frames_of (steps_from t (n - i) i)) im, steps_none t n n (omega arith));
        long = refl;
      }
