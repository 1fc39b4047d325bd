-- A recorded restore is replayed as it was.
use Prim.Native.Nat.{ℕ, suc}
use mathlib.Core.Path.{◌≡◌, refl, ap}
use mathlib.Core.Bool.{true}
use mathlib.Core.Option.{Option, none, some}
use native.Mathlib.Omega.{arith}
use mathlib.Core.List.{List, [], ◌∷◌, map}
use borrow.Author.Tests.{eq-eqb}
use lib.ListN.{length}
use Rattle.editions.specs.declared.Settings as kept
use Rattle.editions.specs.declared.Store.{Store}
use Rattle.editions.specs.Store.{look}
use Rattle.editions_settings.specs.Under.{settings_of, by_found, under}
use Rattle.moves.specs.declared.Move.{Move}
use Rattle.moves.specs.Settle.{refused_move}
use Rattle.relocate.specs.declared.Settings.{Settings}
use Rattle.relocate.specs.Restore.{Restore}
use Rattle.relocate.specs.Stopped.{Stopped}
use Rattle.relocate.specs.Relocation.{moved}
use Rattle.relocate.specs.Lists.{answers}
use Rattle.replay.specs.declared.Outcome.TheVariants.{Same}
use Rattle.replay.specs.Replay.{value_of, as_recorded, compared, frames_of, outcome_of, image_of, answers_under, final_under, replay_answer, replay_image}
use Rattle.replay.specs.Laws.{recorded_of, recording, ReplaysRecorded}
use Rattle.replay.proofs.Written.{trace_back}

as_recorded_lem : (m : Move) → as_recorded (recorded_of m) m ≡ true
unfolding as_recorded
as_recorded_lem m = rw (eq-eqb m.number m.number refl, eq-eqb (value_of m) (value_of m) refl)

recording-same : (i : ℕ) (fs : List Stopped) (ms : List Move) → compared i (recording fs ms) ms ≡ Same
unfolding compared
recording-same i [] ms = refl
recording-same i (f ∷ fs) [] = refl
recording-same i (f ∷ fs) (m ∷ ms) = rw (as_recorded_lem m) (recording-same (suc i) fs ms)

recording-frames : (fs : List Stopped) (ms : List Move) → length ms ≡ length fs → frames_of (recording fs ms) ≡ fs
recording-frames [] ms e = refl
recording-frames (f ∷ fs) [] e = absurd (omega arith)
recording-frames (f ∷ fs) (m ∷ ms) e = ap (λ (xs : List Stopped). f ∷ xs) (recording-frames fs ms (omega arith))

-- each frame has its answer

length-answers : (R : Restore) (fs : List Stopped) (im : List ℕ) → length (answers R fs im) ≡ length fs
length-answers R [] im = refl
length-answers R (f ∷ fs) im = ap suc (length-answers R fs (moved R im f))

length-same : (fs : List Stopped) (m : Move) → length (map (λ (f : Stopped). m) fs) ≡ length fs
length-same [] m = refl
length-same (f ∷ fs) m = ap suc (length-same fs m)

by_found-length : (o : Option kept.Settings) (n : ℕ) (a : List Move) (k : Settings → List Move) → length a ≡ n → ((x : Settings) → length (k x) ≡ n) → length (by_found o a k) ≡ n
by_found-length none n a k p q = p
by_found-length (some s) n a k p q = q (settings_of s)

module _ (st : Store) (e : ℕ) (R : Settings → Restore) (im : List ℕ) (fs : List Stopped) where
  length-under : length (answers_under st e R im fs) ≡ length fs
  unfolding under
  length-under = by_found-length (look e st.slots) (length fs) _ _ (length-same fs (refused_move 31 0)) (λ x. length-answers (R x) fs im)

  back : frames_of (recording fs (answers_under st e R im fs)) ≡ fs
  back = recording-frames fs (answers_under st e R im fs) length-under

pub replays_recorded : ReplaysRecorded
unfolding replay_answer replay_image outcome_of image_of
replays_recorded =
    record {
      same = λ st e R im fs k. rw (trace_back (recording fs (answers_under st e R im fs)) k, back st e R im fs) (recording-same 0 fs (answers_under st e R im fs));
      same_image = λ st e R im fs k. rw (trace_back (recording fs (answers_under st e R im fs)) k) (ap (final_under st e R im) (back st e R im fs));
    }
