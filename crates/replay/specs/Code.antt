-- For the code alone: nothing here has to be believed.
-- A replay that is under way.
use Rattle.std.specs.Prelude.{ℕ, ◌+◌, ◌*◌, ◌-◌, ◌≤◌, ◌<◌, ◌≡◌, cond, List, map, length}
use Rattle.stackmap.specs.Fields.{many}
use Rattle.stackmap.specs.Verdict.{need}
use Rattle.stackmap.specs.Check.{Accepted}
use Rattle.sorted.specs.Sorted.{Sorted, EntryOf}
use Rattle.moves.specs.declared.Move.{Move}
use Rattle.moves.specs.Limits.{pairs_most}
use Rattle.moves.specs.Table.{table_right}
use Rattle.relocate.specs.declared.Machine.{Machine}
use Rattle.relocate.specs.Restore.{Restore, allowed}
use Rattle.relocate.specs.Stopped.{Stopped}
use Rattle.relocate.specs.Plan.{image_right}
use Rattle.relocate.specs.Lists.{answers, final}
use Rattle.thread.specs.Thread.{frames_most}
use Rattle.thread.specs.Code.{Sought}
use Rattle.replay.specs.declared.Recorded.{Recorded}
use Rattle.replay.specs.declared.Outcome.{Outcome}
use Rattle.replay.specs.declared.Outcome.TheVariants.{Broken, Same, Differs}
use Rattle.replay.specs.Layout.{step_size}
use Rattle.replay.specs.Trace.{Step, step_at, frame_at}
use Rattle.replay.specs.Replay.{value_of, as_recorded, compared, frames_of}

-- n steps from number i on
abbrev pub steps_from : List ℕ → ℕ → ℕ → List Step
steps_from t n i = many step_at step_size n t (step_size * i)

-- the frame of the step number i
abbrev pub frame_number : List ℕ → ℕ → Stopped
frame_number t i = (step_at t (step_size * i)).frame

-- a trace that holds so many steps
pub record Holds (t : List ℕ) (n : ℕ) : Type 0 where
  pub room : step_size * n + 1 ≤ length t

-- what is known already, or else what comes
abbrev pub or_else : Outcome → Outcome → Outcome
or_else (Broken p) o = Broken p
or_else Same o = o
or_else (Differs i n v) o = Differs i n v

-- one answer
unfoldable pub compared1 : ℕ → Recorded → Move → Outcome
compared1 i r m = cond (as_recorded r m) Same (Differs i m.number (value_of m))

-- n steps from number i on that all get one answer
unfoldable pub compared_alike : List ℕ → ℕ → ℕ → Move → Outcome
compared_alike t n i m = compared i (steps_from t n i) (map (λ (f : Stopped). m) (frames_of (steps_from t n i)))

-- what a replay of n steps from number i on comes to, on this image, where `kept` is known already
unfoldable pub outcome_from : Restore → List ℕ → ℕ → ℕ → Outcome → List ℕ → Outcome
outcome_from R t n i kept im = or_else kept (compared i (steps_from t n i) (answers R (frames_of (steps_from t n i)) im))

unfoldable pub image_from : Restore → List ℕ → ℕ → ℕ → List ℕ → List ℕ
image_from R t n i im = final R (frames_of (steps_from t n i)) im

-- of n steps those from number i up to number j are done: what is left gives what was left before
pub record Done (R : Restore) (t : List ℕ) (n i : ℕ) (kept : Outcome) (im : List ℕ) (j : ℕ) (kept' : Outcome) (im' : List ℕ) : Type 0 where
  pub outcome : outcome_from R t (n - i) i kept im ≡ outcome_from R t (n - j) j kept' im'
  pub image : image_from R t (n - i) i im ≡ image_from R t (n - j) j im'
  pub long : length im' ≡ length im

-- 13, 14: the refusal of all frames whose machine and version are allowed, or 0; and before it 33
unfoldable pub fault : Restore → ℕ → ℕ
fault R n = need (image_right R.first n) 13 (need (table_right R.olds R.news) 14 0)

unfoldable pub early : Restore → ℕ → Machine → ℕ
early R n m = need (allowed R m) 33 (fault R n)

-- the addresses of n frames from number i on, in order
pub record Gathered (t : List ℕ) (i : ℕ) (keys : List ℕ) (n : ℕ) : Type 0 where
  pub sorted : Sorted keys n
  pub each : (k : ℕ) → k < n → EntryOf keys n (frame_at t (step_size * (i + k))).address

-- The section is accepted, and the records of n frames from number i on are found; the trace holds `all` steps, these among them.
pub record Looked (s t : List ℕ) (all i n : ℕ) (keys hits : List ℕ) : Type 0 where
  pub section_right : Accepted s
  pub holds : Holds t all
  pub room : i + n ≤ all
  pub most : n ≤ frames_most
  pub gathered : Gathered t i keys n
  pub found : Sought s keys n hits

-- all that the moves of these frames rely on, in an image of `long` bytes
pub record Ready (R : Restore) (long : ℕ) (t : List ℕ) (all i n : ℕ) (keys hits : List ℕ) (f : ℕ) : Type 0 where
  pub looked : Looked R.section t all i n keys hits
  pub most_right : R.settings.most ≤ pairs_most
  pub fault_is : f ≡ fault R long
