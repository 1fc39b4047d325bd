-- What else is promised of a replay.
use Rattle.std.specs.Prelude.{ℕ, suc, ◌≤◌, ◌≡◌, length}
use mathlib.Core.List.{List, [], ◌∷◌, map, Memᴰ, Permᴰ}
use Rattle.stackmap.specs.Fields.{Fit}
use Rattle.editions.specs.declared.Store.{Store}
use Rattle.editions_settings.specs.Under.{under}
use Rattle.moves.specs.declared.Move.{Move}
use Rattle.moves.specs.Settle.{refused_move}
use Rattle.relocate.specs.declared.Settings.{Settings}
use Rattle.relocate.specs.Limits.{register_count}
use Rattle.relocate.specs.Restore.{Restore, restore}
use Rattle.relocate.specs.Stopped.{Stopped}
use Rattle.relocate.specs.Relocation.{answer}
use Rattle.relocate.specs.Lists.{Disjoint}
use Rattle.replay.specs.declared.Recorded.{Recorded}
use Rattle.replay.specs.declared.Outcome.TheVariants.{Broken, Same}
use Rattle.replay.specs.Trace.{Step, broken, whole, trace_from, trace, step_items, trace_of}
use Rattle.replay.specs.Replay.{value_of, compared, frames_of, answers_under, final_under, replay_answer, replay_image}

-- A broken trace is 35, whatever else is handed in, and leaves the image as lent.
pub record BrokenFirst : Type 0 where
  pub answer_is : (st : Store) (e : ℕ) (R : Settings → Restore) (im t : List ℕ) (p : ℕ) → trace t ≡ broken p → replay_answer st e R im t ≡ Broken p
  pub image_is : (st : Store) (e : ℕ) (R : Settings → Restore) (im t : List ℕ) (p : ℕ) → trace t ≡ broken p → replay_image st e R im t ≡ im

-- the answers of the frames' plain moves, each by itself on the starting image
abbrev pub plain_under : Store → ℕ → (Settings → Restore) → List ℕ → List Stopped → List Move
plain_under st e R im fs = under st e (map (λ (f : Stopped). refused_move 31 0) fs) (λ settings. map (answer (R settings) im) fs)

-- Where no two frames of the trace have extents that share a byte, the recorded answers are compared with the plain ones, and the image ends
-- as any other order of the frames would leave it.
pub record ReplaysApart : Type 0 where
  pub plain : (st : Store) (e : ℕ) (s olds news : List ℕ) (first : ℕ) (im t : List ℕ) (ss : List Step) → trace t ≡ whole ss → Disjoint s (frames_of ss)
      → replay_answer st e (restore s olds news first) im t ≡ compared 0 ss (plain_under st e (restore s olds news first) im (frames_of ss))
  pub any_order : (st : Store) (e : ℕ) (s olds news : List ℕ) (first : ℕ) (im t : List ℕ) (ss : List Step) → trace t ≡ whole ss → Disjoint s (frames_of ss)
      → (gs : List Stopped) → Permᴰ (frames_of ss) gs → replay_image st e (restore s olds news first) im t ≡ final_under st e (restore s olds news first) im gs

-- The bound of `trace` suffices: a larger one changes nothing.
abbrev pub TraceBound : Type 0
TraceBound = (t : List ℕ) (m : ℕ) → length t ≤ m → trace_from t (suc m) 0 ≡ trace t

-- a step that a trace can hold: 32 registers, and each number fits in its bytes
pub record Recordable (s : Step) : Type 0 where
  pub registers_right : length s.frame.registers ≡ register_count
  pub fits : Fit (step_items s)

-- What is written is read back, whole.
abbrev pub TraceBack : Type 0
TraceBack = (ss : List Step) → ((s : Step) → Memᴰ s ss → Recordable s) → trace (trace_of ss) ≡ whole ss

-- frames with their answers, as they are recorded
abbrev pub recorded_of : Move → Recorded
recorded_of m = record { number = m.number; value = value_of m }

abbrev pub recording : List Stopped → List Move → List Step
recording [] ms = []
recording (f ∷ fs) [] = []
recording (f ∷ fs) (m ∷ ms) = record { frame = f; recorded = recorded_of m } ∷ recording fs ms

-- A restore that was recorded differs in nothing when it is replayed from the same start, and leaves the image that it left.
pub record ReplaysRecorded : Type 0 where
  pub same : (st : Store) (e : ℕ) (R : Settings → Restore) (im : List ℕ) (fs : List Stopped)
      → ((s : Step) → Memᴰ s (recording fs (answers_under st e R im fs)) → Recordable s)
      → replay_answer st e R im (trace_of (recording fs (answers_under st e R im fs))) ≡ Same
  pub same_image : (st : Store) (e : ℕ) (R : Settings → Restore) (im : List ℕ) (fs : List Stopped)
      → ((s : Step) → Memᴰ s (recording fs (answers_under st e R im fs)) → Recordable s)
      → replay_image st e R im (trace_of (recording fs (answers_under st e R im fs))) ≡ final_under st e R im fs
