-- A replay: each frame of a trace is moved, one after another, and each answer is compared with the one that was recorded.
use Rattle.std.specs.Prelude.{ℕ, suc, Bool, cond, ◌&&◌, List, [], ◌∷◌, map, eqb}
use Rattle.editions.specs.declared.Store.{Store}
use Rattle.editions_settings.specs.Under.{under}
use Rattle.moves.specs.declared.Move.{Move}
use Rattle.moves.specs.Settle.{refused_move}
use Rattle.relocate.specs.declared.Settings.{Settings}
use Rattle.relocate.specs.Restore.{Restore}
use Rattle.relocate.specs.Stopped.{Stopped}
use Rattle.relocate.specs.Lists.{answers, final}
use Rattle.replay.specs.declared.Recorded.{Recorded}
use Rattle.replay.specs.declared.Outcome.{Outcome}
use Rattle.replay.specs.declared.Outcome.TheVariants.{Broken, Same, Differs}
use Rattle.replay.specs.Trace.{Step, Traced, broken, whole, trace}

-- of an answer 0 the count, else the place
unfoldable pub value_of : Move → ℕ
value_of m = cond (eqb m.number 0) m.count m.place

unfoldable pub as_recorded : Recorded → Move → Bool
as_recorded r m = eqb r.number m.number && eqb r.value (value_of m)

-- the first answer that differs, with the answer now; the first of these has the number i. Each step has its answer.
unfoldable pub compared : ℕ → List Step → List Move → Outcome
compared i [] ms = Same
compared i (s ∷ ss) [] = Same
compared i (s ∷ ss) (m ∷ ms) = cond (as_recorded s.recorded m) (compared (suc i) ss ms) (Differs i m.number (value_of m))

abbrev pub frames_of : List Step → List Stopped
frames_of ss = map (λ (s : Step). s.frame) ss

-- 35 before all else, with the image as lent; else by what the frames' answers are now, and the image that they leave
unfoldable pub outcome_of : Traced → (List Stopped → List Move) → Outcome
outcome_of (broken p) now = Broken p
outcome_of (whole ss) now = compared 0 ss (now (frames_of ss))

unfoldable pub image_of : Traced → List ℕ → (List Stopped → List ℕ) → List ℕ
image_of (broken p) im left = im
image_of (whole ss) im left = left (frames_of ss)

-- Under an edition of a store: R is the section, the table and the first address, which wait for settings.
-- The frames are moved one after another, also after a difference,
-- each on the image that the last one left, and with the registers of its own item.
-- Where the edition is unknown each answer is 31.
module _ (st : Store) (e : ℕ) (R : Settings → Restore) (im : List ℕ) where
  abbrev pub answers_under : List Stopped → List Move
  answers_under fs = under st e (map (λ (f : Stopped). refused_move 31 0) fs) (λ settings. answers (R settings) fs im)

  abbrev pub final_under : List Stopped → List ℕ
  final_under fs = under st e im (λ settings. final (R settings) fs im)

  unfoldable pub replay_answer : List ℕ → Outcome
  replay_answer t = outcome_of (trace t) answers_under

  unfoldable pub replay_image : List ℕ → List ℕ
  replay_image t = image_of (trace t) im final_under
