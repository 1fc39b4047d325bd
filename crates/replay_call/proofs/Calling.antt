-- The call, from its stages: 35, 31, and the frames.
use Prim.Native.Nat.{ℕ, ◌-◌, ◌<◌}
use mathlib.Core.Path.{◌≡◌, sym, ap, ◌∙◌}
use mathlib.Core.List.{List, map}
use native.Mathlib.Omega.{arith}
use Rattle.editions.specs.declared.Store.{Store}
use Rattle.editions_settings.specs.declared.NamedSettings.{NamedSettings}
use Rattle.editions_settings.specs.Code.{Names}
use Rattle.editions_settings.proofs.Laws.{under-refused, under-found}
use Rattle.moves.specs.Settle.{refused_move}
use Rattle.relocate.specs.declared.Settings.{Settings}
use Rattle.relocate.specs.Restore.{Restore}
use Rattle.relocate.specs.Stopped.{Stopped}
use Rattle.relocate.specs.Lists.{answers, final}
use Rattle.replay.specs.declared.Outcome.{Outcome}
use Rattle.replay.specs.declared.Outcome.TheVariants.{Broken, Same}
use Rattle.replay.specs.Trace.{Step, broken, whole, trace}
use Rattle.replay.specs.Replay.{compared, frames_of, outcome_of, image_of, answers_under, final_under, replay_answer, replay_image}
use Rattle.replay.specs.Code.{steps_from, or_else, compared_alike}

module _ (st : Store) (e : ℕ) (R : Settings → Restore) (im t : List ℕ) where
  pub trace-broken : (p : ℕ) → trace t ≡ broken p → (Broken p ≡ replay_answer st e R im t) × (im ≡ replay_image st e R im t)
  unfolding replay_answer replay_image outcome_of image_of
  trace-broken p h = (rw h, rw h)

  pub trace-whole : (ss : List Step) → trace t ≡ whole ss → {o : Outcome} {after : List ℕ}
      → (o ≡ compared 0 ss (answers_under st e R im (frames_of ss))) × (after ≡ final_under st e R im (frames_of ss))
      → (o ≡ replay_answer st e R im t) × (after ≡ replay_image st e R im t)
  unfolding replay_answer replay_image outcome_of image_of
  trace-whole ss h g = (rw h g.0, rw h g.1)

  module _ (n : ℕ) {r : NamedSettings} (names : Names st e r) where
    abbrev ss : List Step
    ss = steps_from t n 0

    pub edition-unknown : 0 < r.number → {o : Outcome} → o ≡ or_else Same (compared_alike t (n - 0) 0 (refused_move 31 0))
        → (o ≡ compared 0 ss (answers_under st e R im (frames_of ss))) × (im ≡ final_under st e R im (frames_of ss))
    unfolding compared_alike
    edition-unknown h d =
        let z : n - 0 ≡ n = omega arith in (
          rw z at d ∙ ap (compared 0 ss) (sym (under-refused names h (map (λ (f : Stopped). refused_move 31 0) (frames_of ss)) (λ settings. answers (R settings) (frames_of ss) im))),
          sym (under-refused names h im (λ settings. final (R settings) (frames_of ss) im)),
        )

    pub edition-found : r.number ≡ 0 → {o : Outcome} {after : List ℕ}
        → (o ≡ compared 0 ss (answers (R r.settings) (frames_of ss) im)) × (after ≡ final (R r.settings) (frames_of ss) im)
        → (o ≡ compared 0 ss (answers_under st e R im (frames_of ss))) × (after ≡ final_under st e R im (frames_of ss))
    edition-found h d = (
      d.0 ∙ ap (compared 0 ss) (sym (under-found names h (map (λ (f : Stopped). refused_move 31 0) (frames_of ss)) (λ settings. answers (R settings) (frames_of ss) im))),
      d.1 ∙ sym (under-found names h im (λ settings. final (R settings) (frames_of ss) im)),
    )
