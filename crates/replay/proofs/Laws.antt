-- The laws of a replay.
use Prim.Native.Nat.{ℕ}
use mathlib.Core.Path.{◌≡◌, refl, ap}
use mathlib.Core.Option.{Option, none, some}
use Rattle.editions.specs.declared.Settings as kept
use Rattle.editions.specs.declared.Store.{Store}
use Rattle.editions.specs.Store.{look}
use Rattle.editions_settings.specs.Under.{settings_of, by_found, under}
use Rattle.relocate.specs.declared.Settings.{Settings}
use Rattle.relocate.specs.Restore.{restore}
use Rattle.relocate.proofs.Demand.{demand3, order_free}
use Rattle.replay.specs.Replay.{compared, frames_of, outcome_of, image_of, replay_answer, replay_image}
use Rattle.replay.specs.Laws.{BrokenFirst, ReplaysApart}

pub broken_first : BrokenFirst
unfolding replay_answer replay_image outcome_of image_of
broken_first = record { answer_is = λ st e R im t p h. rw h; image_is = λ st e R im t p h. rw h }

-- what is the same under all settings is the same under an edition

by_found-same : {A : Type 0} (o : Option kept.Settings) (a : A) (k l : Settings → A) → ((x : Settings) → k x ≡ l x) → by_found o a k ≡ by_found o a l
by_found-same none a k l h = refl
by_found-same (some s) a k l h = h (settings_of s)

pub under_same : {A : Type 0} (st : Store) (e : ℕ) (a : A) (k l : Settings → A) → ((x : Settings) → k x ≡ l x) → under st e a k ≡ under st e a l
unfolding under
under_same st e a k l h = by_found-same (look e st.slots) a k l h

pub replays_apart : ReplaysApart
unfolding replay_answer replay_image outcome_of image_of
replays_apart =
    record {
      plain = λ st e s olds news first im t ss h d. rw h (ap (compared 0 ss) (under_same st e _ _ _ (λ x. (demand3 (restore s olds news first x) im (frames_of ss) d).plain)));
      any_order = λ st e s olds news first im t ss h d gs p. rw h (under_same st e im _ _ (λ x. (order_free (restore s olds news first x) im (frames_of ss) gs p d).same_image));
    }
