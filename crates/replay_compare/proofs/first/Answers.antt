use mathlib.Core.Path.{◌≡◌, refl}
use Rattle.replay.specs.declared.Outcome.{Outcome}
use Rattle.replay.specs.declared.Outcome.TheVariants.{Broken, Same, Differs}
use Rattle.replay.specs.Code.{or_else}
use Rattle.replay_compare.proofs.first.Goals as goal

known_first : (kept next : Outcome) → (kept ≡ Same → ⊥) → kept ≡ or_else kept next
known_first (Broken p) next n = refl
known_first Same next n = absurd (n refl)
known_first (Differs i m v) next n = refl

pub returns-in_default : goal.returns-in_default
returns-in_default c = known_first _ _ c.in_default.not-Same
