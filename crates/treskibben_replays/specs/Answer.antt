-- A replay's outcome as it crosses the C boundary: number and place of a broken trace; whether an answer differs, which one, and what it is now.
use Rattle.replay.specs.declared.Outcome.{Outcome}
use Rattle.replay.specs.declared.Outcome.TheVariants.{Broken, Same, Differs}
use Rattle.treskibben_replays.specs.declared.ReplayAnswer.{ReplayAnswer}

abbrev pub outcome_answer : Outcome → ReplayAnswer
outcome_answer (Broken p) = record { number = 35; place = p; differs = 0; item = 0; now = 0; value = 0 }
outcome_answer Same = record { number = 0; place = 0; differs = 0; item = 0; now = 0; value = 0 }
outcome_answer (Differs i n v) = record { number = 0; place = 0; differs = 1; item = i; now = n; value = v }
