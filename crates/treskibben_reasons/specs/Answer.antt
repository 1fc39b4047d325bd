-- A reason as it crosses the C boundary: reason, number, place, pair, old base and new base, with zeros where there is nothing to tell.
use Rattle.stackmap.specs.Verdict.{Verdict}
use Rattle.questions.specs.Questions.{ask}
use Rattle.explain.specs.declared.Reason.{Reason}
use Rattle.explain.specs.declared.Reason.TheVariants.{Unlisted, OnlyBase, NullBase, Moved, Refused}
use Rattle.treskibben_reasons.specs.declared.ReasonAnswer.{ReasonAnswer}

-- the reasons' numbers: 0 unlisted, 1 listed only as base, 2 null base, 3 moved, 4 refused
abbrev pub reason_answer : Reason → ReasonAnswer
reason_answer Unlisted = record { reason = 0; number = 0; place = 0; pair = 0; old = 0; new = 0 }
reason_answer OnlyBase = record { reason = 1; number = 0; place = 0; pair = 0; old = 0; new = 0 }
reason_answer NullBase = record { reason = 2; number = 0; place = 0; pair = 0; old = 0; new = 0 }
reason_answer (Moved p o n) = record { reason = 3; number = 0; place = 0; pair = p; old = o; new = n }
reason_answer (Refused n p) = record { reason = 4; number = n; place = p; pair = 0; old = 0; new = 0 }

-- a machine's number that is none is 33, directly after the section's own refusals
abbrev pub unknown_machine : Verdict → Reason
unknown_machine v = ask Refused (Refused 33 0) v
