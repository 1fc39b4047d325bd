use Rattle.stackmap.specs.Section.{entries}
use Rattle.index_answers.proofs.Writes.{Writing}
use Rattle.index_answers.proofs.answer_marked.Given as goal

-- Each address is looked up, and its five numbers are written behind those before.
abbrev pub invariant-loop-i : goal.invariant-loop-i
invariant-loop-i l = Writing (entries l.s) l.addresses l.initial.answers l.answers l.i
