use Rattle.questions.specs.Questions.{ask}
use Rattle.restores.proofs.unknown_machine.Goals as goal

pub returns-in-Ok : goal.returns-in-Ok
unfolding ask
returns-in-Ok c = rw c.in-Ok.is c.refused.ensures

pub returns-in-Err : goal.returns-in-Err
unfolding ask
returns-in-Err c = rw c.in-Err.is (rw c.number.ensures at c.refused-in-Err.ensures)
