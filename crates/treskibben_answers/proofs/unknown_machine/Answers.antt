use Rattle.questions.specs.Questions.{ask}
use Rattle.treskibben_answers.proofs.unknown_machine.Goals as goal

pub returns-in-Ok : goal.returns-in-Ok
unfolding ask
returns-in-Ok c = rw c.in-Ok.is

pub returns-in-Err : goal.returns-in-Err
unfolding ask
returns-in-Err c = rw (c.in-Err.is, c.number.ensures)
