use Rattle.treskibben_answers.proofs.content_number.Goals as goal

pub returns-in-Nowhere : goal.returns-in-Nowhere
returns-in-Nowhere c = rw c.in-Nowhere.is

pub returns-in-Register : goal.returns-in-Register
returns-in-Register c = rw c.in-Register.is

pub returns-in-Memory : goal.returns-in-Memory
returns-in-Memory c = rw c.in-Memory.is
