-- What crosses the C boundary of the calls with an address index.
use Rattle.index.specs.Index.{Listed}
use Rattle.treskibben_answers.specs.declared.Answer.{Answer}

-- the answer of a call that writes numbers into a lent list; its value is how many it wrote
abbrev pub listed : Listed → Answer
listed l = record { number = l.number; place = l.place; value = l.written }
