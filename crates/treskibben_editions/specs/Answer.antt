-- The answers of a store that cross the C boundary: number, place, which is always 0, and what was asked for.
use Rattle.editions.specs.declared.Made.{Made}
use Rattle.editions.specs.declared.Retired.{Retired}
use Rattle.editions.specs.declared.Read.{Read}
use Rattle.treskibben_editions.specs.declared.MakeAnswer.{MakeAnswer}
use Rattle.treskibben_editions.specs.declared.RetireAnswer.{RetireAnswer}
use Rattle.treskibben_editions.specs.declared.ReadAnswer.{ReadAnswer}

abbrev pub make_answer : Made → MakeAnswer
make_answer m = record { number = m.number; place = 0; edition = m.edition; store = m.store }

abbrev pub retire_answer : Retired → RetireAnswer
retire_answer t = record { number = t.number; place = 0; store = t.store }

abbrev pub read_answer : Read → ReadAnswer
read_answer d = record { number = d.number; place = 0; settings = d.settings }
