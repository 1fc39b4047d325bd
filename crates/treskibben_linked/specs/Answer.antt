-- What crosses the C boundary of the calls on linked sections.
use Rattle.linked.specs.declared.Maps.{Maps}
use Rattle.linked.specs.declared.FoundIn.{FoundIn}
use Rattle.linked.specs.Linked.{MapsListed}
use Rattle.treskibben_answers.specs.declared.Answer.{Answer}
use Rattle.treskibben_linked.specs.declared.LinkedAnswer.{LinkedAnswer}

-- the answer of the call that lists the maps; its value is how many there are
abbrev pub maps_answer : MapsListed → Answer
maps_answer l = record { number = l.number; place = l.place; value = l.count }

abbrev pub count_answer : Maps → Answer
count_answer m = record { number = m.number; place = m.place; value = m.count }

abbrev pub found_answer : FoundIn → LinkedAnswer
found_answer f =
    record { number = f.number; place = f.place; map = f.map; index = f.index; function = f.function; sharing = f.sharing }
