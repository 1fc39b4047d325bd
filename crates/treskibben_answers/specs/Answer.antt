-- The answers that cross the C boundary: number, place, and what was asked for.
use Rattle.std.specs.Prelude.{ℕ}
use Rattle.stackmap.specs.Verdict.{Verdict}
use Rattle.stackmap.specs.Verdict.{number_of, place_of}
use Rattle.stackmap.specs.Section.{offset_bits}
use Rattle.questions.specs.declared.Found.{Found}
use Rattle.questions.specs.declared.Located.{Located}
use Rattle.questions.specs.declared.ContentPlace.{ContentPlace}
use Rattle.questions.specs.declared.ContentPlace.TheVariants.{Nowhere, Register, Memory}
use Rattle.questions.specs.declared.LiveOutAnswer.{LiveOutAnswer}
use Rattle.questions.specs.Questions.{SignedLocation}
use Rattle.listing.specs.Listing.{Converted}
use Rattle.moves.specs.declared.Move.{Move}
use Rattle.relocate.specs.declared.Frame.{Frame}
use Rattle.relocate.specs.declared.Machine.{Machine}
use Rattle.treskibben_answers.specs.declared.Frame
use Rattle.treskibben_answers.specs.declared.Answer.{Answer}
use Rattle.treskibben_answers.specs.declared.FindAnswer
use Rattle.treskibben_answers.specs.declared.RecordPlace.{RecordPlace}
use Rattle.treskibben_answers.specs.declared.Location.{Location}
use Rattle.treskibben_answers.specs.declared.LiveOut.{LiveOut}

-- the answer of the check: document 01's number and place of the verdict, and the value 0
abbrev pub answer : Verdict → Answer
answer v = record { number = number_of v; place = place_of v; value = 0 }

-- the answer of a conversion; its value is the length written
abbrev pub converted : Converted → Answer
converted c = record { number = c.number; place = c.place; value = c.written }

-- the answer of a move; its value is the count of an accepted one
abbrev pub move_answer : Move → Answer
move_answer m = record { number = m.number; place = m.place; value = m.count }

-- a frame of a machine
abbrev pub frame_of : Machine → Frame.Frame → Frame
frame_of m f = record { machine = m; address = f.address; function = f.function }

-- The answers of the questions, field by field.

abbrev pub find_answer_of : Found → FindAnswer.FindAnswer
find_answer_of f = record { number = f.number; place = f.place; index = f.index; function = f.function; sharing = f.sharing }

abbrev pub record_place_of : Located → RecordPlace
record_place_of l = record { number = l.number; place = l.place; first = l.first; length = l.size }

-- a content place by its number at the C boundary
abbrev pub content_number : ContentPlace → ℕ
content_number Nowhere = 0
content_number Register = 1
content_number Memory = 2

-- the offset crosses as its 32 bits, which are those of an int32_t
abbrev pub location_of : SignedLocation → Location
location_of l =
    record {
      number = l.number;
      place = l.place;
      constant = l.constant;
      offset = offset_bits l.offset;
      size = l.size;
      register = l.register;
      kind = l.kind;
      content = content_number l.content;
    }

abbrev pub live_out_of : LiveOutAnswer → LiveOut
live_out_of l = record { number = l.number; place = l.place; register = l.register; size = l.size }
