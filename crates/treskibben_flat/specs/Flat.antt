-- What crosses the C boundary: the definitions' own answers, field by field.
use Rattle.std.specs.Prelude.{ℕ}
use Rattle.flat_match.specs.declared.MatchAnswer.{MatchAnswer}
use Rattle.flat_read.specs.declared.ConstantAnswer.{ConstantAnswer}
use Rattle.flat_read.specs.declared.FrameAnswer.{FrameAnswer}
use Rattle.flat_read.specs.declared.RegisterAnswer.{RegisterAnswer}
use Rattle.flat_read.specs.declared.RecordAnswer.{RecordAnswer}
use Rattle.flat_read.specs.declared.LocationAnswer.{LocationAnswer}
use Rattle.flat_read.specs.declared.LiveOutAnswer.{LiveOutAnswer}
use Rattle.treskibben_flat.specs.declared.Answer.{Answer}
use Rattle.treskibben_flat.specs.declared.Match.{Match}
use Rattle.treskibben_flat.specs.declared.Frame.{Frame}
use Rattle.treskibben_flat.specs.declared.Register.{Register}
use Rattle.treskibben_flat.specs.declared.Record.{Record}
use Rattle.treskibben_flat.specs.declared.Location.{Location}
use Rattle.treskibben_flat.specs.declared.LiveOut.{LiveOut}

-- the answer of the check, whose place is always 0
abbrev pub checked : ℕ → Answer
checked n = record { number = n; place = 0; value = 0 }

abbrev pub matched : MatchAnswer → Match
matched f = record { number = f.number; place = f.place; frame = f.frame; index = f.index }

abbrev pub constant_of : ConstantAnswer → Answer
constant_of c = record { number = c.number; place = c.place; value = c.value }

abbrev pub frame_of : FrameAnswer → Frame
frame_of f =
    record {
      number = f.number;
      place = f.place;
      address = f.address;
      size = f.size;
      stack = f.stack;
      flags = f.flags;
      base = f.base;
      registers = f.registers;
      registersat = f.registersat;
      records = f.records;
      recordsat = f.recordsat;
    }

abbrev pub register_of : RegisterAnswer → Register
register_of r =
    record {
      number = r.number;
      place = r.place;
      register = r.register;
      offset = r.offset;
      size = r.size;
      flags = r.flags;
    }

abbrev pub record_of : RecordAnswer → Record
record_of r =
    record {
      number = r.number;
      place = r.place;
      id = r.id;
      offset = r.offset;
      locations = r.locations;
      locationsat = r.locationsat;
      liveouts = r.liveouts;
      liveoutsat = r.liveoutsat;
      call = r.call;
      flags = r.flags;
    }

abbrev pub location_of : LocationAnswer → Location
location_of l = record { number = l.number; place = l.place; offset = l.offset; register = l.register; kind = l.kind }

abbrev pub live_out_of : LiveOutAnswer → LiveOut
live_out_of l = record { number = l.number; place = l.place; register = l.register; size = l.size }
