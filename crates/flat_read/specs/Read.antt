-- Questions on a flat section by number: one constant, frame, frame register, record, location or live-out. Numbers count from 0 in the
-- whole array. 36 to 40 first; then 10 for no such frame or record, 11 for no such constant, frame register, location or live-out. The place is
-- always 0, and all other fields of a refused answer are 0. Flags and signed offsets are given as their bits.
use Rattle.std.specs.Prelude.{ℕ, ◌+◌, ◌*◌, cond, List, ltb}
use Rattle.flat.specs.Layout.{section_least, constant_size, frame_size, register_size, record_size, location_size, live_out_size}
use Rattle.flat.specs.Places.{frames_at, registers_at, records_at, locations_at, live_outs_at, num_constants, num_frames, num_registers, num_records, num_locations, num_live_outs}
use Rattle.flat_check.specs.Check.{flat_check, ask}
use Rattle.flat_data.specs.Data.{Frame, Register, Record, Location, LiveOut, read_constant, read_frame, read_register, read_record, read_location, read_live_out}
use Rattle.flat_read.specs.declared.ConstantAnswer.{ConstantAnswer}
use Rattle.flat_read.specs.declared.FrameAnswer.{FrameAnswer}
use Rattle.flat_read.specs.declared.RegisterAnswer.{RegisterAnswer}
use Rattle.flat_read.specs.declared.RecordAnswer.{RecordAnswer}
use Rattle.flat_read.specs.declared.LocationAnswer.{LocationAnswer}
use Rattle.flat_read.specs.declared.LiveOutAnswer.{LiveOutAnswer}

-- the item k of n, or the refusal `missing`, after the section's own
unfoldable pub asked : {A : Type 0} → List ℕ → (ℕ → A) → ℕ → ℕ → A → ℕ → A
asked s refused missing n item k = ask refused (cond (ltb k n) item (refused missing)) (flat_check s)

abbrev pub no_constant : ℕ → ConstantAnswer
no_constant n = record { number = n; place = 0; value = 0 }

abbrev pub this_constant : ℕ → ConstantAnswer
this_constant x = record { number = 0; place = 0; value = x }

unfoldable pub constant_answer : List ℕ → ℕ → ConstantAnswer
constant_answer s k = asked s no_constant 11 (num_constants s) (this_constant (read_constant s (section_least + constant_size * k))) k

abbrev pub no_frame : ℕ → FrameAnswer
no_frame n = record { number = n; place = 0; address = 0; size = 0; stack = 0; flags = 0; base = 0; registers = 0; registersat = 0; records = 0; recordsat = 0 }

abbrev pub this_frame : Frame → FrameAnswer
this_frame x = record { number = 0; place = 0; address = x.address; size = x.size; stack = x.stack; flags = x.flags; base = x.base; registers = x.registers; registersat = x.register_index; records = x.records; recordsat = x.record_index }

unfoldable pub frame_answer : List ℕ → ℕ → FrameAnswer
frame_answer s k = asked s no_frame 10 (num_frames s) (this_frame (read_frame s (frames_at s + frame_size * k))) k

abbrev pub no_register : ℕ → RegisterAnswer
no_register n = record { number = n; place = 0; register = 0; offset = 0; size = 0; flags = 0 }

abbrev pub this_register : Register → RegisterAnswer
this_register x = record { number = 0; place = 0; register = x.register; offset = x.offset; size = x.size; flags = x.flags }

unfoldable pub register_answer : List ℕ → ℕ → RegisterAnswer
register_answer s k = asked s no_register 11 (num_registers s) (this_register (read_register s (registers_at s + register_size * k))) k

abbrev pub no_record : ℕ → RecordAnswer
no_record n = record { number = n; place = 0; id = 0; offset = 0; call = 0; flags = 0; locations = 0; locationsat = 0; liveouts = 0; liveoutsat = 0 }

abbrev pub this_record : Record → RecordAnswer
this_record x = record { number = 0; place = 0; id = x.id; offset = x.offset; call = x.call; flags = x.flags; locations = x.locations; locationsat = x.location_index; liveouts = x.live_outs; liveoutsat = x.live_out_index }

unfoldable pub record_answer : List ℕ → ℕ → RecordAnswer
record_answer s k = asked s no_record 10 (num_records s) (this_record (read_record s (records_at s + record_size * k))) k

abbrev pub no_location : ℕ → LocationAnswer
no_location n = record { number = n; place = 0; kind = 0; register = 0; offset = 0 }

abbrev pub this_location : Location → LocationAnswer
this_location x = record { number = 0; place = 0; kind = x.kind; register = x.register; offset = x.offset }

unfoldable pub location_answer : List ℕ → ℕ → LocationAnswer
location_answer s k = asked s no_location 11 (num_locations s) (this_location (read_location s (locations_at s + location_size * k))) k

abbrev pub no_live_out : ℕ → LiveOutAnswer
no_live_out n = record { number = n; place = 0; register = 0; size = 0 }

abbrev pub this_live_out : LiveOut → LiveOutAnswer
this_live_out x = record { number = 0; place = 0; register = x.register; size = x.size }

unfoldable pub live_out_answer : List ℕ → ℕ → LiveOutAnswer
live_out_answer s k = asked s no_live_out 11 (num_live_outs s) (this_live_out (read_live_out s (live_outs_at s + live_out_size * k))) k
