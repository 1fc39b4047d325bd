-- A flat section as data: what is read from its bytes, and the bytes of the data.
use Rattle.std.specs.Prelude.{ℕ, zero, suc, ◌+◌, ◌*◌, ◌-◌, List, [], ◌∷◌, ◌++◌, length}
use Rattle.wire.specs.Word.{word, bytes}
use Rattle.flat.specs.Layout.{section_least, version_number, header_reserved_size, header_padding, constant_size, frame_size, function_size_at, stack_size_at, frame_flags_at, base_register_at, register_count_at, register_index_at, record_count_at, record_index_at, register_size, register_offset_at, register_size_at, register_flags_at, record_size, record_align, instruction_offset_at, call_size_at, record_flags_at, location_count_at, location_index_at, live_out_count_at, live_out_index_at, location_size, location_align, location_register_at, location_offset_at, live_out_size, live_out_size_at, align}
use Rattle.flat.specs.Places.{frames_at, registers_at, records_at, locations_at, live_outs_at, num_constants, num_frames, num_registers, num_records, num_locations, num_live_outs}

-- Flags and signed offsets are held as their bits.

pub record Frame : Type 0 where
  pub address : ℕ
  pub size : ℕ
  pub stack : ℕ
  pub flags : ℕ
  pub base : ℕ
  pub registers : ℕ
  pub register_index : ℕ
  pub records : ℕ
  pub record_index : ℕ

pub record Register : Type 0 where
  pub register : ℕ
  pub offset : ℕ
  pub size : ℕ
  pub flags : ℕ

pub record Record : Type 0 where
  pub id : ℕ
  pub offset : ℕ
  pub call : ℕ
  pub flags : ℕ
  pub locations : ℕ
  pub location_index : ℕ
  pub live_outs : ℕ
  pub live_out_index : ℕ

pub record Location : Type 0 where
  pub kind : ℕ
  pub register : ℕ
  pub offset : ℕ

pub record LiveOut : Type 0 where
  pub register : ℕ
  pub size : ℕ

pub record Section : Type 0 where
  pub constants : List ℕ
  pub frames : List Frame
  pub registers : List Register
  pub records : List Record
  pub locations : List Location
  pub live_outs : List LiveOut

-- What is read at a place.

unfoldable pub read_constant : List ℕ → ℕ → ℕ
read_constant s at = word 8 s at

unfoldable pub read_frame : List ℕ → ℕ → Frame
read_frame s at =
    record {
      address = word 8 s at;
      size = word 4 s (at + function_size_at);
      stack = word 4 s (at + stack_size_at);
      flags = word 2 s (at + frame_flags_at);
      base = word 2 s (at + base_register_at);
      registers = word 2 s (at + register_count_at);
      register_index = word 2 s (at + register_index_at);
      records = word 2 s (at + record_count_at);
      record_index = word 2 s (at + record_index_at);
    }

unfoldable pub read_register : List ℕ → ℕ → Register
read_register s at =
    record {
      register = word 2 s at;
      offset = word 2 s (at + register_offset_at);
      size = word 1 s (at + register_size_at);
      flags = word 1 s (at + register_flags_at);
    }

unfoldable pub read_record : List ℕ → ℕ → Record
read_record s at =
    record {
      id = word 8 s at;
      offset = word 4 s (at + instruction_offset_at);
      call = word 1 s (at + call_size_at);
      flags = word 1 s (at + record_flags_at);
      locations = word 2 s (at + location_count_at);
      location_index = word 2 s (at + location_index_at);
      live_outs = word 2 s (at + live_out_count_at);
      live_out_index = word 2 s (at + live_out_index_at);
    }

unfoldable pub read_location : List ℕ → ℕ → Location
read_location s at = record { kind = word 1 s at; register = word 2 s (at + location_register_at); offset = word 4 s (at + location_offset_at) }

unfoldable pub read_live_out : List ℕ → ℕ → LiveOut
read_live_out s at = record { register = word 2 s at; size = word 1 s (at + live_out_size_at) }

-- n items of `step` bytes each from `at`
unfoldable pub many : {A : Type 0} → (List ℕ → ℕ → A) → ℕ → ℕ → List ℕ → ℕ → List A
many read step zero s at = []
many read step (suc n) s at = read s at ∷ many read step n s (at + step)

unfoldable pub read_section : List ℕ → Section
read_section s =
    record {
      constants = many read_constant constant_size (num_constants s) s section_least;
      frames = many read_frame frame_size (num_frames s) s (frames_at s);
      registers = many read_register register_size (num_registers s) s (registers_at s);
      records = many read_record record_size (num_records s) s (records_at s);
      locations = many read_location location_size (num_locations s) s (locations_at s);
      live_outs = many read_live_out live_out_size (num_live_outs s) s (live_outs_at s);
    }

-- The bytes of the data.

unfoldable pub constant_bytes : ℕ → List ℕ
constant_bytes v = bytes 8 v

unfoldable pub frame_bytes : Frame → List ℕ
frame_bytes f =
    bytes 8 f.address ++ bytes 4 f.size ++ bytes 4 f.stack ++ bytes 2 f.flags ++ bytes 2 f.base
    ++ bytes 2 f.registers ++ bytes 2 f.register_index ++ bytes 2 f.records ++ bytes 2 f.record_index

unfoldable pub register_bytes : Register → List ℕ
register_bytes r = bytes 2 r.register ++ bytes 2 r.offset ++ bytes 1 r.size ++ bytes 1 r.flags

unfoldable pub record_bytes : Record → List ℕ
record_bytes r =
    bytes 8 r.id ++ bytes 4 r.offset ++ bytes 1 r.call ++ bytes 1 r.flags
    ++ bytes 2 r.locations ++ bytes 2 r.location_index ++ bytes 2 r.live_outs ++ bytes 2 r.live_out_index

-- the second byte is reserved
unfoldable pub location_bytes : Location → List ℕ
location_bytes l = bytes 1 l.kind ++ bytes 1 0 ++ bytes 2 l.register ++ bytes 4 l.offset

-- the third byte is reserved
unfoldable pub live_out_bytes : LiveOut → List ℕ
live_out_bytes o = bytes 2 o.register ++ bytes 1 0 ++ bytes 1 o.size

-- the bytes of each item of a list, one after the other
unfoldable pub all : {A : Type 0} → (A → List ℕ) → List A → List ℕ
all show [] = []
all show (x ∷ xs) = show x ++ all show xs

-- Where each array begins, and where the frame registers and the records end.

module _ (t : Section) where
  unfoldable pub frames_start : ℕ
  frames_start = section_least + constant_size * length t.constants

  unfoldable pub registers_start : ℕ
  registers_start = frames_start + frame_size * length t.frames

  unfoldable pub registers_stop : ℕ
  registers_stop = registers_start + register_size * length t.registers

  unfoldable pub records_start : ℕ
  records_start = align record_align registers_stop

  unfoldable pub records_stop : ℕ
  records_stop = records_start + record_size * length t.records

  unfoldable pub locations_start : ℕ
  locations_start = align location_align records_stop

  unfoldable pub live_outs_start : ℕ
  live_outs_start = locations_start + location_size * length t.locations

  -- version, reserved bytes, six offsets, padding
  unfoldable pub header_bytes : List ℕ
  header_bytes =
      bytes 1 version_number ++ bytes header_reserved_size 0
      ++ bytes 4 section_least ++ bytes 4 frames_start ++ bytes 4 registers_start ++ bytes 4 records_start ++ bytes 4 locations_start
      ++ bytes 4 live_outs_start ++ bytes header_padding 0

  unfoldable pub encode_section : List ℕ
  encode_section =
      header_bytes ++ all constant_bytes t.constants ++ all frame_bytes t.frames
      ++ all register_bytes t.registers ++ bytes (records_start - registers_stop) 0
      ++ all record_bytes t.records ++ bytes (locations_start - records_stop) 0
      ++ all location_bytes t.locations ++ all live_out_bytes t.live_outs
