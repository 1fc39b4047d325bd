-- A section as data, its bytes, and what bytes are read as, in the words and order of document 01, "Section bytes".
use Rattle.std.specs.Prelude.{ℕ, zero, suc, ◌+◌, ◌*◌, ◌-◌, Bool, true, false, cond, List, [], ◌∷◌, ◌++◌, eqb, ltb, length, get_or, drop, replicate}
use Rattle.wire.specs.Word.{word}
use Rattle.stackmap.specs.Layout.{header_size, version_number, num_records_at, function_size, constant_size, record_head_size, locations_padding, live_outs_padding, location_size, negative_from, live_out_size}
use Rattle.stackmap.specs.Fields.{Field, ◌of◌, bytes_of, size, Fit, all, many}

pub record Function : Type 0 where
  pub address : ℕ
  pub stack_size : ℕ
  pub count : ℕ

-- the offset is its 32 bits: negative from 2 ^ 31 on
pub record Location : Type 0 where
  pub kind : ℕ
  pub size : ℕ
  pub register : ℕ
  pub offset : ℕ

-- the number that these bits stand for: so much up, or so much down; 4294967288 is 8 down
pub data Offset : Type 0 where
  up : ℕ → Offset
  down : ℕ → Offset

unfoldable pub as_offset : ℕ → Offset
as_offset bits = cond (ltb bits negative_from) (up bits) (down (2 * negative_from - bits))

-- and back
abbrev pub offset_bits : Offset → ℕ
offset_bits (up n) = n
offset_bits (down n) = 2 * negative_from - n

pub record LiveOut : Type 0 where
  pub register : ℕ
  pub size : ℕ

pub record Record : Type 0 where
  pub id : ℕ
  pub offset : ℕ
  pub locations : List Location
  pub live_outs : List LiveOut

-- Each function states its record count, so that a wrong one (refusal 5) can be said. `old` is true for version 1.
pub record Section : Type 0 where
  pub old : Bool
  pub functions : List Function
  pub constants : List ℕ
  pub records : List Record

-- Its bytes.

-- address, stack size, record count, 8 each
unfoldable pub function_fields : Bool → Function → List Field
function_fields true f = (8 of f.address) ∷ (8 of f.stack_size) ∷ []
function_fields false f = (8 of f.address) ∷ (8 of f.stack_size) ∷ (8 of f.count) ∷ []

unfoldable pub constant_fields : ℕ → List Field
constant_fields v = (8 of v) ∷ []

-- kind (1), zero (1), size (2), register (2), zero (2), signed offset (4)
unfoldable pub location_fields : Bool → Location → List Field
location_fields true l = (1 of l.kind) ∷ (1 of l.size) ∷ (2 of l.register) ∷ (4 of l.offset) ∷ []
location_fields false l = (1 of l.kind) ∷ (1 of 0) ∷ (2 of l.size) ∷ (2 of l.register) ∷ (2 of 0) ∷ (4 of l.offset) ∷ []

-- register (2), zero (1), size (1)
unfoldable pub live_out_fields : LiveOut → List Field
live_out_fields o = (2 of o.register) ∷ (1 of 0) ∷ (1 of o.size) ∷ []

-- ID (8), instruction offset (4), flags (2, zero here), NumLocations (2)
abbrev pub record_head : Record → List Field
record_head r = (8 of r.id) ∷ (4 of r.offset) ∷ (2 of 0) ∷ (2 of length r.locations) ∷ []

-- the padding after the locations and 2 zero bytes; NumLiveOuts (2)
abbrev pub record_middle : Bool → Record → List Field
record_middle old r = ((locations_padding old (length r.locations) + 2) of 0) ∷ (2 of length r.live_outs) ∷ []

-- the padding after the live-outs
abbrev pub record_end : Record → List Field
record_end r = (live_outs_padding (length r.live_outs) of 0) ∷ []

unfoldable pub record_fields : Bool → Record → List Field
record_fields old r =
    record_head r ++ all (location_fields old) r.locations ++ record_middle old r ++ all live_out_fields r.live_outs ++ record_end r

-- version (one byte), three zero bytes, then NumFunctions, NumConstants, NumRecords (4 bytes each)
abbrev pub section_header : Section → List Field
section_header t =
    (1 of version_number t.old) ∷ (3 of 0)
    ∷ (4 of length t.functions) ∷ (4 of length t.constants) ∷ (4 of length t.records) ∷ []

unfoldable pub section_fields : Section → List Field
section_fields t =
    section_header t ++ all (function_fields t.old) t.functions ++ all constant_fields t.constants
    ++ all (record_fields t.old) t.records

unfoldable pub encode_section : Section → List ℕ
encode_section t = bytes_of (section_fields t)

-- each number fits in its field
abbrev pub Encodable : Section → Type 0
Encodable t = Fit (section_fields t)

-- What a list of bytes is read as: each number from where the fields above put it.

-- the header's counts, 4 bytes each after the version and three zero bytes
abbrev pub num_functions : List ℕ → ℕ
num_functions s = word 4 s 4

abbrev pub num_constants : List ℕ → ℕ
num_constants s = word 4 s 8

abbrev pub num_records : List ℕ → ℕ
num_records s = word 4 s num_records_at

-- whether it is of version 1
abbrev pub is_old : List ℕ → Bool
is_old s = eqb (get_or s 0 0) (version_number true)

-- where the constants and the records begin
abbrev pub constants_at : List ℕ → ℕ
constants_at s = header_size + function_size (is_old s) * num_functions s

abbrev pub records_at : List ℕ → ℕ
records_at s = constants_at s + constant_size * num_constants s

-- version 1 states no record count
unfoldable pub read_function : Bool → List ℕ → ℕ → Function
read_function true s at = record { address = word 8 s at; stack_size = word 8 s (at + 8); count = 0 }
read_function false s at = record { address = word 8 s at; stack_size = word 8 s (at + 8); count = word 8 s (at + 16) }

unfoldable pub read_constant : List ℕ → ℕ → ℕ
read_constant s at = word 8 s at

unfoldable pub read_location : Bool → List ℕ → ℕ → Location
read_location true s at = record { kind = word 1 s at; size = word 1 s (at + 1); register = word 2 s (at + 2); offset = word 4 s (at + 4) }
read_location false s at = record { kind = word 1 s at; size = word 2 s (at + 2); register = word 2 s (at + 4); offset = word 4 s (at + 8) }

unfoldable pub read_live_out : List ℕ → ℕ → LiveOut
read_live_out s at = record { register = word 2 s at; size = word 1 s (at + 3) }

-- The record at the start of s.

abbrev pub num_locations : List ℕ → ℕ
num_locations s = word 2 s 14

-- where the locations and their padding end
abbrev pub locations_end : Bool → List ℕ → ℕ
locations_end old s = record_head_size + location_size old * num_locations s + locations_padding old (num_locations s)

abbrev pub num_live_outs : Bool → List ℕ → ℕ
num_live_outs old s = word 2 s (locations_end old s + 2)

abbrev pub live_outs_at : Bool → List ℕ → ℕ
live_outs_at old s = locations_end old s + 4

unfoldable pub record_length : Bool → List ℕ → ℕ
record_length old s = live_outs_at old s + live_out_size * num_live_outs old s + live_outs_padding (num_live_outs old s)

unfoldable pub read_record : Bool → List ℕ → Record
read_record old s =
    record {
      id = word 8 s 0;
      offset = word 4 s 8;
      locations = many (read_location old) (location_size old) (num_locations s) s record_head_size;
      live_outs = many read_live_out live_out_size (num_live_outs old s) s (live_outs_at old s);
    }

-- n records from `at`
unfoldable pub read_records : Bool → ℕ → List ℕ → ℕ → List Record
read_records old zero s at = []
read_records old (suc n) s at = read_record old (drop at s) ∷ read_records old n s (at + record_length old (drop at s))

unfoldable pub read_functions : List ℕ → List Function
read_functions s = many (read_function (is_old s)) (function_size (is_old s)) (num_functions s) s header_size

unfoldable pub read_section : List ℕ → Section
read_section s =
    record {
      old = is_old s;
      functions = read_functions s;
      constants = many read_constant constant_size (num_constants s) s (constants_at s);
      records = read_records (is_old s) (num_records s) s (records_at s);
    }

-- what is read past the last function
abbrev pub no_function : Function
no_function = record { address = 0; stack_size = 0; count = 0 }

-- Records belong to functions in order, as many as each record count says. Version 1 does not say which function owns a record.

-- a function's number, and the function
pub record Owner : Type 0 where
  pub number : ℕ
  pub function : Function

-- the owner of each record, in order; the first function has the number i
unfoldable pub owners : ℕ → List Function → List Owner
owners i [] = []
owners i (f ∷ fs) = replicate f.count (record { number = i; function = f }) ++ owners (suc i) fs

-- the owner of a record of version 1: none is known, and its address counts from 0, so that a record's address is its offset
abbrev pub nobody : Owner
nobody = record { number = 0; function = no_function }

-- the owners of n records
unfoldable pub record_owners : Bool → ℕ → List Function → List Owner
record_owners true n fs = replicate n nobody
record_owners false n fs = owners 0 fs

-- the record counts, added exactly
unfoldable pub counted : List Function → ℕ
counted [] = 0
counted (f ∷ fs) = f.count + counted fs

-- a record's number, first byte, owner and content
pub record Entry : Type 0 where
  pub number : ℕ
  pub first : ℕ
  pub owner : Owner
  pub body : Record

-- its function's address plus its instruction offset
unfoldable pub address : Entry → ℕ
address e = e.owner.function.address + e.body.offset

-- from the record number k at the place `at`
unfoldable pub entries_from : Bool → ℕ → ℕ → List Owner → List Record → List Entry
entries_from old k at [] rs = []
entries_from old k at (o ∷ os) [] = []
entries_from old k at (o ∷ os) (r ∷ rs) =
    record { number = k; first = at; owner = o; body = r } ∷ entries_from old (suc k) (at + size (record_fields old r)) os rs

unfoldable pub entries_of : Section → List Entry
entries_of t =
    entries_from t.old 0 (header_size + function_size t.old * length t.functions + constant_size * length t.constants)
    (record_owners t.old (length t.records) t.functions)
    t.records

-- the records of an accepted section, in order: the meaning of every walk
unfoldable pub entries : List ℕ → List Entry
entries s = entries_of (read_section s)
