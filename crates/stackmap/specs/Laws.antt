-- The two laws that tie bytes to data (`proofs/WellFormed`), and what the numbers of an answer mean (`proofs/Numbers`).
use Rattle.std.specs.Prelude.{ℕ, ◌^◌, ◌<◌, ◌≡◌, List}
use Rattle.wire.specs.Word.{Bytes}
use Rattle.stackmap.specs.Verdict.{number_of}
use Rattle.stackmap.specs.Section.{Section, encode_section, Encodable, read_section, down, as_offset, offset_bits}
use Rattle.stackmap.specs.Check.{section_check, Accepted}
use Rattle.stackmap.specs.Fault.{section_fault, WellFormed}

-- accepted lists of bytes and well-formed sections correspond one to one
pub record OneToOne : Type 0 where
  pub read_well : (s : List ℕ) → Bytes s → Accepted s → WellFormed (read_section s)
  pub encode_read : (s : List ℕ) → Bytes s → Accepted s → encode_section (read_section s) ≡ s
  pub encode_bytes : (t : Section) → Bytes (encode_section t)
  pub encode_accepted : (t : Section) → WellFormed t → Accepted (encode_section t)
  pub read_encode : (t : Section) → WellFormed t → read_section (encode_section t) ≡ t

-- bytes that are built get the refusal of the section that they are built from
abbrev pub BuiltRefusal : Type 0
BuiltRefusal = (t : Section) → Encodable t → section_check (encode_section t) ≡ section_fault t

-- a section is accepted exactly when its refusal number is 0
pub record AcceptedIsZero : Type 0 where
  pub accepted_zero : (s : List ℕ) → Accepted s → number_of (section_check s) ≡ 0
  pub zero_accepted : (s : List ℕ) → number_of (section_check s) ≡ 0 → Accepted s

-- the 32 bits of an offset are one signed number; those of -8 are 4294967288
pub record SignedOffsets : Type 0 where
  pub one_number : (bits : ℕ) → bits < 2 ^ 32 → offset_bits (as_offset bits) ≡ bits
  pub minus_eight : as_offset 4294967288 ≡ down 8
