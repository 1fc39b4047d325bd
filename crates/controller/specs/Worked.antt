-- Sections that keep the profile and sections that don't, worked out.
use Rattle.std.specs.Prelude.{ℕ, zero, suc, ◌≡◌, Bool, true, false, List, [], ◌∷◌, map, length}
use Rattle.stackmap.specs.Verdict.{Verdict}
use Rattle.stackmap.specs.Verdict.{Valid, Refused}
use Rattle.stackmap.specs.Section.{Location, Record, encode_section}
use Rattle.relocate.specs.declared.Machine.{Machine}
use Rattle.relocate.specs.declared.Machine.TheVariants.{Amd64, Aarch64}
use Rattle.controller.specs.Profile.{profile_check}

abbrev pub zero_constant : Location
zero_constant = record { kind = 4; size = 8; register = 0; offset = 0 }

-- memory of so many bytes at this offset from a register; 7 is RSP, and 3 is RBX
abbrev pub in_memory : ℕ → ℕ → ℕ → Location
in_memory size register offset = record { kind = 3; size = size; register = register; offset = offset }

-- a record at this offset, by its locations; a statepoint without deopt locations, by those of its pairs
abbrev pub record_at : ℕ → List Location → Record
record_at offset ls = record { id = 7; offset = offset; locations = ls; live_outs = [] }

abbrev pub statepoint_at : ℕ → List Location → Record
statepoint_at offset ls = record_at offset (zero_constant ∷ zero_constant ∷ zero_constant ∷ ls)

-- a pair with itself
abbrev pub self_pair : Location → List Location
self_pair l = l ∷ l ∷ []

-- n statepoints without pairs, at rising offsets
unfoldable pub rising : ℕ → ℕ → List Record
rising zero offset = []
rising (suc n) offset = statepoint_at offset [] ∷ rising n (suc offset)

-- one function with these records
unfoldable pub section_of : Bool → List Record → List ℕ
section_of old rs =
    encode_section (record { old = old; functions = record { address = 0x1000; stack_size = 24; count = length rs } ∷ []; constants = []; records = rs })

infix 30 ◌gives◌
pub record Row : Type 0 where
  pub machine : Machine
  pub old : Bool
  pub records : List Record
  pub verdict : Verdict

abbrev pub ◌gives◌ : List Record → Verdict → Row
rs gives v = record { machine = Amd64; old = false; records = rs; verdict = v }

unfoldable pub rows : List Row
rows =
    ([] gives Valid 40)
    ∷ record { machine = Aarch64; old = false; records = []; verdict = Refused 50 0 }
    ∷ record { machine = Amd64; old = true; records = []; verdict = Refused 50 0 }
    {- a record that is no statepoint -}
    ∷ (statepoint_at 1 [] ∷ record_at 2 [] ∷ [] gives Refused 50 1)
    {- equal addresses, and falling ones -}
    ∷ (statepoint_at 1 [] ∷ statepoint_at 1 [] ∷ [] gives Refused 50 1)
    ∷ (statepoint_at 2 [] ∷ statepoint_at 1 [] ∷ [] gives Refused 50 1)
    {- 18 is a breach, and 19 is none -}
    ∷ (statepoint_at 1 (self_pair (in_memory 8 3 8)) ∷ [] gives Refused 50 0)
    ∷ (statepoint_at 1 (self_pair (in_memory 8 7 8000)) ∷ [] gives Valid 128)
    {- 16 pointers in one pair, and 17 with a null pair -}
    ∷ (statepoint_at 1 (self_pair (in_memory 128 7 8)) ∷ [] gives Valid 128)
    ∷ (statepoint_at 1 (zero_constant ∷ zero_constant ∷ self_pair (in_memory 128 7 8)) ∷ [] gives Refused 50 0)
    {- 64 records, and 65 -}
    ∷ (rising 64 1 gives Valid 4136)
    ∷ (rising 65 1 gives Refused 50 64)
    ∷ []

unfoldable pub works_out : Row → Verdict
works_out r = profile_check r.machine (section_of r.old r.records)

abbrev pub WorkedProfile : Type 0
WorkedProfile = map works_out rows ≡ map (λ r. r.verdict) rows
