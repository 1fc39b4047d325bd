-- The numbers of document 01, "Statepoints and relocation", each named once. The limits of the table and of the pairs are those
-- of the crate below.
use Rattle.std.specs.Prelude.{ℕ}
use Rattle.relocate.specs.declared.Machine.{Machine}
use Rattle.relocate.specs.declared.Machine.TheVariants.{Amd64, Aarch64}

-- an image's length
abbrev pub image_most : ℕ
image_most = 1048576

-- a frame's registers, by their DWARF numbers
abbrev pub register_count : ℕ
register_count = 32

-- a machine's frame pointer and stack pointer, by their DWARF numbers: on AMD64 RBP and RSP, on AArch64 x29 and sp
abbrev pub frame_pointer : Machine → ℕ
frame_pointer Amd64 = 6
frame_pointer Aarch64 = 29

abbrev pub stack_pointer : Machine → ℕ
stack_pointer Amd64 = 7
stack_pointer Aarch64 = 31

-- the registers of a machine that hold one pointer each are those below this number
abbrev pub general_registers : Machine → ℕ
general_registers Amd64 = 16
general_registers Aarch64 = 32

-- location kinds: in a register, memory at register + offset, and the offset sign-extended
abbrev pub kind_register : ℕ
kind_register = 1

abbrev pub kind_indirect : ℕ
kind_indirect = 3

abbrev pub kind_constant : ℕ
kind_constant = 4

-- the locations at a statepoint's head; the last of them holds the deopt count
abbrev pub head_locations : ℕ
head_locations = 3

abbrev pub deopt_at : ℕ
deopt_at = 2

-- pointers of one location
abbrev pub location_most : ℕ
location_most = 256
