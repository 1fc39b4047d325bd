-- For the code alone: nothing here has to be believed.
-- What a quick look at a pair tells.
use Rattle.std.specs.Prelude.{ℕ, ◌+◌, ◌*◌, ◌≡◌, true}
use Rattle.stackmap.specs.Section.{Location}
use Rattle.relocate.specs.declared.Machine.{Machine}
use Rattle.relocate.specs.Statepoint.{Pair, is_frame_or_stack}

-- the first eight bytes of a location of version 3 that is one slot in memory, by its register: kind 3, a zero byte, the size 8 in two bytes,
-- the register in two, two zero bytes
abbrev pub slot_word : ℕ → ℕ
slot_word r = 3 + 65536 * 8 + 4294967296 * r

-- a location is one slot in memory, whatever its offset is
pub record OneSlot (m : Machine) (l : Location) : Type 0 where
  pub kind_is : l.kind ≡ 3
  pub size_is : l.size ≡ 8
  pub register_holds : is_frame_or_stack m l.register ≡ true

-- both locations of a pair are
pub record Plain (m : Machine) (p : Pair) : Type 0 where
  pub base_is : OneSlot m p.base
  pub derived_is : OneSlot m p.derived
