-- For the code alone: nothing here has to be believed.
-- What is told of the layout of a record that stands at the start of s. `old` is true for version 1.
use Rattle.std.specs.Prelude.{ℕ, ◌≡◌, Bool, List, length}
use Rattle.stackmap.specs.Section.{live_outs_at, record_length, read_record}

pub record RecordLayout (old : Bool) (s : List ℕ) (locations outs begin size : ℕ) : Type 0 where
  -- how many locations and live-outs it has
  pub locations_are : locations ≡ length (read_record old s).locations
  pub outs_are : outs ≡ length (read_record old s).live_outs
  -- where the live-outs begin, counted from its first byte
  pub begins : begin ≡ live_outs_at old s
  -- how many bytes it takes
  pub ends : size ≡ record_length old s
