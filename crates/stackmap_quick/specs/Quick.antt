-- For the code alone: nothing here has to be believed.
-- What quick looks at a record tell.
use Rattle.std.specs.Prelude.{ℕ, ◌+◌, ◌*◌, ◌≤◌, ◌≡◌, Bool, List, length}
use Rattle.wire.specs.Word.{word}
use Rattle.glance.specs.Look.{Outs}
use Rattle.stackmap.specs.Verdict.{Valid}
use Rattle.stackmap.specs.Layout.{address_most, location_size, live_outs_padding}
use Rattle.stackmap.specs.Section.{num_locations}
use Rattle.stackmap.specs.Record.{locations}

-- what stands after the locations, from `end` on, is right, and the record ends at `next`
pub record Ending (s : List ℕ) (end next : ℕ) : Type 0 where
  pub zeros : word 2 s end ≡ 0
  pub outs : Outs s (end + 4) (word 2 s (end + 2))
  pub padding : word (live_outs_padding (word 2 s (end + 2))) s (end + 4 + 4 * word 2 s (end + 2)) ≡ 0
  pub ends : next ≡ end + 4 + 4 * word 2 s (end + 2) + live_outs_padding (word 2 s (end + 2))
  pub inside : next ≤ length s

-- what stands after locations that end at `pad` is right, with so much padding, and the record ends at `next`
pub record Closed (s : List ℕ) (pad padding next : ℕ) : Type 0 where
  pub zeros : word padding s pad ≡ 0
  pub ending : Ending s (pad + padding) next

-- head and locations of the record at the start of `t`, of a function at `a`, are right
pub record Begun (old : Bool) (t : List ℕ) (c a : ℕ) : Type 0 where
  pub flags : word 2 t 12 ≡ 0
  pub reach : a + word 4 t 8 ≤ address_most
  pub located : locations old (num_locations t) t c 16 ≡ Valid (16 + location_size old * num_locations t)
