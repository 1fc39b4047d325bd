-- For the code alone: nothing here has to be believed.
-- The first half of refusal 38, up to where the frame registers begin; with it the frames are inside.
use Rattle.std.specs.Prelude.{ℕ, ◌+◌, ◌*◌, ◌≤◌, ◌≡◌, List, length}
use Rattle.flat.specs.Layout.{align}
use Rattle.flat.specs.Places.{constants_at, frames_at, registers_at, num_constants, num_frames}

pub record Fronts (s : List ℕ) : Type 0 where
  pub constants : constants_at s ≡ 32
  pub frames : frames_at s ≡ align 8 (constants_at s + 8 * num_constants s)
  pub registers : registers_at s ≡ align 4 (frames_at s + 28 * num_frames s)
  pub inside : registers_at s ≤ length s
