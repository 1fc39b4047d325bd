-- For the code alone: nothing here has to be believed.
-- What a quick look at locations and live-outs tells, in words of bytes. A crate above holds it to its own definitions; no contract of an
-- entry point speaks of it.
use Rattle.std.specs.Prelude.{◌≡◌, ℕ, ◌+◌, ◌-◌, ◌*◌, ◌%◌, ◌^◌, ◌<◌, ◌≤◌, Bool, true, false, List, bit_or, slice_index}
use Rattle.wire.specs.Word.{word}

-- Where the versions differ, `old` is true for version 1.

-- the size of a location
abbrev pub size : Bool → ℕ
size true = 8
size false = 12

-- the kind; in version 3 with the byte after it, which is zero where it is right
abbrev pub kind : Bool → List ℕ → ℕ → ℕ
kind true s at = word 1 s at
kind false s at = word 2 s at

-- the location at a place is right, where a pool index is right below `limit`
pub record Right (old : Bool) (s : List ℕ) (limit at : ℕ) : Type 0 where
  pub least : 1 ≤ kind old s at
  pub most : kind old s at ≤ 5
  pub zeros : old ≡ false → word 2 s (at + 6) ≡ 0
  pub pool : kind old s at ≡ 5 → word 4 s (at + size old - 4) < limit

-- the n locations from a place are right
pub record Rights (old : Bool) (s : List ℕ) (limit at n : ℕ) : Type 0 where
  pub each : (i : ℕ) → i < n → Right old s limit (at + size old * i)

-- the n live-outs from a place have their zero byte
pub record Outs (s : List ℕ) (at n : ℕ) : Type 0 where
  pub each : (i : ℕ) → i < n → slice_index s (at + 4 * i + 2) ≡ 0

-- the eight bytes at a place, less one
abbrev pub less : List ℕ → ℕ → ℕ
less s at = (word 8 s at + (2 ^ 64 - 1)) % 2 ^ 64

-- a number of one or two bytes, as a kind has
abbrev pub width : Bool → ℕ
width true = 2 ^ 8
width false = 2 ^ 16

-- of eight bytes less one: the kind was 1 to 4, and the zero bytes of version 3 are zero
pub record Low (old : Bool) (v : ℕ) : Type 0 where
  pub high : old ≡ false → v < 2 ^ 48
  pub low : v % width old < 4

-- four numbers together, bit by bit
abbrev pub together : ℕ → ℕ → ℕ → ℕ → ℕ
together a b c d = bit_or (bit_or a b) (bit_or c d)

-- those of the four locations from a place
abbrev pub less_four : Bool → List ℕ → ℕ → ℕ
less_four old s at = together (less s at) (less s (at + size old * 1)) (less s (at + size old * 2)) (less s (at + size old * 3))
