-- Slots that begin at multiples of 8 do not overlap without being equal.
use Prim.Native.Nat.{ℕ, ◌%◌, ◌^◌, ◌<◌}
use mathlib.Core.Path.{◌≡◌}
use mathlib.Core.Bool.{false}
use native.Mathlib.Omega.{arith}
use native.Mathlib.Decide.{dec_lt}
use lib.Bits.{bit_or, or_add_and, and_le_l, and_le_r, or_mod}
use Rattle.moves.specs.Arrays.{overlap_at, any_overlap_at}
use Rattle.moves_window.proofs.Clashes.{overlap-same, overlap-left, overlap-right}

-- numbers put together bit by bit are a multiple of 8 only if each is
each : (x y : ℕ) → bit_or x y % 8 ≡ 0 → (x % 8 ≡ 0) × (y % 8 ≡ 0)
each x y h =
    let e = or_mod x y 3 in
    let s = or_add_and (x % 2 ^ 3) (y % 2 ^ 3) in
    let l = and_le_l (x % 2 ^ 3) (y % 2 ^ 3) in
    let r = and_le_r (x % 2 ^ 3) (y % 2 ^ 3) in
    (omega arith, omega arith)

apart : (x y : ℕ) → x % 8 ≡ 0 → y % 8 ≡ 0 → overlap_at x y ≡ false
apart x y h k = go (dec_lt x y) (dec_lt y x)
  where
    go : Dec (x < y) → Dec (y < x) → overlap_at x y ≡ false
    go (yes l) r = overlap-right x y (omega arith)
    go (no l) (yes r) = overlap-left x y (omega arith)
    go (no l) (no r) = overlap-same x y (omega arith)

pub none_overlaps : (b d b' d' : ℕ) → bit_or (bit_or b d) (bit_or b' d') % 8 ≡ 0 → any_overlap_at b d b' d' ≡ false
unfolding any_overlap_at
none_overlaps b d b' d' h =
    let e = each (bit_or b d) (bit_or b' d') h in
    let f = each b d e.0 in
    let g = each b' d' e.1 in
    rw (apart b b' f.0 g.0, apart b d' f.0 g.1, apart d b' f.1 g.0, apart d d' f.1 g.1)
