-- Numbers of a row, and these put one after the other.
use Prim.Native.Nat.{ℕ, ◌+◌, ◌-◌, ◌/◌, ◌≤◌, ◌<◌}
use mathlib.Core.Path.{◌≡◌}
use mathlib.Core.List.{List, append_assoc}
use native.Mathlib.Omega.{arith}
use lib.ListN.{length}
use lib.Seq.{sets, sets-eq, drop-drop}
use borrow.Rule.Slice.PartMut.{put_mid}
use Rattle.moves.specs.Arrays.{registers_from}
use Rattle.moves.proofs.Numbers.{slot-memory, slot-register}
use Rattle.explain_numbers.specs.Numbers.{sort_at, place_at}

-- The slot with the number x.

module _ (x : ℕ) where
  pub sort_memory : x < registers_from → 1 ≡ sort_at x
  unfolding sort_at
  sort_memory h = rw (slot-memory x h)

  pub sort_register : registers_from ≤ x → 2 ≡ sort_at x
  unfolding sort_at
  sort_register h = rw (slot-register x h)

  pub place-memory : (sp : ℕ) → x < registers_from → sp + x ≡ place_at sp x
  unfolding place_at
  place-memory sp h = rw (slot-memory x h)

  pub place-register : (sp : ℕ) → registers_from ≤ x → (x - registers_from) / 8 ≡ place_at sp x
  unfolding place_at
  place-register sp h = rw (slot-register x h)

-- Numbers copied over a part of a list are stored one after the other.

pub part-sets : (l : List ℕ) (i k : ℕ) (part vs : List ℕ) → part ≡ vs → k ≡ length vs → i + k ≤ length l → put_mid i k l part ≡ sets l i vs
part-sets l i k part vs p e h = rw (p, sets-eq vs l i (omega arith), ← e, drop-drop, append_assoc)
