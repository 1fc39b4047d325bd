-- Keys filled in, one by one, and put in order.
use Prim.Native.Nat.{ℕ, ◌≤◌}
use mathlib.Core.Path.{◌∙◌}
use mathlib.Core.List.{List, ◌++◌}
use native.Mathlib.Omega.{arith}
use lib.ListN.{length, get_or-append}
use Rattle.sorted.specs.Sorted.{Sorted}
use Rattle.sorted_numbers.specs.Numbers.{Rearranged}
use Rattle.flat_keys.specs.Keys.{Filled, Keyed}

-- keys that stand in front of others
pub fill_front : (s keys rest : List ℕ) (m : ℕ) → Filled s keys m → m ≤ length keys → Filled s (keys ++ rest) m
fill_front s keys rest m h l = record { each = λ j u. get_or-append keys rest 0 j (omega arith) ∙ h.each j u; small = h.small }

-- keys filled in and put in order
pub keyed_sorted : (s before after : List ℕ) (m : ℕ) → Filled s before m → Rearranged before after m → Sorted after m → Keyed s after m
keyed_sorted s before after m f r o =
    record {
      sorted = o;
      each = λ j l. record { place = r.place j; inside = r.inside j l; same = r.same j l ∙ f.each j l };
      small = f.small;
    }
