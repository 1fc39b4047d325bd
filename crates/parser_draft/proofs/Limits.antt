-- Refusal 28, item by item.
use Prim.Native.Nat.{ℕ, ◌+◌, ◌*◌, ◌-◌, ◌<◌}
use mathlib.Core.Path.{◌≡◌, refl}
use mathlib.Core.Bool.{true}
use mathlib.Core.List.{List, [], ◌∷◌}
use native.Mathlib.Omega.{arith}
use lib.ListN.{length}
use lib.Dec.{leb, eqb}
use Rattle.wire.specs.Word.{word}
use Rattle.stackmap.specs.Verdict.{must, chain}
use Rattle.stackmap.specs.Fields.{many}
use Rattle.stackmap.specs.Section.{Record}
use Rattle.stackmap.specs.Verdict.{Valid}
use Rattle.stackmap.proofs.Steps.{many_step}
use Rattle.listing.specs.Layout.{record_kind, record_item_size}
use Rattle.listing.specs.Listing.{stands, listed_function, listed_location, listed_record, no_counts, small_sizes, all_small_sizes}
use Rattle.parser_items.specs.Count.{RecordCounted}
use Rattle.parser_items.specs.Survey.{records_from}
use Rattle.parser_items.proofs.Records.{shape_items, records-here}

pub counts_step : (n : ℕ) (l : List ℕ) (at : ℕ) → 0 < n
    → no_counts (many listed_function 25 n l at) at ≡ must (eqb (word 8 l (at + 17)) 0) 28 at (no_counts (many listed_function 25 (n - 1) l (at + 25)) (at + 25))
unfolding no_counts listed_function
counts_step n l at h = rw (many_step listed_function 25 n l at h)

pub sizes_step : (n : ℕ) (l : List ℕ) (at : ℕ) → 0 < n
    → small_sizes (many listed_location 10 n l at) at ≡ must (leb (word 2 l (at + 2)) 255) 28 at (small_sizes (many listed_location 10 (n - 1) l (at + 10)) (at + 10))
unfolding small_sizes listed_location
sizes_step n l at h = rw (many_step listed_location 10 n l at h)

-- The same for a loop that counts up: turn number i of n.

pub counts_turn : (n i : ℕ) (l : List ℕ) → i < n
    → no_counts (many listed_function 25 (n - i) l (25 * i)) (25 * i)
    ≡ must (eqb (word 8 l (25 * i + 17)) 0) 28 (25 * i) (no_counts (many listed_function 25 (n - (i + 1)) l (25 * (i + 1))) (25 * (i + 1)))
counts_turn n i l h =
    let fewer : n - i - 1 ≡ n - (i + 1) = omega arith in
    let next : 25 * i + 25 ≡ 25 * (i + 1) = omega arith in
    rw (counts_step (n - i) l (25 * i) (omega arith), fewer, next)

pub sizes_turn : (n i : ℕ) (l : List ℕ) (at : ℕ) → i < n
    → small_sizes (many listed_location 10 (n - i) l (at + 10 * i)) (at + 10 * i)
    ≡ must (leb (word 2 l (at + 10 * i + 2)) 255) 28 (at + 10 * i) (small_sizes (many listed_location 10 (n - (i + 1)) l (at + 10 * (i + 1))) (at + 10 * (i + 1)))
sizes_turn n i l at h =
    let fewer : n - i - 1 ≡ n - (i + 1) = omega arith in
    let next : at + 10 * i + 10 ≡ at + 10 * (i + 1) = omega arith in
    rw (sizes_step (n - i) l (at + 10 * i) (omega arith), fewer, next)

-- the record that stands here, and then the rest
pub sizes_here : {l : List ℕ} {at n m stop : ℕ} → RecordCounted l at n m stop → stands record_kind record_item_size l at ≡ true
    → all_small_sizes (records_from l at) at ≡ chain (small_sizes (many listed_location 10 n l (at + 13)) (at + 13)) (all_small_sizes (records_from l stop) stop)
unfolding all_small_sizes listed_record
sizes_here h e = rw (records-here h e, shape_items h, h.locations_are)

-- no record is left
pub sizes_none : (rs : List Record) (at : ℕ) → length rs ≡ 0 → Valid at ≡ all_small_sizes rs at
unfolding all_small_sizes
sizes_none [] at h = refl
sizes_none (r ∷ rs) at h = absurd (omega arith)
