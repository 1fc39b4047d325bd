-- The refusals of a listing have the numbers 1 to 28.
use Prim.Native.Nat.{ℕ, ◌+◌}
use mathlib.Core.Bool.{Bool, true, false}
use mathlib.Core.List.{List, [], ◌∷◌}
use native.Mathlib.Omega.{arith}
use Rattle.stackmap.specs.Fields.{size}
use Rattle.stackmap.specs.Section.{Function, Location, Record}
use Rattle.stackmap.proofs.Numbers.{Numbered, n_must, n_chain, n_shift, n_valid}
use Rattle.listing.specs.Listing.{record_items, not_too_many, no_counts, small_sizes, all_small_sizes, old_right, items_check, listing_check}

n_many : (rs : List Record) (at : ℕ) → Numbered 28 (not_too_many rs at)
unfolding not_too_many
n_many [] at = n_valid at
n_many (r ∷ rs) at = n_must _ 22 _ _ (omega arith) (n_many rs (at + size (record_items r)))

n_counts : (fs : List Function) (at : ℕ) → Numbered 28 (no_counts fs at)
unfolding no_counts
n_counts [] at = n_valid at
n_counts (f ∷ fs) at = n_must _ 27 _ _ (omega arith) (n_counts fs (at + 25))

n_sizes : (ls : List Location) (at : ℕ) → Numbered 28 (small_sizes ls at)
unfolding small_sizes
n_sizes [] at = n_valid at
n_sizes (l ∷ ls) at = n_must _ 27 _ _ (omega arith) (n_sizes ls (at + 10))

n_all_sizes : (rs : List Record) (at : ℕ) → Numbered 28 (all_small_sizes rs at)
unfolding all_small_sizes
n_all_sizes [] at = n_valid at
n_all_sizes (r ∷ rs) at = n_chain _ _ (n_sizes r.locations _) (n_all_sizes rs (at + size (record_items r)))

n_old : (old : Bool) (fs : List Function) (rs : List Record) (at : ℕ) → Numbered 28 (old_right old fs rs at)
unfolding old_right
n_old true fs rs at = n_chain _ _ (n_counts fs 0) (n_all_sizes rs at)
n_old false fs rs at = n_valid at

n_items : (old : Bool) (l : List ℕ) → Numbered 28 (items_check old l)
unfolding items_check
n_items old l =
    n_must _ 21 _ _ (omega arith) (n_must _ 21 _ _ (omega arith) (n_chain _ _ (n_many _ _) (n_chain _ _ (n_old old _ _ _) (n_valid _))))

pub listing_numbered : (l : List ℕ) → Numbered 28 (listing_check l)
unfolding listing_check
listing_numbered l = n_must _ 0 _ _ (omega arith) (n_shift _ _ (n_items _ _))
