-- What version 1 asks of a listing (28): no record counts, and sizes of at most 255.
use Prim.Native.Nat.{ℕ, ◌+◌, ◌≤◌}
use mathlib.Core.Path.{◌≡◌, refl, sym}
use mathlib.Core.Bool.{Bool, true, false, true≢false}
use mathlib.Core.Logic.{⊎_elim}
use mathlib.Core.List.Memᴰ
use mathlib.Core.List.{List, [], ◌∷◌, Memᴰ}
use borrow.Author.Tests.{le-leb, leb-true, eq-eqb, eqb-true}
use Rattle.stackmap.specs.Verdict.{Verdict}
use Rattle.stackmap.specs.Verdict.{Valid}
use Rattle.stackmap.specs.Fields.{size}
use Rattle.stackmap.specs.Section.{Function, Location, Record}
use Rattle.stackmap.specs.Verdict.{must, chain}
use Rattle.stackmap.proofs.Verdicts.{chain_first, chain-rest, must-held, must-rest}
use Rattle.listing.specs.Listing.{record_items, no_counts, small_sizes, all_small_sizes, old_right}

-- P of each item of a list
abbrev pub Each : {A : Type 0} → (A → Type 0) → List A → Type 0
Each P [] = Unit {0}
Each P (x ∷ xs) = P x × Each P xs

each : {A : Type 0} (P : A → Type 0) → ((x : A) → P x) → (xs : List A) → Each P xs
each P h [] = tt
each P h (x ∷ xs) = (h x, each P h xs)

abbrev pub CountRight : Bool → Function → Type 0
CountRight true f = f.count ≡ 0
CountRight false f = Unit {0}

abbrev pub SizeRight : Bool → Location → Type 0
SizeRight true l = l.size ≤ 255
SizeRight false l = Unit {0}

abbrev pub Counts : Bool → List Function → Type 0
Counts old fs = Each (CountRight old) fs

abbrev pub Sizes : Bool → List Record → Type 0
Sizes old rs = Each (λ (r : Record). Each (SizeRight old) r.locations) rs

-- where they hold, nothing is refused

counts-valid : (fs : List Function) (at : ℕ) → Counts true fs → (e : ℕ) × (no_counts fs at ≡ Valid e)
unfolding no_counts must
counts-valid [] at h = (at, refl)
counts-valid (f ∷ fs) at h = let r = counts-valid fs (at + 25) h.1 in (r.0, rw (eq-eqb _ _ h.0) r.1)

sizes_valid : (ls : List Location) (at : ℕ) → Each (SizeRight true) ls → (e : ℕ) × (small_sizes ls at ≡ Valid e)
unfolding small_sizes must
sizes_valid [] at h = (at, refl)
sizes_valid (l ∷ ls) at h = let r = sizes_valid ls (at + 10) h.1 in (r.0, rw (le-leb _ _ h.0) r.1)

all_sizes_valid : (rs : List Record) (at : ℕ) → Sizes true rs → (e : ℕ) × (all_small_sizes rs at ≡ Valid e)
unfolding all_small_sizes chain
all_sizes_valid [] at h = (at, refl)
all_sizes_valid (r ∷ rs) at h =
    let x = sizes_valid r.locations (at + 13) h.0 in
    let y = all_sizes_valid rs (at + size (record_items r)) h.1 in
    (y.0, rw x.1 y.1)

pub old-passes : (old : Bool) (fs : List Function) (rs : List Record) (at : ℕ) → Counts old fs → Sizes old rs
    → (k : Verdict) → chain (old_right old fs rs at) k ≡ k
unfolding old_right chain
old-passes true fs rs at c s k = rw ((counts-valid fs 0 c).1, (all_sizes_valid rs at s).1)
old-passes false fs rs at c s k = refl

-- and where nothing is refused, they hold

valid-counts : (fs : List Function) (at e : ℕ) → no_counts fs at ≡ Valid e → Counts true fs
unfolding no_counts
valid-counts [] at e h = tt
valid-counts (f ∷ fs) at e h = (eqb-true _ _ (must-held _ _ _ _ _ h), valid-counts fs (at + 25) e (must-rest _ _ _ _ _ h))

valid_sizes : (ls : List Location) (at e : ℕ) → small_sizes ls at ≡ Valid e → Each (SizeRight true) ls
unfolding small_sizes
valid_sizes [] at e h = tt
valid_sizes (l ∷ ls) at e h = (leb-true _ _ (must-held _ _ _ _ _ h), valid_sizes ls (at + 10) e (must-rest _ _ _ _ _ h))

valid_all_sizes : (rs : List Record) (at e : ℕ) → all_small_sizes rs at ≡ Valid e → Sizes true rs
unfolding all_small_sizes
valid_all_sizes [] at e h = tt
valid_all_sizes (r ∷ rs) at e h =
    (valid_sizes r.locations (at + 13) _ (chain_first _ _ _ h).1, valid_all_sizes rs (at + size (record_items r)) e (chain-rest _ _ _ h))

pub old_tells : (old : Bool) (fs : List Function) (rs : List Record) (at e : ℕ) → old_right old fs rs at ≡ Valid e → Counts old fs × Sizes old rs
unfolding old_right
old_tells true fs rs at e h = (valid-counts fs 0 _ (chain_first _ _ _ h).1, valid_all_sizes rs at e (chain-rest _ _ _ h))
old_tells false fs rs at e h =
    (each (CountRight false) (λ f. tt) fs, each (λ (r : Record). Each (SizeRight false) r.locations) (λ r. each (SizeRight false) (λ l. tt) r.locations) rs)

-- no record counts, said of the functions that are in the list

pub counts-from : (old : Bool) (fs : List Function) → (old ≡ true → (f : Function) → Memᴰ f fs → f.count ≡ 0) → Counts old fs
counts-from true [] h = tt
counts-from true (f ∷ fs) h = (h refl f (Memᴰ.head refl), counts-from true fs (λ e g m. h e g (Memᴰ.tail m)))
counts-from false fs h = each (CountRight false) (λ f. tt) fs

pub counts-none : (old : Bool) (fs : List Function) → Counts old fs → old ≡ true → (f : Function) → Memᴰ f fs → f.count ≡ 0
counts-none true [] h e f m = absurd (Memᴰ.not-nil m)
counts-none true (g ∷ fs) h e f m = ⊎_elim (λ q. rw q h.0) (counts-none true fs h.1 e f) (Memᴰ.cases_cons m)
counts-none false fs h e f m = absurd (true≢false (sym e))
