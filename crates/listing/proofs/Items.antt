-- The items of a listing: their sizes, that they are read back, and runs of them.
use Prim.Native.Nat.{ℕ, zero, suc, ◌+◌, ◌*◌, ◌≤◌, ◌<◌}
use mathlib.Core.Path.{◌≡◌, refl, sym, ◌∙◌, ap}
use mathlib.Core.List.{List, [], ◌∷◌, ◌++◌, append_assoc}
use mathlib.Core.Bool.{Bool, true, false, and-false}
use native.Mathlib.Omega.{arith}
use native.Mathlib.Nat.{add-zero, mul-suc}
use borrow.Author.Tests.{le-leb, lt-leb, leb-true, eq-eqb, ne_eqb, eqb-true}
use lib.ListN.{length, get_or}
use lib.Dec.{leb}
use Rattle.wire.specs.Word.{word}
use Rattle.stackmap.specs.Fields.{size, Field, all, many}
use Rattle.stackmap.specs.Section.{Function, LiveOut, Location, Record}
use Rattle.stackmap.proofs.Fields.{Has, join, split}
use Rattle.stackmap.proofs.Tests.{and_true}
use Rattle.stackmap.proofs.Items.{byte_word}
use Rattle.listing.specs.Listing.{function_item, constant_item, record_item, location_item, live_out_item, end_item, record_items, stands, run, listed_function, listed_constant, listed_location, listed_live_out, listed_record, record_stop, listed_records, records_stop}

-- Sizes.

pub function_item-size : (f : Function) → size (function_item f) ≡ 25
unfolding size function_item
function_item-size f = refl

pub constant_item-size : (v : ℕ) → size (constant_item v) ≡ 9
unfolding size constant_item
constant_item-size v = refl

pub record_item-size : (r : Record) → size (record_item r) ≡ 13
unfolding size record_item
record_item-size r = refl

pub location_item-size : (l : Location) → size (location_item l) ≡ 10
unfolding size location_item
location_item-size l = refl

pub live_out_item-size : (o : LiveOut) → size (live_out_item o) ≡ 4
unfolding size live_out_item
live_out_item-size o = refl

-- An item that stands there is read, and what is read stands there.

pub function-back : (l : List ℕ) (f : Function) (a : ℕ) → Has l a (function_item f) → listed_function l a ≡ f
unfolding function_item listed_function
function-back l f a h = rw (h.1.0, h.1.1.0, h.1.1.1.0)

pub constant-back : (l : List ℕ) (v a : ℕ) → Has l a (constant_item v) → listed_constant l a ≡ v
unfolding constant_item listed_constant
constant-back l v a h = h.1.0

pub location_back : (l : List ℕ) (x : Location) (a : ℕ) → Has l a (location_item x) → listed_location l a ≡ x
unfolding location_item listed_location
location_back l x a h = rw (h.1.0, h.1.1.0, h.1.1.1.0, h.1.1.1.1.0)

pub live_out_back : (l : List ℕ) (o : LiveOut) (a : ℕ) → Has l a (live_out_item o) → listed_live_out l a ≡ o
unfolding live_out_item listed_live_out
live_out_back l o a h = rw (h.1.0, h.1.1.0)

pub function-has : (l : List ℕ) (at : ℕ) → get_or l at 0 ≡ 1 → Has l at (function_item (listed_function l at))
unfolding function_item listed_function
function-has l at e = (rw add-zero (byte_word l at ∙ e), (refl, (refl, (refl, tt))))

pub constant-has : (l : List ℕ) (at : ℕ) → get_or l at 0 ≡ 2 → Has l at (constant_item (listed_constant l at))
unfolding constant_item listed_constant
constant-has l at e = (rw add-zero (byte_word l at ∙ e), (refl, tt))

pub location_has : (l : List ℕ) (at : ℕ) → get_or l at 0 ≡ 4 → Has l at (location_item (listed_location l at))
unfolding location_item listed_location
location_has l at e = (rw add-zero (byte_word l at ∙ e), (refl, (refl, (refl, (refl, tt)))))

pub live_out_has : (l : List ℕ) (at : ℕ) → get_or l at 0 ≡ 5 → Has l at (live_out_item (listed_live_out l at))
unfolding live_out_item listed_live_out
live_out_has l at e = (rw add-zero (byte_word l at ∙ e), (refl, (refl, tt)))

-- Kinds.

pub kind_byte : (l : List ℕ) (at k : ℕ) → word 1 l (at + 0) ≡ k → get_or l at 0 ≡ k
kind_byte l at k h = sym (byte_word l at) ∙ (rw add-zero at h)

module _ (l : List ℕ) where
  pub function-kind : (x : Function) (at : ℕ) → Has l at (function_item x) → get_or l at 0 ≡ 1
  unfolding function_item
  function-kind x at h = kind_byte l at 1 h.0

  pub constant-kind : (x : ℕ) (at : ℕ) → Has l at (constant_item x) → get_or l at 0 ≡ 2
  unfolding constant_item
  constant-kind x at h = kind_byte l at 2 h.0

  pub location_kind_lem : (x : Location) (at : ℕ) → Has l at (location_item x) → get_or l at 0 ≡ 4
  unfolding location_item
  location_kind_lem x at h = kind_byte l at 4 h.0

  pub live_out_kind_lem : (x : LiveOut) (at : ℕ) → Has l at (live_out_item x) → get_or l at 0 ≡ 5
  unfolding live_out_item
  live_out_kind_lem x at h = kind_byte l at 5 h.0

-- Whether an item stands at a place.

pub yes_item : (k n : ℕ) (l : List ℕ) (at : ℕ) → at + n ≤ length l → get_or l at 0 ≡ k → stands k n l at ≡ true
unfolding stands
yes_item k n l at i e = rw (le-leb _ _ i, eq-eqb _ _ e)

pub no_room : (k n : ℕ) (l : List ℕ) (at : ℕ) → length l < at + n → stands k n l at ≡ false
unfolding stands
no_room k n l at i = rw (lt-leb _ _ i)

pub other-kind : (k n : ℕ) (l : List ℕ) (at : ℕ) → (get_or l at 0 ≡ k → ⊥) → stands k n l at ≡ false
unfolding stands
other-kind k n l at h = rw (ne_eqb _ _ h) (and-false (leb (at + n) (length l)))

pub is_item : (k n : ℕ) (l : List ℕ) (at : ℕ) → stands k n l at ≡ true → (at + n ≤ length l) × (get_or l at 0 ≡ k)
unfolding stands
is_item k n l at e = let a = and_true _ _ e in (leb-true _ _ a.0, eqb-true _ _ a.1)

-- the fields begin with a kind that is not k
abbrev pub Leads : ℕ → List Field → Type 0
Leads k [] = ⊥
Leads k (f ∷ fs) = (f.width ≡ 1) × (f.value ≡ k → ⊥)

pub no_item : (k n : ℕ) (l : List ℕ) (at : ℕ) (fs : List Field) → Leads k fs → Has l at fs → stands k n l at ≡ false
no_item k n l at [] d h = absurd d
no_item k n l at (f ∷ fs) d h =
    let e : word 1 l at ≡ f.value = rw (add-zero, d.0) at h.0 in
    let g : get_or l at 0 ≡ f.value = sym (byte_word l at) ∙ e in
    other-kind k n l at (λ q. d.1 (sym g ∙ q))

-- Runs of items of one kind.

pub run_yes : (k n m : ℕ) (l : List ℕ) (at : ℕ) → stands k n l at ≡ true → run k n (suc m) l at ≡ suc (run k n m l (at + n))
unfolding run
run_yes k n m l at e = rw (e, run)

pub run_no : (k n m : ℕ) (l : List ℕ) (at : ℕ) → stands k n l at ≡ false → run k n m l at ≡ 0
unfolding run
run_no k n zero l at e = refl
run_no k n (suc m) l at e = rw (e, run)

-- a run is inside
pub run_inside : (k n m : ℕ) (l : List ℕ) (at : ℕ) → at ≤ length l → at + n * run k n m l at ≤ length l
run_inside k n zero l at i = unfold run in omega arith
run_inside k n (suc m) l at i = go (run_inside k n m l (at + n)) (stands k n l at) refl
  where
    go : (at + n ≤ length l → at + n + n * run k n m l (at + n) ≤ length l) → (b : Bool) → stands k n l at ≡ b → at + n * run k n (suc m) l at ≤ length l
    go ih true e =
        let z = mul-suc n (run k n m l (at + n)) in
        let h = ih (is_item k n l at e).0 in
        rw (run_yes k n m l at e) (omega arith)
    go ih false e = rw (run_no k n (suc m) l at e) (omega arith)

module _ {A : Type 0} (item : A → List Field) (k n : ℕ) (even : (x : A) → size (item x) ≡ n) (l : List ℕ) where
  -- the items of one kind are all found
  pub run-back : ((x : A) (at : ℕ) → Has l at (item x) → get_or l at 0 ≡ k)
      → (xs : List A) (at m : ℕ) → length xs ≤ m → Has l at (all item xs) → at + n * length xs ≤ length l
      → stands k n l (at + n * length xs) ≡ false → run k n m l at ≡ length xs
  unfolding all
  run-back kind [] at m f h i e = let e₂ : at + n * 0 ≡ at = omega arith in run_no k n m l at (rw e₂ at e)
  run-back kind (x ∷ xs) at zero f h i e = absurd (omega arith)
  run-back kind (x ∷ xs) at (suc m) f h i e =
      let z = mul-suc n (length xs) in
      let j = split l at (at + n) (item x) (all item xs) (rw (even x)) h in
      let p : at + n * suc (length xs) ≡ at + n + n * length xs = omega arith in
      run_yes k n m l at (yes_item k n l at (omega arith) (kind x at j.0))
      ∙ ap suc (run-back kind xs (at + n) m (omega arith) j.1 (omega arith) (rw p at e))

  -- what is found are items
  pub run-has : (read : List ℕ → ℕ → A) → ((at : ℕ) → get_or l at 0 ≡ k → Has l at (item (read l at)))
      → (m at : ℕ) → Has l at (all item (many read n (run k n m l at) l at))
  unfolding all many
  run-has read has zero at = unfold run in tt
  run-has read has (suc m) at = go (run-has read has m (at + n)) (stands k n l at) refl
    where
      go : Has l (at + n) (all item (many read n (run k n m l (at + n)) l (at + n))) → (b : Bool) → stands k n l at ≡ b
          → Has l at (all item (many read n (run k n (suc m) l at) l at))
      go ih true e =
          rw (run_yes k n m l at e)
          (join l at (at + n) (item (read l at)) (all item (many read n (run k n m l (at + n)) l (at + n))) (rw (even (read l at))) (has at (is_item k n l at e).1) ih)
      go ih false e = rw (run_no k n (suc m) l at e) tt

-- Records.

-- a record is its item, its locations and then its live-outs
pub regroup : (r : Record) (rs : List Record)
    → record_items r ++ all record_items rs ++ end_item ≡ record_item r ++ (all location_item r.locations ++ (all live_out_item r.live_outs ++ (all record_items rs ++ end_item)))
unfolding record_items
regroup r rs = simp append_assoc

module _ (l : List ℕ) where
  pub records_yes : (m at : ℕ) → stands 3 13 l at ≡ true
      → (listed_records l (suc m) at ≡ listed_record l at ∷ listed_records l m (record_stop l at)) × (records_stop l (suc m) at ≡ records_stop l m (record_stop l at))
  unfolding listed_records records_stop
  records_yes m at e = (rw (e, listed_records), rw (e, records_stop))

  pub records_no : (m at : ℕ) → stands 3 13 l at ≡ false → (listed_records l m at ≡ []) × (records_stop l m at ≡ at)
  unfolding listed_records records_stop
  records_no zero at e = (refl, refl)
  records_no (suc m) at e = (rw (e, listed_records), rw (e, records_stop))
