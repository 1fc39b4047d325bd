-- Numbers that fit the section's fields fit the listing's where version 1 has no record counts, and the other way where no list is too
-- long and version 1 has no size above 255.
use Prim.Native.Nat.{ℕ, ◌+◌, ◌*◌, ◌%◌, ◌^◌, ◌≤◌, ◌<◌}
use mathlib.Core.Path.{◌≡◌, ap}
use mathlib.Core.Bool.{Bool, true, false}
use mathlib.Core.List.{List, [], ◌∷◌, ◌++◌}
use native.Mathlib.Omega.{arith}
use native.Mathlib.Nat.{one-le-pow}
use borrow.Author.Tests.{le-leb, leb-true}
use lib.ListN.{length}
use Rattle.stackmap.specs.Verdict.{Valid}
use Rattle.stackmap.specs.Layout.{version_number, locations_padding}
use Rattle.stackmap.specs.Fields.{size, Field, Fit, all}
use Rattle.stackmap.specs.Section.{Encodable, Function, LiveOut, Location, Record, Section, constant_fields, function_fields, live_out_fields, location_fields, record_head, record_middle, record_end, record_fields, section_header, section_fields}
use Rattle.stackmap.specs.Verdict.{must}
use Rattle.stackmap.proofs.Fields.{size-append, fit_join, fit_first, fit_second}
use Rattle.stackmap.proofs.Tests.{and_true}
use Rattle.stackmap.proofs.Verdicts.{must-held, must-rest}
use Rattle.listing.specs.Listing.{function_item, constant_item, record_item, location_item, live_out_item, end_item, record_items, item_fields, not_too_many}
use Rattle.listing.specs.RoundTrip.{NoCounts}
use Rattle.listing.proofs.Old.{Each, CountRight, SizeRight, Counts, Sizes, counts-from}

fit_map : {A : Type 0} (f g : A → List Field) → ((x : A) → Fit (f x) → Fit (g x)) → (xs : List A) → Fit (all f xs) → Fit (all g xs)
unfolding all
fit_map f g h [] k = tt
fit_map f g h (x ∷ xs) k = fit_join (g x) (all g xs) (h x (fit_first (f x) (all f xs) k)) (fit_map f g h xs (fit_second (f x) (all f xs) k))

-- where P holds of each
fit_where : {A : Type 0} (P : A → Type 0) (f g : A → List Field) → ((x : A) → P x → Fit (f x) → Fit (g x))
    → (xs : List A) → Each P xs → Fit (all f xs) → Fit (all g xs)
unfolding all
fit_where P f g h [] p k = tt
fit_where P f g h (x ∷ xs) p k =
    fit_join (g x) (all g xs) (h x p.0 (fit_first (f x) (all f xs) k)) (fit_where P f g h xs p.1 (fit_second (f x) (all f xs) k))

fit_tells : {A : Type 0} (P : A → Type 0) (f : A → List Field) → ((x : A) → Fit (f x) → P x) → (xs : List A) → Fit (all f xs) → Each P xs
unfolding all
fit_tells P f h [] k = tt
fit_tells P f h (x ∷ xs) k = (h x (fit_first (f x) (all f xs) k), fit_tells P f h xs (fit_second (f x) (all f xs) k))

function_to : (old : Bool) (f : Function) → CountRight old f → Fit (function_fields old f) → Fit (function_item f)
unfolding function_fields function_item
function_to true f c h = omega arith
function_to false f c h = omega arith

function-from : (old : Bool) (f : Function) → Fit (function_item f) → Fit (function_fields old f)
unfolding function_fields function_item
function-from true f h = omega arith
function-from false f h = omega arith

constant_to : (v : ℕ) → Fit (constant_fields v) → Fit (constant_item v)
unfolding constant_fields constant_item
constant_to v h = omega arith

constant-from : (v : ℕ) → Fit (constant_item v) → Fit (constant_fields v)
unfolding constant_fields constant_item
constant-from v h = omega arith

location_to : (old : Bool) (l : Location) → Fit (location_fields old l) → Fit (location_item l)
unfolding location_fields location_item
location_to true l h = omega arith
location_to false l h = omega arith

location_size-right : (old : Bool) (l : Location) → Fit (location_fields old l) → SizeRight old l
unfolding location_fields
location_size-right true l h = omega arith
location_size-right false l h = tt

location_from : (old : Bool) (l : Location) → SizeRight old l → Fit (location_item l) → Fit (location_fields old l)
unfolding location_fields location_item
location_from true l c h = omega arith
location_from false l c h = omega arith

live_out_to : (o : LiveOut) → Fit (live_out_fields o) → Fit (live_out_item o)
unfolding live_out_fields live_out_item
live_out_to o h = omega arith

live_out_from : (o : LiveOut) → Fit (live_out_item o) → Fit (live_out_fields o)
unfolding live_out_fields live_out_item
live_out_from o h = omega arith

version_byte : (old : Bool) → version_number old < 256
version_byte true = omega arith
version_byte false = omega arith

-- neither list is too long
pub record Small (r : Record) : Type 0 where
  pub locations : length r.locations ≤ 65535
  pub live_outs : length r.live_outs ≤ 65535

abbrev pub AllSmall : List Record → Type 0
AllSmall [] = Unit {0}
AllSmall (r ∷ rs) = Small r × AllSmall rs

module _ (old : Bool) (r : Record) where
  abbrev n : ℕ
  n = length r.locations

  abbrev m : ℕ
  m = length r.live_outs

  abbrev A : List Field
  A = record_head r

  abbrev B : List Field
  B = all (location_fields old) r.locations

  abbrev C : List Field
  C = record_middle old r

  abbrev D : List Field
  D = all live_out_fields r.live_outs

  abbrev E : List Field
  E = record_end r

  record_to : Fit (record_fields old r) → Fit (record_items r) × Small r × Each (SizeRight old) r.locations
  unfolding record_fields record_items record_item
  record_to h =
      let L = all location_item r.locations in
      let O = all live_out_item r.live_outs in
      let h₄ = fit_first (A ++ B ++ C ++ D) E h in
      let h₃ = fit_first (A ++ B ++ C) D h₄ in
      let c = fit_second (A ++ B) C h₃ in
      let h₂ = fit_first (A ++ B) C h₃ in
      let a = fit_first A B h₂ in
      let h₁ = fit_second A B h₂ in
      let b = fit_map (location_fields old) location_item (location_to old) r.locations h₁ in
      let d = fit_map live_out_fields live_out_item live_out_to r.live_outs (fit_second (A ++ B ++ C) D h₄) in
      let i : Fit (record_item r) = omega arith in (
        fit_join (record_item r) (L ++ O) i (fit_join L O b d),
        record { locations = omega arith; live_outs = omega arith },
        fit_tells (SizeRight old) (location_fields old) (location_size-right old) r.locations h₁,
      )

  record_from : Fit (record_items r) → Small r → Each (SizeRight old) r.locations → Fit (record_fields old r)
  unfolding record_fields record_items record_item
  record_from h s z =
      let L = all location_item r.locations in
      let O = all live_out_item r.live_outs in
      let h₁ = fit_first (record_item r) (L ++ O) h in
      let h₂ = fit_second (record_item r) (L ++ O) h in
      let b = fit_where (SizeRight old) location_item (location_fields old) (location_from old) r.locations z (fit_first L O h₂) in
      let d = fit_map live_out_item live_out_fields live_out_from r.live_outs (fit_second L O h₂) in
      let p = one-le-pow (locations_padding old n + 2) 256 (omega arith) in
      let q = one-le-pow ((m + 1) % 2 * 4) 256 (omega arith) in
      let a : Fit A = omega arith in
      let c : Fit C = omega arith in
      let e : Fit E = omega arith in
      fit_join (A ++ B ++ C ++ D) E (fit_join (A ++ B ++ C) D (fit_join (A ++ B) C (fit_join A B a b) c) d) e

module _ (old : Bool) where
  records_to : (rs : List Record) → Fit (all (record_fields old) rs) → Fit (all record_items rs) × AllSmall rs × Sizes old rs
  unfolding all
  records_to [] h = (tt, tt, tt)
  records_to (r ∷ rs) h =
      let a = record_to old r (fit_first (record_fields old r) (all (record_fields old) rs) h) in
      let b = records_to rs (fit_second (record_fields old r) (all (record_fields old) rs) h) in
      (fit_join (record_items r) (all record_items rs) a.0 b.0, (a.1, b.1), (a.2, b.2))

  records-from : (rs : List Record) → Fit (all record_items rs) → AllSmall rs → Sizes old rs → Fit (all (record_fields old) rs)
  unfolding all
  records-from [] h s z = tt
  records-from (r ∷ rs) h s z =
      fit_join (record_fields old r) (all (record_fields old) rs) (record_from old r (fit_first (record_items r) (all record_items rs) h) s.0 z.0)
      (records-from rs (fit_second (record_items r) (all record_items rs) h) s.1 z.1)

pub small-whole : (rs : List Record) (at : ℕ) → AllSmall rs → not_too_many rs at ≡ Valid (at + size (all record_items rs))
unfolding not_too_many must all size
small-whole [] at s = ap Valid (omega arith)
small-whole (r ∷ rs) at s =
    rw (le-leb _ _ s.0.locations, le-leb _ _ s.0.live_outs, small-whole rs (at + size (record_items r)) s.1, size-append)
    (ap Valid (omega arith))

pub whole-small : (rs : List Record) (at e : ℕ) → not_too_many rs at ≡ Valid e → AllSmall rs
unfolding not_too_many
whole-small [] at e h = tt
whole-small (r ∷ rs) at e h =
    let a = and_true _ _ (must-held _ _ _ _ _ h) in
    (record { locations = leb-true _ _ a.0; live_outs = leb-true _ _ a.1 }, whole-small rs (at + size (record_items r)) e (must-rest _ _ _ _ _ h))

module _ (t : Section) where
  abbrev H : List Field
  H = section_header t

  abbrev F : List Field
  F = all (function_fields t.old) t.functions

  abbrev K : List Field
  K = all constant_fields t.constants

  abbrev R : List Field
  R = all (record_fields t.old) t.records

  abbrev G : List Field
  G = all function_item t.functions

  abbrev L : List Field
  L = all constant_item t.constants

  abbrev S : List Field
  S = all record_items t.records

  -- what the listing of a section needs
  pub record Listable : Type 0 where
    pub fits : Fit (item_fields t)
    pub small : AllSmall t.records
    pub counts : Counts t.old t.functions
    pub sizes : Sizes t.old t.records

  pub section-to_listing : Encodable t → NoCounts t → Listable
  unfolding section_fields item_fields
  section-to_listing h none =
      let c = counts-from t.old t.functions none in
      let h₂ = fit_first (H ++ F ++ K) R h in
      let h₁ = fit_first (H ++ F) K h₂ in
      let f = fit_where (CountRight t.old) (function_fields t.old) function_item (function_to t.old) t.functions c (fit_second H F h₁) in
      let k = fit_map constant_fields constant_item constant_to t.constants (fit_second (H ++ F) K h₂) in
      let r = records_to t.old t.records (fit_second (H ++ F ++ K) R h) in
      record {
        fits = fit_join G (L ++ (S ++ end_item)) f (fit_join L (S ++ end_item) k (fit_join S end_item r.0 (omega arith)));
        small = r.1;
        counts = c;
        sizes = r.2;
      }

  pub listing_to_section : Fit (item_fields t) → AllSmall t.records → Sizes t.old t.records
      → length t.functions < 2 ^ 32 → length t.constants < 2 ^ 32 → length t.records < 2 ^ 32 → Encodable t
  unfolding section_fields item_fields
  listing_to_section h s z l₁ l₂ l₃ =
      let h₂ = fit_second G (L ++ (S ++ end_item)) h in
      let f = fit_map function_item (function_fields t.old) (function-from t.old) t.functions (fit_first G (L ++ (S ++ end_item)) h) in
      let k = fit_map constant_item constant_fields constant-from t.constants (fit_first L (S ++ end_item) h₂) in
      let r = records-from t.old t.records (fit_first S end_item (fit_second L (S ++ end_item) h₂)) s z in
      let v = version_byte t.old in
      let a : Fit H = omega arith in
      fit_join (H ++ F ++ K) R (fit_join (H ++ F) K (fit_join H F a f) k) r
