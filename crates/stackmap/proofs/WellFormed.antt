-- Accepted bytes and well-formed sections correspond one to one.
use Prim.Native.Nat.{ℕ, zero, suc, ◌+◌, ◌*◌, ◌/◌, ◌^◌, ◌≤◌, ◌<◌}
use mathlib.Core.Path.{◌≡◌, refl, sym, ◌∙◌, ap}
use mathlib.Core.List.Memᴰ
use mathlib.Core.List.{List, [], ◌∷◌, ◌++◌, Memᴰ}
use mathlib.Core.Logic.{◌⊎◌, inl, inr, ⊎_elim}
use mathlib.Core.Bool.{Bool, true, false, true≢false}
use native.Mathlib.Omega.{arith}
use borrow.Author.Tests.{lt-ltb, le-leb, eq-eqb, eqb-true, leb-true, ltb-true}
use lib.ListN.{length, get_or}
use lib.Dec.{ltb, eqb}
use Rattle.wire.specs.Word.{Bytes, bytes}
use Rattle.stackmap.specs.Verdict.{Valid}
use Rattle.stackmap.specs.Layout.{version_number, function_size, location_size}
use Rattle.stackmap.specs.Verdict.{must, chain, pick, shift}
use Rattle.stackmap.specs.Fields.{Field, bytes_of, size, many}
use Rattle.stackmap.specs.Section.{Function, Location, Section, num_functions, is_old, read_function, read_functions, record_fields, section_fields, encode_section, Encodable, read_section, Entry, address, entries_of}
use Rattle.stackmap.specs.Record.{pool_check, address_right}
use Rattle.stackmap.specs.Check.{counts_right, section_check}
use Rattle.stackmap.specs.Fault.{location_fault, locations_fault, entry_fault, entries_fault, section_fault, WellFormed}
use Rattle.stackmap.specs.Laws.{OneToOne, BuiltRefusal}
use Rattle.stackmap.proofs.Verdicts.{must-held, must-rest, chain_first, chain-rest, shift-valid}
use Rattle.stackmap.proofs.Back.{read_back, check-back, encoded-length}
use Rattle.stackmap.proofs.Forth.{accepted_encodable, accepted-bytes, accepted-fault}

-- What a section without fault is, item by item.

-- a location of kind 1 to 5, whose pool entry exists where it has one
pub record GoodLocation (constants : ℕ) (l : Location) : Type 0 where
  pub kind-low : 1 ≤ l.kind
  pub kind-high : l.kind ≤ 5
  pub pool : l.kind ≡ 5 → (l.offset < 2 ^ 31) × (l.offset < constants)

pub record GoodEntry (old : Bool) (constants : ℕ) (e : Entry) : Type 0 where
  pub address-right : address_right old (address e) ≡ true
  pub locations_good : (l : Location) → Memᴰ l e.body.locations → GoodLocation constants l

pub record Good (t : Section) : Type 0 where
  pub small : size (section_fields t) ≤ 16777216
  pub adds_up : counts_right t.old t.functions (length t.records) ≡ true
  pub entries_good : (e : Entry) → Memᴰ e (entries_of t) → GoodEntry t.old (length t.constants) e

module _ (old : Bool) (c : ℕ) where
  good_location : (l : Location) (at : ℕ) → GoodLocation c l → location_fault old c l at ≡ Valid (at + location_size old)
  unfolding location_fault pool_check must pick
  good_location l at g = rw (le-leb _ _ g.kind-low, le-leb _ _ g.kind-high) (go (eqb l.kind 5) refl)
    where
      go : (t : Bool) → eqb l.kind 5 ≡ t
          → pick (eqb l.kind 5) (must (ltb l.offset (2 ^ 31)) 7 at (must (ltb l.offset c) 7 at (Valid (at + location_size old)))) (Valid (at + location_size old)) ≡ Valid (at + location_size old)
      go true e = let i = g.pool (eqb-true _ _ e) in rw (e, lt-ltb _ _ i.0, lt-ltb _ _ i.1)
      go false e = rw e

  valid_location : (l : Location) (at e : ℕ) → location_fault old c l at ≡ Valid e → GoodLocation c l
  unfolding location_fault pool_check pick
  valid_location l at e h =
      let h₁ = must-rest _ _ _ _ _ h in
      let h₂ = must-rest _ _ _ _ _ h₁ in
      record {
        kind-low = leb-true _ _ (must-held _ _ _ _ _ h);
        kind-high = leb-true _ _ (must-held _ _ _ _ _ h₁);
        pool = λ k.
            let h₃ : must (ltb l.offset (2 ^ 31)) 7 at (must (ltb l.offset c) 7 at (Valid (at + location_size old))) ≡ Valid e = rw (eq-eqb _ _ k) at h₂ in
            (ltb-true _ _ (must-held _ _ _ _ _ h₃), ltb-true _ _ (must-held _ _ _ _ _ (must-rest _ _ _ _ _ h₃)));
      }

  good_locations : (ls : List Location) (at : ℕ) → ((l : Location) → Memᴰ l ls → GoodLocation c l) → locations_fault old c ls at ≡ Valid (at + location_size old * length ls)
  unfolding locations_fault chain
  good_locations [] at g = ap Valid (omega arith)
  good_locations (l ∷ ls) at g =
      rw (good_location l at (g l (Memᴰ.head refl)), good_locations ls (at + location_size old) (λ x m. g x (Memᴰ.tail m))) (ap Valid (omega arith))

  valid-locations : (ls : List Location) (at e : ℕ) → locations_fault old c ls at ≡ Valid e → (l : Location) → Memᴰ l ls → GoodLocation c l
  unfolding locations_fault
  valid-locations [] at e h l m = absurd (Memᴰ.not-nil m)
  valid-locations (x ∷ xs) at e h l m = go (valid-locations xs (at + location_size old) e (chain-rest _ _ _ h) l) (Memᴰ.cases_cons m)
    where
      go : (Memᴰ l xs → GoodLocation c l) → (l ≡ x) ⊎ Memᴰ l xs → GoodLocation c l
      go ih (inl q) = rw q (valid_location x at _ (chain_first _ _ _ h).1)
      go ih (inr q) = ih q

  good_entry : (e : Entry) → GoodEntry old c e → entry_fault old c e ≡ Valid (size (record_fields old e.body))
  unfolding entry_fault must chain
  good_entry e g = rw (g.address-right, good_locations e.body.locations 16 g.locations_good)

  valid-entry : (e : Entry) (n : ℕ) → entry_fault old c e ≡ Valid n → GoodEntry old c e
  unfolding entry_fault
  valid-entry e n h =
      record {
        address-right = must-held _ _ _ _ _ h;
        locations_good = valid-locations e.body.locations 16 _ (chain_first _ _ _ (must-rest _ _ _ _ _ h)).1;
      }

  good_entries : (es : List Entry) (stop : ℕ) → ((e : Entry) → Memᴰ e es → GoodEntry old c e) → entries_fault old c es stop ≡ Valid stop
  unfolding entries_fault chain shift
  good_entries [] stop g = refl
  good_entries (e ∷ es) stop g =
      rw (good_entry e (g e (Memᴰ.head refl)), good_entries es stop (λ x m. g x (Memᴰ.tail m)))

  valid-entries : (es : List Entry) (stop n : ℕ) → entries_fault old c es stop ≡ Valid n → (e : Entry) → Memᴰ e es → GoodEntry old c e
  unfolding entries_fault
  valid-entries [] stop n h e m = absurd (Memᴰ.not-nil m)
  valid-entries (x ∷ xs) stop n h e m = go (valid-entries xs stop n (chain-rest _ _ _ h) e) (Memᴰ.cases_cons m)
    where
      go : (Memᴰ e xs → GoodEntry old c e) → (e ≡ x) ⊎ Memᴰ e xs → GoodEntry old c e
      go ih (inl q) = rw q (valid-entry x _ (shift-valid _ _ _ (chain_first _ _ _ h).1).1)
      go ih (inr q) = ih q

pub good_valid : (t : Section) → Good t → section_fault t ≡ Valid (size (section_fields t))
unfolding section_fault must
good_valid t g =
    rw (le-leb _ _ g.small, g.adds_up, good_entries t.old (length t.constants) (entries_of t) (size (section_fields t)) g.entries_good)

pub valid_good : (t : Section) (n : ℕ) → section_fault t ≡ Valid n → Good t
unfolding section_fault
valid_good t n h =
    let h₁ = must-rest _ _ _ _ _ h in
    record {
      small = leb-true _ _ (must-held _ _ _ _ _ h);
      adds_up = must-held _ _ _ _ _ h₁;
      entries_good = valid-entries _ _ _ _ n (must-rest _ _ _ _ _ h₁);
    }

-- the functions that are read of version 1 have no record counts
no_count : (n : ℕ) (s : List ℕ) (at : ℕ) (f : Function) → Memᴰ f (many (read_function true) (function_size true) n s at) → f.count ≡ 0
unfolding many read_function
no_count zero s at f m = absurd (Memᴰ.not-nil m)
no_count (suc n) s at f m = ⊎_elim (λ e. rw e) (no_count n s (at + 16) f) (Memᴰ.cases_cons m)

read_no_counts : (s : List ℕ) → (read_section s).old ≡ true → (f : Function) → Memᴰ f (read_section s).functions → f.count ≡ 0
unfolding read_section read_functions
read_no_counts s e f m = no_count (num_functions s) s 16 f (rw e at m)

-- a well-formed section's bytes are accepted, and read back as the section
pub well_formed_accepted : (t : Section) → WellFormed t → (section_check (encode_section t) ≡ Valid (length (encode_section t))) × (read_section (encode_section t) ≡ t)
well_formed_accepted t w = (check-back t w.fits ∙ w.no_fault ∙ ap Valid (sym (encoded-length t)), read_back t w.fits w.no_counts)

-- accepted bytes are read as a well-formed section, and are its bytes
pub accepted_well_formed : (s : List ℕ) (e : ℕ) → Bytes s → section_check s ≡ Valid e → WellFormed (read_section s) × (encode_section (read_section s) ≡ s)
accepted_well_formed s e w k =
    let t = read_section s in
    (record { fits = accepted_encodable s e k w; no_counts = read_no_counts s; no_fault = good_valid t (valid_good t e (accepted-fault s e k w)) }, accepted-bytes s e k w)

abbrev Below : List ℕ → Type 0
Below [] = Unit {0}
Below (x ∷ xs) = (x < 256) × Below xs

below_join : (xs ys : List ℕ) → Below xs → Below ys → Below (xs ++ ys)
below_join [] ys h k = k
below_join (x ∷ xs) ys h k = (h.0, below_join xs ys h.1 k)

below-bytes : (n v : ℕ) → Below (bytes n v)
unfolding bytes
below-bytes zero v = tt
below-bytes (suc n) v = (omega arith, below-bytes n (v / 256))

below_fields : (fs : List Field) → Below (bytes_of fs)
unfolding bytes_of
below_fields [] = tt
below_fields (f ∷ fs) = below_join (bytes f.width f.value) (bytes_of fs) (below-bytes f.width f.value) (below_fields fs)

below_at : (xs : List ℕ) → Below xs → (i : ℕ) → get_or xs i 0 < 256
below_at [] h i = omega arith
below_at (x ∷ xs) h zero = h.0
below_at (x ∷ xs) h (suc i) = below_at xs h.1 i

pub bytes_of_lem : (fs : List Field) → Bytes (bytes_of fs)
bytes_of_lem fs = record { below = below_at (bytes_of fs) (below_fields fs) }

section-bytes : (t : Section) → Bytes (encode_section t)
unfolding encode_section
section-bytes t = bytes_of_lem (section_fields t)

pub one_to_one : OneToOne
one_to_one =
    record {
      read_well = λ s w k. (accepted_well_formed s (length s) w k).0;
      encode_read = λ s w k. (accepted_well_formed s (length s) w k).1;
      encode_bytes = section-bytes;
      encode_accepted = λ t w. (well_formed_accepted t w).0;
      read_encode = λ t w. (well_formed_accepted t w).1;
    }

pub built : BuiltRefusal
built = check-back
