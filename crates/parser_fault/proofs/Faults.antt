-- The refusals of a listing's items, as the section that is built of them would get them.
use Prim.Native.Nat.{ℕ, ◌+◌, ◌*◌, ◌-◌, ◌≤◌, ◌<◌, ◌^◌}
use mathlib.Core.Path.{◌≡◌, refl, sym, ap}
use mathlib.Core.List.{List, [], ◌∷◌}
use mathlib.Core.Bool.{Bool, true, false, true≢false}
use borrow.Author.Tests.{lt-leb}
use native.Mathlib.Omega.{arith}
use native.Mathlib.Nat.{add-zero, add_assoc}
use lib.ListN.{get_or}
use lib.Dec.{leb, eqb, ltb}
use Rattle.wire.specs.Word.{word}
use Rattle.stackmap.specs.Verdict.{Verdict}
use Rattle.stackmap.specs.Verdict.{Valid, Refused}
use Rattle.stackmap.specs.Layout.{location_size}
use Rattle.stackmap.specs.Verdict.{must, chain, pick, shift}
use Rattle.stackmap.specs.Fields.{many, size}
use Rattle.stackmap.specs.Section.{Location, record_fields, Entry, address}
use Rattle.stackmap.specs.Record.{pool_check, address_right}
use Rattle.stackmap.proofs.Addresses.{address-fits, same_test}
use Rattle.stackmap.specs.Fault.{location_fault, locations_fault, entry_fault}
use Rattle.stackmap.proofs.Steps.{many_step, next_place}
use Rattle.stackmap.proofs.Items.{byte_word}
use Rattle.listing.specs.Listing.{listed_location, listed_record}
use Rattle.parser_items.specs.Count.{RecordCounted}
use Rattle.parser_items.specs.Survey.{record_size}
use Rattle.parser_fault.specs.Walk.{listed_owner, listed_entry}
use Rattle.parser_items.proofs.Records.{shape_size}

-- a verdict about a part, said of the whole, test by test
shift-must : (p : ℕ) (b : Bool) (n q : ℕ) (k : Verdict) → shift p (must b n q k) ≡ must b n (p + q) (shift p k)
unfolding shift must
shift-must p true n q k = refl
shift-must p false n q k = refl

shift-chain : (p : ℕ) (a k : Verdict) → shift p (chain a k) ≡ chain (shift p a) (shift p k)
unfolding shift chain
shift-chain p (Valid e) k = refl
shift-chain p (Refused n q) k = refl

shift-pick : (p : ℕ) (b : Bool) (j k : Verdict) → shift p (pick b j k) ≡ pick b (shift p j) (shift p k)
unfolding pick
shift-pick p true j k = refl
shift-pick p false j k = refl

shift-end : (p at n : ℕ) → shift p (Valid (at + n)) ≡ Valid (p + at + n)
unfolding shift
shift-end p at n = ap Valid (omega arith)

shift_location : (old : Bool) (p c : ℕ) (x : Location) (at : ℕ) → shift p (location_fault old c x at) ≡ location_fault old c x (p + at)
unfolding location_fault pool_check
shift_location old p c x at = simp (shift-must, shift-pick, shift-end)

pub shift-locations : (old : Bool) (p c : ℕ) (xs : List Location) (at : ℕ) → shift p (locations_fault old c xs at) ≡ locations_fault old c xs (p + at)
unfolding locations_fault
shift-locations old p c [] at = unfold shift in refl
shift-locations old p c (x ∷ xs) at = rw (shift-chain, shift_location, shift-locations old p c xs (at + location_size old), add_assoc)

-- a record's refusal, with places of the section
pub entry-placed : (old : Bool) (p c : ℕ) (e : Entry)
    → shift p (entry_fault old c e) ≡ must (address_right old (address e)) 8 p (chain (locations_fault old c e.body.locations (p + 16)) (Valid (p + size (record_fields old e.body))))
unfolding entry_fault
entry-placed old p c e = rw (shift-must, add-zero, shift-chain, shift-locations) (unfold shift in refl)

-- one location after the other
pub locations_step : (old : Bool) (c n : ℕ) (l : List ℕ) (at p : ℕ) → 0 < n
    → locations_fault old c (many listed_location 10 n l at) p
    ≡ chain (location_fault old c (listed_location l at) p) (locations_fault old c (many listed_location 10 (n - 1) l (at + 10)) (p + location_size old))
unfolding locations_fault
locations_step old c n l at p h = rw (many_step listed_location 10 n l at h)

-- the same for a loop that counts up: item number i of n
pub locations_turn : (old : Bool) (c n i : ℕ) (l : List ℕ) (at p : ℕ) → i < n
    → locations_fault old c (many listed_location 10 (n - i) l (at + 10 * i)) (p + location_size old * i)
    ≡ chain (location_fault old c (listed_location l (at + 10 * i)) (p + location_size old * i))
    (locations_fault old c (many listed_location 10 (n - (i + 1)) l (at + 10 * (i + 1))) (p + location_size old * (i + 1)))
locations_turn old c n i l at p h =
    let fewer : n - i - 1 ≡ n - (i + 1) = omega arith in
    rw (locations_step old c (n - i) l (at + 10 * i) (p + location_size old * i) (omega arith), fewer, next_place 10 at i, next_place (location_size old) p i)

-- a location's refusal, by the bytes of its item
pub location_listed : (old : Bool) (c : ℕ) (l : List ℕ) (at p : ℕ)
    → location_fault old c (listed_location l at) p
    ≡ must (leb 1 (get_or l (at + 1) 0)) 6 p
    (must (leb (get_or l (at + 1) 0) 5) 6 p
    (pick (eqb (get_or l (at + 1) 0) 5)
    (must (ltb (word 4 l (at + 6)) (2 ^ 31)) 7 p (must (ltb (word 4 l (at + 6)) c) 7 p (Valid (p + location_size old))))
    (Valid (p + location_size old))))
unfolding location_fault pool_check listed_location
location_listed old c l at p = rw byte_word

-- a record's refusal, by the bytes of its items and its owner's address
pub entry_listed : {l : List ℕ} {at n m stop : ℕ} (old : Bool) (i p c : ℕ) → RecordCounted l at n m stop
    → shift p (entry_fault old c (listed_entry l old i at p))
    ≡ must (address_right old ((listed_owner l old i).function.address + word 4 l (at + 9))) 8 p
    (chain (locations_fault old c (many listed_location 10 n l (at + 13)) (p + 16)) (Valid (p + record_size old n m)))
unfolding address listed_record
entry_listed {l} {at} old i p c h = rw (entry-placed old p c (listed_entry l old i at p), shape_size h old, h.locations_are)

owner_zero : (old : Bool) (l : List ℕ) (i : ℕ) → old ≡ true → (listed_owner l old i).function.address ≡ 0
unfolding listed_owner
owner_zero true l i h = refl
owner_zero false l i h = absurd (true≢false (sym h))

-- 8: its address does not fit; a record of version 1 is at its offset, which always does
pub entry-over : {l : List ℕ} {at n m stop : ℕ} (old : Bool) (i p c : ℕ) → RecordCounted l at n m stop → word 4 l (at + 9) < 2 ^ 32
    → 2 ^ 64 - 1 < (listed_owner l old i).function.address + word 4 l (at + 9) → shift p (entry_fault old c (listed_entry l old i at p)) ≡ Refused 8 p
unfolding must
entry-over {l} {at} old i p c h small over = rw (entry_listed old i p c h, same_test old (listed_owner l old i).function.address (word 4 l (at + 9)) (owner_zero old l i) small, lt-leb _ _ over)

-- its address fits
pub entry-fits : {l : List ℕ} {at n m stop : ℕ} (old : Bool) (i p c : ℕ) → RecordCounted l at n m stop → (listed_owner l old i).function.address + word 4 l (at + 9) ≤ 2 ^ 64 - 1
    → shift p (entry_fault old c (listed_entry l old i at p)) ≡ chain (locations_fault old c (many listed_location 10 n l (at + 13)) (p + 16)) (Valid (p + record_size old n m))
unfolding must
entry-fits old i p c h f = rw (entry_listed old i p c h, address-fits old _ f)
