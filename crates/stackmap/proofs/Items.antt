-- The items of a section: their sizes, that they are read back, and that their check is that of the data.
use Prim.Native.Nat.{ℕ, zero, suc, ◌+◌, ◌*◌}
use mathlib.Core.Path.{◌≡◌, refl, sym, ◌∙◌, ap}
use mathlib.Core.Bool.{Bool, true, false}
use mathlib.Core.List.{List, [], ◌∷◌}
use native.Mathlib.Omega.{arith}
use native.Mathlib.Nat.{add-zero}
use borrow.Author.Tests.{eq-eqb}
use lib.ListN.{length, get_or}
use Rattle.wire.specs.Word.{word}
use Rattle.stackmap.specs.Verdict.{Valid}
use Rattle.stackmap.specs.Layout.{function_size, location_size}
use Rattle.stackmap.specs.Verdict.{must}
use Rattle.stackmap.specs.Fields.{size, all}
use Rattle.stackmap.specs.Section.{Function, Location, LiveOut, function_fields, constant_fields, location_fields, live_out_fields, read_function, read_constant, read_location, read_live_out}
use Rattle.stackmap.specs.Record.{zeros, location_zeros, location_check, locations, live_outs}
use Rattle.stackmap.specs.Fault.{location_fault, locations_fault}
use Rattle.stackmap.proofs.Fields.{Has, split}

-- Sizes.

pub function-size : (old : Bool) (f : Function) → size (function_fields old f) ≡ function_size old
unfolding size function_fields
function-size true f = refl
function-size false f = refl

pub constant-size : (v : ℕ) → size (constant_fields v) ≡ 8
unfolding size constant_fields
constant-size v = refl

pub location_size_lem : (old : Bool) (l : Location) → size (location_fields old l) ≡ location_size old
unfolding size location_fields
location_size_lem true l = refl
location_size_lem false l = refl

pub live_out_size_lem : (o : LiveOut) → size (live_out_fields o) ≡ 4
unfolding size live_out_fields
live_out_size_lem o = refl

pub byte_word : (s : List ℕ) (a : ℕ) → word 1 s a ≡ get_or s a 0
unfolding word
byte_word s a = omega arith

pub zero_bytes : (s : List ℕ) (a : ℕ) → word 2 s a ≡ 0 → (get_or s a 0 ≡ 0) × (get_or s (a + 1) 0 ≡ 0)
unfolding word
zero_bytes s a h = (omega arith, omega arith)

pub zeros-back : (n : ℕ) (s : List ℕ) (a : ℕ) → word n s a ≡ 0 → zeros n s a ≡ Valid (a + n)
unfolding zeros word must
zeros-back zero s a h = rw add-zero
zeros-back (suc n) s a h =
    let z : get_or s a 0 ≡ 0 = omega arith in
    let e : a + 1 + n ≡ a + suc n = omega arith in
    rw (eq-eqb _ _ z, ← e) (zeros-back n s (a + 1) (omega arith))

-- Items.

-- what is read of a function's bytes: version 1 states no record count
abbrev pub written : Bool → Function → Function
written true f = record { address = f.address; stack_size = f.stack_size; count = 0 }
written false f = f

pub function-back : (old : Bool) (s : List ℕ) (f : Function) (a : ℕ) → Has s a (function_fields old f) → read_function old s a ≡ written old f
unfolding function_fields read_function
function-back true s f a h =
    let k : word 8 s a ≡ f.address = rw add-zero at h.0 in
    rw (k, h.1.0)
function-back false s f a h =
    let k : word 8 s a ≡ f.address = rw add-zero at h.0 in
    rw (k, h.1.0, h.1.1.0)

pub constant-back : (s : List ℕ) (v : ℕ) (a : ℕ) → Has s a (constant_fields v) → read_constant s a ≡ v
unfolding constant_fields read_constant
constant-back s v a h = rw add-zero at h.0

pub location_back : (old : Bool) (s : List ℕ) (l : Location) (a : ℕ) → Has s a (location_fields old l) → read_location old s a ≡ l
unfolding location_fields read_location
location_back true s l a h =
    let k : word 1 s a ≡ l.kind = rw add-zero at h.0 in
    rw (k, h.1.0, h.1.1.0, h.1.1.1.0)
location_back false s l a h =
    let k : word 1 s a ≡ l.kind = rw add-zero at h.0 in
    rw (k, h.1.1.0, h.1.1.1.0, h.1.1.1.1.1.0)

pub live_out_back : (s : List ℕ) (o : LiveOut) (a : ℕ) → Has s a (live_out_fields o) → read_live_out s a ≡ o
unfolding live_out_fields read_live_out
live_out_back s o a h =
    let k : word 2 s a ≡ o.register = rw add-zero at h.0 in
    rw (k, h.1.1.0)

location_fault_lem : (old : Bool) (s : List ℕ) (c : ℕ) (l : Location) (a : ℕ) → Has s a (location_fields old l)
    → location_check old s c a ≡ location_fault old c l a
unfolding location_fields location_check location_zeros location_fault must
location_fault_lem true s c l a h =
    let k : word 1 s a ≡ l.kind = rw add-zero at h.0 in
    let k₀ : get_or s a 0 ≡ l.kind = sym (byte_word s a) ∙ k in
    rw (k₀, h.1.1.1.0)
location_fault_lem false s c l a h =
    let k : word 1 s a ≡ l.kind = rw add-zero at h.0 in
    let k₀ : get_or s a 0 ≡ l.kind = sym (byte_word s a) ∙ k in
    let z₁ : get_or s (a + 1) 0 ≡ 0 = sym (byte_word s (a + 1)) ∙ h.1.0 in
    let z = zero_bytes s (a + 6) h.1.1.1.1.0 in
    let p : a + 6 + 1 ≡ a + 7 = omega arith in
    let z₇ : get_or s (a + 7) 0 ≡ 0 = rw p at z.1 in
    rw (k₀, h.1.1.1.1.1.0, eq-eqb _ _ z₁, eq-eqb _ _ z.0, eq-eqb _ _ z₇)

pub locations-fault : (old : Bool) (s : List ℕ) (c : ℕ) (ls : List Location) (a : ℕ) → Has s a (all (location_fields old) ls)
    → locations old (length ls) s c a ≡ locations_fault old c ls a
unfolding locations locations_fault all
locations-fault old s c [] a h = refl
locations-fault old s c (l ∷ ls) a h =
    let k = split s a (a + location_size old) (location_fields old l) (all (location_fields old) ls) (rw location_size_lem) h in
    rw (location_fault_lem old s c l a k.0, locations-fault old s c ls (a + location_size old) k.1)

pub live_outs-valid : (s : List ℕ) (os : List LiveOut) (a : ℕ) → Has s a (all live_out_fields os) → live_outs (length os) s a ≡ Valid (a + 4 * length os)
unfolding live_outs all must
live_outs-valid s [] a h = ap Valid (omega arith)
live_outs-valid s (o ∷ os) a h =
    let k = split s a (a + 4) (live_out_fields o) (all live_out_fields os) (rw live_out_size_lem) h in
    let z : get_or s (a + 2) 0 ≡ 0 = sym (byte_word s (a + 2)) ∙ (unfold live_out_fields in k.0.1.0) in
    let e : a + 4 + 4 * length os ≡ a + 4 * suc (length os) = omega arith in
    rw (eq-eqb _ _ z, ← e) (live_outs-valid s os (a + 4) k.1)
