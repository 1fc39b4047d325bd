-- What a valid verdict tells of the section's parts, and that each place of a verdict is inside its stretch.
use Prim.Native.Nat.{ℕ, zero, suc, ◌+◌, ◌*◌, ◌-◌, ◌%◌, ◌^◌, ◌≤◌}
use mathlib.Core.Path.{◌≡◌, refl}
use mathlib.Core.List.{List, [], ◌∷◌}
use mathlib.Core.Bool.{Bool, true, false, true≢false}
use native.Mathlib.Omega.{arith}
use borrow.Author.Tests.{leb-true, eqb-true}
use lib.ListN.{length, take, drop, length-drop}
use lib.Seq.{take_all}
use lib.Dec.{leb}
use Rattle.wire.specs.Word.{word}
use Rattle.stackmap.specs.Verdict.{Verdict}
use Rattle.stackmap.specs.Verdict.{Valid, Refused}
use Rattle.stackmap.specs.Layout.{location_size}
use Rattle.stackmap.specs.Verdict.{must, chain, bind, pick, shift}
use Rattle.stackmap.specs.Section.{Function, num_locations, locations_end, num_live_outs, record_length, records_at, Owner, counted}
use Rattle.stackmap.specs.Record.{zeros, location_zeros, pool_check, location_check, locations, live_outs, record_inside, record_bytes, address_right, record_check}
use Rattle.stackmap.specs.Check.{header_check, counts_right, tables_check, records_check, walk_check, section_check}
use Rattle.stackmap.specs.Walk.{Walkable}
use Rattle.stackmap.proofs.Verdicts.{must-held, must-rest, chain_first, chain-rest, chain-chain, shift-valid}

-- a record that is inside
pub is-inside : (old : Bool) (s : List ℕ) (e : ℕ) → record_inside old s ≡ Valid e → record_length old s ≤ length s
unfolding record_inside
is-inside old s e h = leb-true _ _ (must-held (leb (record_length old s) (length s)) 4 0 (Valid (record_length old s)) e h)

-- its header is inside
pub header_inside : (old : Bool) (s : List ℕ) → record_length old s ≤ length s → 16 ≤ length s
unfolding record_length
header_inside old s h = omega arith

-- the place of a verdict
abbrev pub end_of : Verdict → ℕ
end_of (Valid p) = p
end_of (Refused k p) = p

-- it is at most n
pub record Within (n : ℕ) (r : Verdict) : Type 0 where
  pub most : end_of r ≤ n

within_must : (m : ℕ) (b : Bool) (n p : ℕ) (k : Verdict) → p ≤ m → Within m k → Within m (must b n p k)
unfolding must
within_must m true n p k h w = w
within_must m false n p k h w = record { most = h }

within_chain : (m : ℕ) (a k : Verdict) → Within m a → Within m k → Within m (chain a k)
unfolding chain
within_chain m (Valid e) k h w = w
within_chain m (Refused n p) k h w = h

within_pick : (m : ℕ) (b : Bool) (j k : Verdict) → Within m j → Within m k → Within m (pick b j k)
unfolding pick
within_pick m true j k h w = h
within_pick m false j k h w = w

zeros_within : (m n : ℕ) (s : List ℕ) (at : ℕ) → at + n ≤ m → Within m (zeros n s at)
unfolding zeros
zeros_within m zero s at h = omega arith
zeros_within m (suc n) s at h = within_must m _ 3 at _ (omega arith) (zeros_within m n s (at + 1) (omega arith))

live_outs_within : (m n : ℕ) (s : List ℕ) (at : ℕ) → at + 4 * n ≤ m → Within m (live_outs n s at)
unfolding live_outs
live_outs_within m zero s at h = omega arith
live_outs_within m (suc n) s at h = within_must m _ 3 (at + 2) _ (omega arith) (live_outs_within m n s (at + 4) (omega arith))

pool_within : (m kind offset c at end : ℕ) → at ≤ m → end ≤ m → Within m (pool_check kind offset c at end)
unfolding pool_check
pool_within m kind offset c at end h e =
    within_pick m _ _ _
    (within_must m _ 7 at _ h (within_must m _ 7 at _ h (record { most = e })))
    (record { most = e })

location_zeros_within : (m : ℕ) (old : Bool) (s : List ℕ) (at : ℕ) (k : Verdict) → at + location_size old ≤ m → Within m k → Within m (location_zeros old s at k)
unfolding location_zeros
location_zeros_within m true s at k h w = w
location_zeros_within m false s at k h w =
    within_must m _ 3 _ _ (omega arith) (within_must m _ 3 _ _ (omega arith) (within_must m _ 3 _ _ (omega arith) w))

location_within : (m : ℕ) (old : Bool) (s : List ℕ) (c at : ℕ) → at + location_size old ≤ m → Within m (location_check old s c at)
unfolding location_check
location_within m old s c at h =
    within_must m _ 6 at _ (omega arith)
    (within_must m _ 6 at _ (omega arith)
    (location_zeros_within m old s at _ h (pool_within m _ _ c at (at + location_size old) (omega arith) h)))

locations_within : (m : ℕ) (old : Bool) (n : ℕ) (s : List ℕ) (c at : ℕ) → at + location_size old * n ≤ m → Within m (locations old n s c at)
unfolding locations
locations_within m old zero s c at h = omega arith
locations_within m old (suc n) s c at h =
    within_chain m _ _ (location_within m old s c at (omega arith)) (locations_within m old n s c (at + location_size old) (omega arith))

-- every place that the check of a record gives is inside its stretch
bytes_within : (old : Bool) (s : List ℕ) (c : ℕ) → record_length old s ≤ length s → Within (length s) (record_bytes old s c)
unfolding record_bytes record_length
bytes_within old s c h =
    within_chain _ _ _ (zeros_within _ 2 s 12 (omega arith))
    (within_chain _ _ _ (locations_within _ old (num_locations s) s c 16 (omega arith))
    (within_chain _ _ _ (zeros_within _ _ s _ (omega arith))
    (within_chain _ _ _ (live_outs_within _ _ s _ (omega arith))
    (within_chain _ (zeros ((num_live_outs old s + 1) % 2 * 4) s (locations_end old s + 4 + 4 * num_live_outs old s)) _ (zeros_within _ _ s _ (omega arith))
    (omega arith)))))

pub record_within : (old : Bool) (s : List ℕ) (c a : ℕ) → Within (length s) (record_check old s c a)
unfolding record_check record_inside chain must
record_within old s c a = go (leb (record_length old s) (length s)) refl
  where
    go : (b : Bool) → leb (record_length old s) (length s) ≡ b → Within (length s) (record_check old s c a)
    go true e = rw e (within_must (length s) (address_right old (a + word 4 s 8)) 8 0 (record_bytes old s c) (omega arith) (bytes_within old s c (leb-true _ _ e)))
    go false e = rw e (record { most = omega arith })

within_shift : (m p : ℕ) (r : Verdict) → p ≤ m → Within (m - p) r → Within m (shift p r)
unfolding shift
within_shift m p (Valid e) h w = record { most = let z = w.most in omega arith }
within_shift m p (Refused n e) h w = record { most = let z = w.most in omega arith }

within_bind : (m : ℕ) (a : Verdict) (k : ℕ → Verdict) → Within m a → ((e : ℕ) → e ≤ m → Within m (k e)) → Within m (bind a k)
unfolding bind
within_bind m (Valid e) k h w = w e h.most
within_bind m (Refused n p) k h w = record { most = h.most }

-- a record that stands at `at`
pub at_within : (old : Bool) (s : List ℕ) (c a at : ℕ) → at ≤ length s → Within (length s) (shift at (record_check old (drop at s) c a))
at_within old s c a at h = within_shift _ _ _ h (rw length-drop at (record_within old (drop at s) c a))

pub walk_within : (old : Bool) (os : List Owner) (s : List ℕ) (c at : ℕ) → at ≤ length s → Within (length s) (records_check old os s c at)
unfolding records_check
walk_within old [] s c at h = record { most = h }
walk_within old (o ∷ os) s c at h =
    within_bind _ _ _
    (at_within old s c o.function.address at h)
    (λ e w. walk_within old os s c e w)

-- the part `&s[p..]`
pub part-from : (s : List ℕ) (p : ℕ) → take (length s - p) (drop p s) ≡ drop p s
part-from s p = take_all (length s - p) (drop p s) (omega (arith, length-drop p s))

pub header_held : (s : List ℕ) (e : ℕ) → header_check s ≡ Valid e → 16 ≤ length s
unfolding header_check
header_held s e h = leb-true _ _ (must-held _ _ _ _ _ h)

-- the record counts add up, where there are some
pub counts-held : (old : Bool) (fs : List Function) (n : ℕ) → counts_right old fs n ≡ true → old ≡ false → counted fs ≡ n
unfolding counts_right
counts-held true fs n h e = absurd (true≢false e)
counts-held false fs n h e = eqb-true _ _ h

-- where the records begin, and what the walk over them relies on
pub record BeforeRecords (s : List ℕ) (e : ℕ) : Type 0 where
  pub begins : e ≡ records_at s
  pub inside : records_at s ≤ length s
  pub walkable : Walkable s

pub tables-held : (s : List ℕ) (e : ℕ) → tables_check s ≡ Valid e → BeforeRecords s e
unfolding tables_check
tables-held s e h =
    let h₁ = must-rest _ _ _ _ _ h in
    let h₂ = must-rest _ _ _ _ _ h₁ in
    let h₃ = must-rest _ _ _ _ _ h₂ in
    record {
      begins = cc;
      inside = leb-true _ _ (must-held _ _ _ _ _ h₁);
      walkable = record { inside = leb-true _ _ (must-held _ _ _ _ _ h); adds_up = counts-held _ _ _ (must-held _ _ _ _ _ h₂) };
    }

-- all before the records is valid
pub begin_held : (s : List ℕ) (e : ℕ) → chain (header_check s) (tables_check s) ≡ Valid e → BeforeRecords s e
begin_held s e h = tables-held s e (chain-rest _ _ _ h)

-- what comes before the records, and the records
pub section_parts : (s : List ℕ) → section_check s ≡ chain (chain (header_check s) (tables_check s)) (walk_check s)
unfolding section_check
section_parts s = chain-chain (header_check s) (tables_check s) (walk_check s)

-- a valid record that stands at p: its head is inside, and it ends where the verdict says
pub here-inside : (old : Bool) (s : List ℕ) (c a p q : ℕ) → p ≤ length s → shift p (record_check old (drop p s) c a) ≡ Valid q → p + 16 ≤ length s
unfolding record_check
here-inside old s c a p q i v =
    let x = shift-valid _ _ _ v in
    let l = length-drop p s in
    let h = header_inside old (drop p s) (is-inside old (drop p s) _ (chain_first _ _ _ x.1).1) in
    omega arith
