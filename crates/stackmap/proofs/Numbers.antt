-- Which numbers refusals have: those of a section have 1 to 9. What 0 means, and the bits of an offset.
use Prim.Native.Nat.{ℕ, zero, suc, ◌+◌, ◌*◌, ◌-◌, ◌^◌, ◌≤◌, ◌<◌}
use mathlib.Core.Path.{◌≡◌, refl, ap, ◌∙◌}
use mathlib.Core.List.{List, [], ◌∷◌}
use mathlib.Core.Bool.{Bool, true, false}
use native.Mathlib.Omega.{arith}
use native.Mathlib.Decide.{dec_lt}
use borrow.Author.Tests.{lt-ltb, le-ltb}
use lib.ListN.{drop}
use Rattle.stackmap.specs.Verdict.{Verdict}
use Rattle.stackmap.specs.Verdict.{Valid, Refused}
use Rattle.stackmap.specs.Layout.{location_size}
use Rattle.stackmap.specs.Verdict.{number_of, must, chain, pick, shift, bind}
use Rattle.stackmap.specs.Section.{as_offset, offset_bits, Owner}
use Rattle.stackmap.specs.Record.{zeros, location_zeros, pool_check, location_check, locations, live_outs, record_inside, record_bytes, record_check}
use Rattle.stackmap.specs.Check.{header_check, tables_check, records_check, walk_check, section_check, Accepted}
use Rattle.stackmap.specs.Laws.{AcceptedIsZero, SignedOffsets}
use Rattle.stackmap.proofs.Forth.{accepted-length}

abbrev pub above_of : Verdict → ℕ
above_of (Valid e) = 1
above_of (Refused n p) = n

-- a refusal has a number from 1 to m
pub record Numbered (m : ℕ) (c : Verdict) : Type 0 where
  pub above : 0 < above_of c
  pub low : number_of c ≤ m

pub n_more : {m k : ℕ} {c : Verdict} → m ≤ k → Numbered m c → Numbered k c
n_more h a = record { above = a.above; low = let l = a.low in omega arith }

module _ {m : ℕ} where
  pub n_valid : (e : ℕ) → Numbered m (Valid e)
  n_valid e = record { above = omega arith; low = omega arith }

  pub n_must : (b : Bool) (n p : ℕ) (k : Verdict) → n < m → Numbered m k → Numbered m (must b (suc n) p k)
  unfolding must
  n_must true n p k h a = a
  n_must false n p k h a = record { above = omega arith; low = omega arith }

  pub n_chain : (a k : Verdict) → Numbered m a → Numbered m k → Numbered m (chain a k)
  unfolding chain
  n_chain (Valid e) k h w = w
  n_chain (Refused n p) k h w = h

  n_pick : (b : Bool) (j k : Verdict) → Numbered m j → Numbered m k → Numbered m (pick b j k)
  unfolding pick
  n_pick true j k h w = h
  n_pick false j k h w = w

  pub n_shift : (p : ℕ) (c : Verdict) → Numbered m c → Numbered m (shift p c)
  unfolding shift
  n_shift p (Valid e) h = n_valid (p + e)
  n_shift p (Refused n q) h = record { above = h.above; low = h.low }

  n_bind : (a : Verdict) (k : ℕ → Verdict) → Numbered m a → ((e : ℕ) → Numbered m (k e)) → Numbered m (bind a k)
  unfolding bind
  n_bind (Valid e) k h w = w e
  n_bind (Refused n p) k h w = record { above = h.above; low = h.low }

n_zeros : (n : ℕ) (s : List ℕ) (at : ℕ) → Numbered 9 (zeros n s at)
unfolding zeros
n_zeros zero s at = n_valid at
n_zeros (suc n) s at = n_must _ 2 at _ (omega arith) (n_zeros n s (at + 1))

n_location_zeros : (old : Bool) (s : List ℕ) (at : ℕ) (k : Verdict) → Numbered 9 k → Numbered 9 (location_zeros old s at k)
unfolding location_zeros
n_location_zeros true s at k h = h
n_location_zeros false s at k h = n_must _ 2 _ _ (omega arith) (n_must _ 2 _ _ (omega arith) (n_must _ 2 _ _ (omega arith) h))

pub n_pool : (kind offset c at end : ℕ) → Numbered 9 (pool_check kind offset c at end)
unfolding pool_check
n_pool kind offset c at end = n_pick _ _ _ (n_must _ 6 _ _ (omega arith) (n_must _ 6 _ _ (omega arith) (n_valid _))) (n_valid _)

n_location : (old : Bool) (s : List ℕ) (c at : ℕ) → Numbered 9 (location_check old s c at)
unfolding location_check
n_location old s c at =
    n_must _ 5 _ _ (omega arith) (n_must _ 5 _ _ (omega arith) (n_location_zeros old s at _ (n_pool _ _ c at _)))

n_locations : (old : Bool) (n : ℕ) (s : List ℕ) (c at : ℕ) → Numbered 9 (locations old n s c at)
unfolding locations
n_locations old zero s c at = n_valid at
n_locations old (suc n) s c at = n_chain _ _ (n_location old s c at) (n_locations old n s c (at + location_size old))

n_outs : (n : ℕ) (s : List ℕ) (at : ℕ) → Numbered 9 (live_outs n s at)
unfolding live_outs
n_outs zero s at = n_valid at
n_outs (suc n) s at = n_must _ 2 _ _ (omega arith) (n_outs n s (at + 4))

n_record : (old : Bool) (s : List ℕ) (c a : ℕ) → Numbered 9 (record_check old s c a)
unfolding record_check record_inside record_bytes
n_record old s c a =
    n_chain _ _ (n_must _ 3 _ _ (omega arith) (n_valid _)) (n_must _ 7 _ _ (omega arith)
    (n_chain _ _ (n_zeros 2 s 12) (n_chain _ _ (n_locations old _ s c 16) (n_chain _ _ (n_zeros _ s _)
    (n_chain _ _ (n_outs _ s _) (n_chain _ _ (n_zeros _ s _) (n_valid _)))))))

n_walk : (old : Bool) (os : List Owner) (s : List ℕ) (c at : ℕ) → Numbered 9 (records_check old os s c at)
unfolding records_check
n_walk old [] s c at = n_valid at
n_walk old (o ∷ os) s c at = n_bind _ _ (n_shift at _ (n_record old (drop at s) c o.function.address)) (λ e. n_walk old os s c e)

pub section-numbered : (s : List ℕ) → Numbered 9 (section_check s)
unfolding section_check header_check tables_check walk_check
section-numbered s =
    n_chain _ _ (n_must _ 0 _ _ (omega arith) (n_must _ 0 _ _ (omega arith) (n_must _ 1 _ _ (omega arith) (n_zeros 3 s 1))))
    (n_chain _ _ (n_must _ 3 _ _ (omega arith) (n_must _ 3 _ _ (omega arith) (n_must _ 4 _ _ (omega arith) (n_valid _))))
    (n_bind _ _ (n_walk _ _ s _ _) (λ p. n_must _ 8 _ _ (omega arith) (n_valid p))))

-- a section is accepted exactly when its refusal number is 0
pub accepted_is_zero : AcceptedIsZero
accepted_is_zero = record { accepted_zero = λ s h. rw h; zero_accepted = λ s h. go s (section_check s) refl (section-numbered s) h }
  where
    go : (s : List ℕ) (v : Verdict) → section_check s ≡ v → Numbered 9 v → number_of v ≡ 0 → Accepted s
    go s (Valid e) q a h = q ∙ ap Valid (accepted-length s e q).0
    go s (Refused n p) q a h = absurd (let z = a.above in omega arith)

-- the 32 bits of an offset are one signed number
pub signed_offsets : SignedOffsets
unfolding as_offset
signed_offsets = record { one_number = λ bits h. go bits h (dec_lt bits (2 ^ 31)); minus_eight = refl }
  where
    go : (bits : ℕ) → bits < 2 ^ 32 → Dec (bits < 2 ^ 31) → offset_bits (as_offset bits) ≡ bits
    go bits h (yes l) = rw (lt-ltb bits (2 ^ 31) l)
    go bits h (no l) = rw (le-ltb bits (2 ^ 31) (omega arith)) (omega arith)
