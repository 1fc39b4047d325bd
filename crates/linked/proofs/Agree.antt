-- The check of a record reads the record's bytes and no others: two lists that agree there give the same, which is never 9.
use Prim.Native.Nat.{ℕ, zero, suc, ◌+◌, ◌*◌, ◌%◌, ◌≤◌, ◌<◌}
use mathlib.Core.Path.{◌≡◌, refl, ap}
use mathlib.Core.Bool.{Bool, true, false}
use mathlib.Core.List.{List}
use native.Mathlib.Omega.{arith}
use borrow.Author.Tests.{le-leb, leb-true}
use lib.ListN.{length, get_or, drop}
use lib.Dec.{eqb, leb}
use lib.Seq.{get_or-drop}
use Rattle.wire.specs.Word.{word}
use Rattle.stackmap.specs.Verdict.{Verdict}
use Rattle.stackmap.specs.Verdict.{Valid}
use Rattle.stackmap.specs.Layout.{function_size, location_size, location_offset_at}
use Rattle.stackmap.specs.Verdict.{must, chain, pick}
use Rattle.stackmap.specs.Fields.{many}
use Rattle.stackmap.specs.Section.{num_locations, locations_end, num_live_outs, record_length, read_function, read_location, read_live_out, read_record}
use Rattle.stackmap.specs.Record.{zeros, location_zeros, pool_check, location_check, locations, live_outs, record_inside, record_bytes, address_right, record_check}
use Rattle.stackmap.proofs.Numbers.{Numbered, n_valid, n_must, n_chain}

-- two lists agree below p
pub record Agree (p : ℕ) (s t : List ℕ) : Type 0 where
  pub byte : (i : ℕ) → i < p → get_or s i 0 ≡ get_or t i 0

pub agree_self : (p : ℕ) (s : List ℕ) → Agree p s s
agree_self p s = record { byte = λ i h. refl }

pub agree_drop : (a n p : ℕ) (s t : List ℕ) → Agree p s t → a + n ≤ p → Agree n (drop a s) (drop a t)
agree_drop a n p s t g h = record { byte = λ i l. rw (get_or-drop a s i 0, get_or-drop a t i 0) (g.byte (a + i) (omega arith)) }

pub agree_word : (n : ℕ) (p : ℕ) (s t : List ℕ) (at : ℕ) → Agree p s t → at + n ≤ p → word n s at ≡ word n t at
unfolding word
agree_word zero p s t at g h = refl
agree_word (suc n) p s t at g h = rw (g.byte at (omega arith), agree_word n p s t (at + 1) g (omega arith))

-- items one after the other, each of which is read from its own bytes
pub agree_many : {A : Type 0} (read : List ℕ → ℕ → A) (step n p : ℕ) (s t : List ℕ) (at : ℕ) → ((q : ℕ) → q + step ≤ p → read s q ≡ read t q)
    → at + step * n ≤ p → many read step n s at ≡ many read step n t at
unfolding many
agree_many read step zero p s t at r h = refl
agree_many read step (suc n) p s t at r h = rw (r at (omega arith), agree_many read step n p s t (at + step) r (omega arith))

-- the same verdict, and not 9
pub record Alike (v w : Verdict) : Type 0 where
  pub same : v ≡ w
  pub low : Numbered 8 v

alike_valid : (e : ℕ) → Alike (Valid e) (Valid e)
alike_valid e = record { same = refl; low = n_valid e }

alike_must : (b b' : Bool) (n p : ℕ) (k k' : Verdict) → b ≡ b' → n < 8 → Alike k k' → Alike (must b (suc n) p k) (must b' (suc n) p k')
alike_must b b' n p k k' e h a = record { same = rw (e, a.same); low = n_must b n p k h a.low }

alike_chain : {a b k k' : Verdict} → Alike a b → Alike k k' → Alike (chain a k) (chain b k')
alike_chain x y = record { same = rw (x.same, y.same); low = n_chain _ _ x.low y.low }

alike_pick : (b : Bool) (j k : Verdict) → Alike j j → Alike k k → Alike (pick b j k) (pick b j k)
unfolding pick
alike_pick true j k x y = x
alike_pick false j k x y = y

module _ (p : ℕ) (s t : List ℕ) (g : Agree p s t) where
  -- a byte that has to be zero
  zero_byte : (at : ℕ) → at < p → eqb (get_or s at 0) 0 ≡ eqb (get_or t at 0) 0
  zero_byte at h = ap (λ (b : ℕ). eqb b 0) (g.byte at h)

  pub alike_zeros : (n at : ℕ) → at + n ≤ p → Alike (zeros n s at) (zeros n t at)
  unfolding zeros
  alike_zeros zero at h = alike_valid at
  alike_zeros (suc n) at h = alike_must _ _ 2 at _ _ (zero_byte at (omega arith)) (omega arith) (alike_zeros n (at + 1) (omega arith))

  alike_live_outs : (n at : ℕ) → at + 4 * n ≤ p → Alike (live_outs n s at) (live_outs n t at)
  unfolding live_outs
  alike_live_outs zero at h = alike_valid at
  alike_live_outs (suc n) at h =
      alike_must _ _ 2 (at + 2) _ _ (zero_byte (at + 2) (omega arith)) (omega arith) (alike_live_outs n (at + 4) (omega arith))

  alike_pool : (kind offset c at end : ℕ) → Alike (pool_check kind offset c at end) (pool_check kind offset c at end)
  unfolding pool_check
  alike_pool kind offset c at end =
      alike_pick _ _ _
      (alike_must _ _ 6 at _ _ refl (omega arith) (alike_must _ _ 6 at _ _ refl (omega arith) (alike_valid end)))
      (alike_valid end)

  alike_location_zeros : (old : Bool) (at : ℕ) (k : Verdict) → at + location_size old ≤ p → Alike k k → Alike (location_zeros old s at k) (location_zeros old t at k)
  unfolding location_zeros
  alike_location_zeros true at k h a = a
  alike_location_zeros false at k h a =
      alike_must _ _ 2 _ _ _ (zero_byte (at + 1) (omega arith)) (omega arith)
      (alike_must _ _ 2 _ _ _ (zero_byte (at + 6) (omega arith)) (omega arith)
      (alike_must _ _ 2 _ _ _ (zero_byte (at + 7) (omega arith)) (omega arith) a))

  offset-inside : (old : Bool) (at : ℕ) → at + location_size old ≤ p → (at + location_offset_at old + 4 ≤ p) × (at < p)
  offset-inside true at h = (omega arith, omega arith)
  offset-inside false at h = (omega arith, omega arith)

  alike_location : (old : Bool) (c at : ℕ) → at + location_size old ≤ p → Alike (location_check old s c at) (location_check old t c at)
  unfolding location_check
  alike_location old c at h =
      let i = offset-inside old at h in
      rw (g.byte at i.1, agree_word 4 p s t (at + location_offset_at old) g i.0)
      (alike_must _ _ 5 at _ _ refl (omega arith)
      (alike_must _ _ 5 at _ _ refl (omega arith)
      (alike_location_zeros old at _ h (alike_pool _ _ c at _))))

  alike_locations : (old : Bool) (n c at : ℕ) → at + location_size old * n ≤ p → Alike (locations old n s c at) (locations old n t c at)
  unfolding locations
  alike_locations old zero c at h = alike_valid at
  alike_locations old (suc n) c at h =
      alike_chain (alike_location old c at (omega arith)) (alike_locations old n c (at + location_size old) (omega arith))

  pub function-same : (old : Bool) (q : ℕ) → q + function_size old ≤ p → read_function old s q ≡ read_function old t q
  unfolding read_function
  function-same true q h = rw (agree_word 8 p s t q g (omega arith), agree_word 8 p s t (q + 8) g (omega arith))
  function-same false q h =
      rw (agree_word 8 p s t q g (omega arith), agree_word 8 p s t (q + 8) g (omega arith), agree_word 8 p s t (q + 16) g (omega arith))

  location_same : (old : Bool) (q : ℕ) → q + location_size old ≤ p → read_location old s q ≡ read_location old t q
  unfolding read_location
  location_same true q h =
      rw (agree_word 1 p s t q g (omega arith), agree_word 1 p s t (q + 1) g (omega arith), agree_word 2 p s t (q + 2) g (omega arith), agree_word 4 p s t (q + 4) g (omega arith))
  location_same false q h =
      rw (agree_word 1 p s t q g (omega arith), agree_word 2 p s t (q + 2) g (omega arith), agree_word 2 p s t (q + 4) g (omega arith), agree_word 4 p s t (q + 8) g (omega arith))

  live_out_same : (q : ℕ) → q + 4 ≤ p → read_live_out s q ≡ read_live_out t q
  unfolding read_live_out
  live_out_same q h = rw (agree_word 2 p s t q g (omega arith), agree_word 1 p s t (q + 3) g (omega arith))

-- A record at the start of both lists.

module _ (old : Bool) (s t : List ℕ) (g : Agree (record_length old s) s t) where
  locations-count : num_locations s ≡ num_locations t
  unfolding record_length
  locations-count = agree_word 2 _ s t 14 g (omega arith)

  live_outs-count : word 2 s (locations_end old s + 2) ≡ word 2 t (locations_end old s + 2)
  unfolding record_length
  live_outs-count = agree_word 2 _ s t (locations_end old s + 2) g (omega arith)

  offset-same : word 4 s 8 ≡ word 4 t 8
  unfolding record_length
  offset-same = agree_word 4 _ s t 8 g (omega arith)

  pub length-same : record_length old t ≡ record_length old s
  unfolding record_length
  length-same = rw (← locations-count, ← live_outs-count)

  pub record_same : read_record old s ≡ read_record old t
  unfolding read_record record_length
  record_same =
      rw (
        ← locations-count,
        ← live_outs-count,
        agree_word 8 _ s t 0 g (omega arith),
        offset-same,
        agree_many (read_location old) (location_size old) (num_locations s) _ s t 16 (location_same _ s t g old) (omega arith),
        agree_many read_live_out 4 (num_live_outs old s) _ s t (locations_end old s + 4) (live_out_same _ s t g) (omega arith),
      )

  alike_bytes : (c : ℕ) → Alike (record_bytes old s c) (record_bytes old t c)
  unfolding record_bytes record_length
  alike_bytes c =
      rw (← locations-count, ← live_outs-count)
      (alike_chain (alike_zeros _ s t g 2 12 (omega arith))
      (alike_chain (alike_locations _ s t g old (num_locations s) c 16 (omega arith))
      (alike_chain (alike_zeros _ s t g _ _ (omega arith))
      (alike_chain (alike_live_outs _ s t g (num_live_outs old s) (locations_end old s + 4) (omega arith))
      (alike_chain (alike_zeros _ s t g ((num_live_outs old s + 1) % 2 * 4) (locations_end old s + 4 + 4 * num_live_outs old s) (omega arith))
      (alike_valid _))))))

  -- it is inside both
  pub alike_record : (c a : ℕ) → record_length old s ≤ length s → record_length old s ≤ length t → Alike (record_check old s c a) (record_check old t c a)
  unfolding record_check record_inside
  alike_record c a h k =
      rw (length-same, le-leb _ _ h, le-leb _ _ k)
      (alike_chain (alike_must true true 3 0 _ _ refl (omega arith) (alike_valid _))
      (alike_must _ _ 7 0 _ _ (ap (λ (w : ℕ). address_right old (a + w)) offset-same) (omega arith) (alike_bytes c)))

-- the check of a record never gives 9
pub record_low : (old : Bool) (s : List ℕ) (c a : ℕ) → Numbered 8 (record_check old s c a)
unfolding record_check record_inside chain must
record_low old s c a = go (leb (record_length old s) (length s)) refl
  where
    go : (b : Bool) → leb (record_length old s) (length s) ≡ b → Numbered 8 (record_check old s c a)
    go true e = (alike_record old s s (agree_self _ s) c a (leb-true _ _ e) (leb-true _ _ e)).low
    go false e = rw e (record { above = omega arith; low = omega arith })
