-- A record that a quick look finds right is valid.
use Prim.Native.Nat.{ℕ, zero, suc, ◌+◌, ◌*◌, ◌-◌, ◌^◌, ◌≤◌, ◌<◌}
use mathlib.Core.Path.{◌≡◌, refl, ap, sym, ◌∙◌, subst}
use mathlib.Core.Bool.{Bool, true, false}
use mathlib.Core.List.{List}
use native.Mathlib.Omega.{arith}
use borrow.Author.Tests.{lt-ltb, le-leb, eq-eqb, eqb-true}
use lib.ListN.{length, get_or, drop, length-drop}
use lib.Seq.{get_or-drop}
use lib.Bits.{bit_or}
use lib.Dec.{eqb}
use Rattle.wire.specs.Word.{word}
use Rattle.wire.proofs.Laws.{word-add, word-drop}
use Rattle.glance.proofs.Laws.{or_none, none}
use Rattle.glance.specs.Look.{size, kind, Right, Rights, Outs}
use Rattle.stackmap.specs.Verdict.{Valid}
use Rattle.stackmap.specs.Layout.{location_size, locations_padding, live_outs_padding}
use Rattle.stackmap.specs.Verdict.{must, chain, pick}
use Rattle.stackmap.specs.Section.{num_locations, locations_end, record_length}
use Rattle.stackmap.proofs.Addresses.{address-fits}
use Rattle.stackmap.specs.Record.{zeros, location_zeros, pool_check, location_check, locations, live_outs, record_inside, record_bytes, record_check}
use Rattle.stackmap_quick.specs.Quick.{Ending, Begun, Closed}
use Rattle.stackmap.proofs.Items.{zeros-back}

-- the size of a location, as the quick look names it
pub same_size : (old : Bool) → size old ≡ location_size old
same_size true = refl
same_size false = refl

one_byte : (s : List ℕ) (at : ℕ) → word 1 s at ≡ get_or s at 0
unfolding word
one_byte s at = omega arith

two_bytes : (s : List ℕ) (at : ℕ) → word 2 s at ≡ get_or s at 0 + 256 * get_or s (at + 1) 0
unfolding word
two_bytes s at = omega arith

-- Locations, where an index below `limit` is right.

module _ (c limit : ℕ) (few : limit ≤ c) (small : limit ≤ 2 ^ 31) where
  pool-right : (kind offset at end : ℕ) → (kind ≡ 5 → offset < limit) → pool_check kind offset c at end ≡ Valid end
  unfolding pool_check must pick
  pool-right kind offset at end h = go (eqb kind 5) refl
    where
      go : (t : Bool) → eqb kind 5 ≡ t → pool_check kind offset c at end ≡ Valid end
      go true e = let q = h (eqb-true kind 5 e) in rw (e, lt-ltb offset (2 ^ 31) (omega arith), lt-ltb offset c (omega arith))
      go false e = rw e

  right : (old : Bool) (s : List ℕ) (at : ℕ) → Right old s limit at → location_check old s c at ≡ Valid (at + location_size old)
  unfolding location_check location_zeros must
  right true s at r =
      let o = one_byte s at in
      let l = r.least in
      let m = r.most in
      let z : at + 8 - 4 ≡ at + 4 = omega arith in
      rw (
        le-leb 1 (get_or s at 0) (omega arith),
        le-leb (get_or s at 0) 5 (omega arith),
        pool-right (get_or s at 0) (word 4 s (at + 4)) at (at + 8) (λ q. rw z at (r.pool (omega arith))),
      )
  right false s at r =
      let o = two_bytes s at in
      let l = r.least in
      let m = r.most in
      let w = r.zeros refl in
      let u = two_bytes s (at + 6) in
      let p : at + 6 + 1 ≡ at + 7 = omega arith in
      let z : at + 12 - 4 ≡ at + 8 = omega arith in
      let z₆ : get_or s (at + 6) 0 ≡ 0 = omega arith in
      let z₇ : get_or s (at + 7) 0 ≡ 0 = rw (← p) (omega arith) in
      rw (
        le-leb 1 (get_or s at 0) (omega arith),
        le-leb (get_or s at 0) 5 (omega arith),
        eq-eqb (get_or s (at + 1) 0) 0 (omega arith),
        eq-eqb (get_or s (at + 6) 0) 0 z₆,
        eq-eqb (get_or s (at + 7) 0) 0 z₇,
        pool-right (get_or s at 0) (word 4 s (at + 8)) at (at + 12) (λ q. rw z at (r.pool (omega arith))),
      )

  -- the first of them, and those after it
  first : (old : Bool) (n : ℕ) (s : List ℕ) (at : ℕ) → Rights old s limit at (suc n) → Right old s limit at
  first old n s at r = let e : at + size old * 0 ≡ at = omega arith in rw e at (r.each 0 (omega arith))

  after : (old : Bool) (n : ℕ) (s : List ℕ) (at : ℕ) → Rights old s limit at (suc n) → Rights old s limit (at + size old) n
  after old n s at r =
      record {
        each = λ i h. let e : at + size old * suc i ≡ at + size old + size old * i = omega arith in rw e at (r.each (suc i) (omega arith));
      }

  pub all_right : (old : Bool) (n : ℕ) (s : List ℕ) (at : ℕ) → Rights old s limit at n → locations old n s c at ≡ Valid (at + location_size old * n)
  unfolding locations chain
  all_right old zero s at r = ap Valid (omega arith)
  all_right old (suc n) s at r =
      let e : at + location_size old + location_size old * n ≡ at + location_size old * suc n = omega arith in
      rw (right old s at (first old n s at r), ← e) (all_right old n s (at + location_size old) (rw same_size at (after old n s at r)))

-- Live-outs.

after_out : (n : ℕ) (s : List ℕ) (at : ℕ) → Outs s at (suc n) → Outs s (at + 4) n
after_out n s at o =
    record {
      each = λ i h. let e : at + 4 * suc i + 2 ≡ at + 4 + 4 * i + 2 = omega arith in rw e at (o.each (suc i) (omega arith));
    }

outs-right : (n : ℕ) (s : List ℕ) (at : ℕ) → Outs s at n → live_outs n s at ≡ Valid (at + 4 * n)
unfolding live_outs must
outs-right zero s at o = ap Valid (omega arith)
outs-right (suc n) s at o =
    let p : at + 4 * 0 + 2 ≡ at + 2 = omega arith in
    let z : get_or s (at + 2) 0 ≡ 0 = rw p at (o.each 0 (omega arith)) in
    let e : at + 4 + 4 * n ≡ at + 4 * suc n = omega arith in
    rw (eq-eqb (get_or s (at + 2) 0) 0 z, ← e) (outs-right n s (at + 4) (after_out n s at o))

-- eight zero bytes after the locations: no live-outs
pub no_outs : (s : List ℕ) (end : ℕ) → end + 8 ≤ length s → word 8 s end ≡ 0 → Ending s end (end + 8)
no_outs s end h z =
    let x = word-add 2 6 s end in
    let y = word-add 2 4 s (end + 2) in
    let p : end + 2 + 2 ≡ end + 4 = omega arith in
    let w = rw p at y in
    let n : word 2 s (end + 2) ≡ 0 = omega arith in
    let q : end + 4 + 4 * 0 ≡ end + 4 = omega arith in
    record {
      zeros = omega arith;
      outs = rw n (record { each = λ i k. absurd (omega arith) });
      padding = rw (n, q) (omega arith);
      ends = rw n (omega arith);
      inside = h;
    }

-- A whole record.

padded : (p : ℕ) (s : List ℕ) (at : ℕ) → word p s at ≡ 0 → word 2 s (at + p) ≡ 0 → word (p + 2) s at ≡ 0
padded p s at h k = word-add p 2 s at ∙ rw (h, k) (omega arith)

module _ (old : Bool) (s : List ℕ) (c a next : ℕ) (ending : Ending s (locations_end old s) next) where
  long : record_length old s ≡ next
  unfolding record_length
  long = sym ending.ends

  pub whole : word 2 s 12 ≡ 0 → a + word 4 s 8 ≤ 2 ^ 64 - 1 → locations old (num_locations s) s c 16 ≡ Valid (16 + location_size old * num_locations s)
      → word (locations_padding old (num_locations s)) s (16 + location_size old * num_locations s) ≡ 0 → record_check old s c a ≡ Valid next
  unfolding record_check record_inside record_bytes chain must
  whole flags reach right pad =
      rw (
        long,
        le-leb _ _ ending.inside,
        address-fits old _ reach,
        zeros-back 2 s 12 flags,
        right,
        zeros-back (locations_padding old (num_locations s) + 2) s (16 + location_size old * num_locations s) (padded (locations_padding old (num_locations s)) s _ pad ending.zeros),
        outs-right _ s _ ending.outs,
        zeros-back _ s _ ending.padding,
      )

-- What is found at `at` is found at the start of what stands there.

module _ (old : Bool) (s : List ℕ) (limit at : ℕ) where
  kind-drop : (b : Bool) (p : ℕ) → kind b (drop at s) p ≡ kind b s (at + p)
  kind-drop true p = word-drop 1 at s p
  kind-drop false p = word-drop 2 at s p

  right-drop : (p : ℕ) → 4 ≤ p + size old → Right old s limit (at + p) → Right old (drop at s) limit p
  right-drop p h r =
      let z : at + (p + 6) ≡ at + p + 6 = omega arith in
      let e : at + (p + size old - 4) ≡ at + p + size old - 4 = omega arith in
      record {
        least = rw (kind-drop old p) r.least;
        most = rw (kind-drop old p) r.most;
        zeros = λ q. rw (word-drop 2 at s (p + 6), z) (r.zeros q);
        pool = λ q. rw (word-drop 4 at s (p + size old - 4), e) (r.pool (rw (kind-drop old p) at q));
      }

rights_drop : (old : Bool) (s : List ℕ) (limit at n : ℕ) → Rights old s limit (at + 16) n → Rights old (drop at s) limit 16 n
rights_drop old s limit at n r =
    record {
      each = λ i h.
          let e : at + 16 + size old * i ≡ at + (16 + size old * i) = omega arith in
          right-drop old s limit at (16 + size old * i) (omega arith) (rw e at (r.each i h));
    }

module _ (s : List ℕ) (at e next : ℕ) (i : at ≤ next) (r : Ending s (at + e) next) where
  outs-count : word 2 (drop at s) (e + 2) ≡ word 2 s (at + e + 2)
  outs-count = let z : at + (e + 2) ≡ at + e + 2 = omega arith in rw (word-drop 2 at s (e + 2), z)

  ending-drop : Ending (drop at s) e (next - at)
  ending-drop =
      let n = word 2 s (at + e + 2) in
      let z : at + (e + 4 + 4 * n) ≡ at + e + 4 + 4 * n = omega arith in
      let k = r.ends in
      let l = r.inside in
      record {
        zeros = rw (word-drop 2 at s e) r.zeros;
        outs = rw outs-count (record { each = λ j h. let p : at + (e + 4 + 4 * j + 2) ≡ at + e + 4 + 4 * j + 2 = omega arith in rw (get_or-drop at s (e + 4 + 4 * j + 2) 0, p) (r.outs.each j h) });
        padding = rw (outs-count, word-drop (live_outs_padding n) at s (e + 4 + 4 * n), z) r.padding;
        ends = rw outs-count (omega arith);
        inside = rw length-drop (omega arith);
      }

-- The two looks.

part_zero : (s : List ℕ) (at k : ℕ) → k ≤ 8 → word 8 s at ≡ 0 → word k s at ≡ 0
part_zero s at k h z =
    let e : k + (8 - k) ≡ 8 = omega arith in
    let w = rw e at (word-add k (8 - k) s at) in
    omega arith

pub closed : (s : List ℕ) (pad padding : ℕ) → padding ≤ 4 → pad + padding + 8 ≤ length s → bit_or (word 8 s pad) (word 8 s (pad + padding)) ≡ 0
    → Closed s pad padding (pad + padding + 8)
closed s pad padding h i z =
    let b = or_none _ _ z in
    record { zeros = part_zero s pad padding (omega arith) b.0; ending = no_outs s (pad + padding) i b.1 }

-- no padding, after no locations
pub closed_none : (old : Bool) (s : List ℕ) (at next : ℕ) → Closed s (at + 16) 0 next → Closed s (at + 16 + location_size old * 0) (locations_padding old 0) next
closed_none true s at next r = let e : at + 16 ≡ at + 16 + 8 * 0 = omega arith in subst (λ (x : ℕ). Closed s x 0 next) e r
closed_none false s at next r = let e : at + 16 ≡ at + 16 + 12 * 0 = omega arith in subst (λ (x : ℕ). Closed s x 0 next) e r

pub rights_none : (old : Bool) (s : List ℕ) (limit at : ℕ) → Rights old s limit at 0
rights_none old s limit at = none old s limit at

pub begin : (old : Bool) (s : List ℕ) (c limit a at n : ℕ) → limit ≤ c → limit ≤ 2 ^ 31 → n ≡ word 2 s (at + 14) → word 2 s (at + 12) ≡ 0 → a + word 4 s (at + 8) ≤ 2 ^ 64 - 1
    → Rights old s limit (at + 16) n → Begun old (drop at s) c a
begin old s c limit a at n few small e flags reach r =
    record {
      flags = rw (word-drop 2 at s 12) flags;
      reach = rw (word-drop 4 at s 8) reach;
      located = rw (word-drop 2 at s 14, ← e) (all_right c limit few small old n (drop at s) 16 (rights_drop old s limit at n r));
    }

pub finish : (old : Bool) (s : List ℕ) (c a at n next : ℕ) → n ≡ word 2 s (at + 14) → Begun old (drop at s) c a
    → Closed s (at + 16 + location_size old * n) (locations_padding old n) next → (at ≤ next) × (record_check old (drop at s) c a ≡ Valid (next - at))
finish old s c a at n next e b r =
    let k = r.ending.ends in
    let i : at ≤ next = omega arith in
    let m : num_locations (drop at s) ≡ n = word-drop 2 at s 14 ∙ sym e in
    let g : at + 16 + location_size old * n + locations_padding old n ≡ at + (16 + location_size old * n + locations_padding old n) = omega arith in
    let f : at + (16 + location_size old * n) ≡ at + 16 + location_size old * n = omega arith in
    let d : Ending (drop at s) (locations_end old (drop at s)) (next - at) = rw m (ending-drop s at (16 + location_size old * n + locations_padding old n) next i (rw g at r.ending)) in
    (i, whole old (drop at s) c a (next - at) d b.flags b.reach b.located (rw (m, word-drop (locations_padding old n) at s (16 + location_size old * n), f) r.zeros))
