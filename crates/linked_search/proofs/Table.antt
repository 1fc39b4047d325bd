-- Where a map's end is known, the records that were found first in it are settled.
use Prim.Native.Nat.{ℕ, ◌+◌, ◌*◌, ◌-◌, ◌≤◌, ◌<◌}
use mathlib.Core.Path.{◌≡◌, refl, ap, ◌∙◌}
use mathlib.Core.List.{List}
use native.Mathlib.Omega.{arith}
use native.Mathlib.Decide.{dec_lt, ℕ_discrete}
use lib.ListN.{length, get_or, set, length-set}
use lib.Seq.{get_or-set_same, get_or-set_other}
use Rattle.questions.specs.declared.Hits.{Hits}
use Rattle.sorted.specs.Sorted.{LowerBound}
use Rattle.thread.specs.Code.{hits_at, Stored}
use Rattle.thread_marks.specs.From.{Grown}
use Rattle.linked.specs.Linked.{Map}
use Rattle.linked.specs.Find.{MapEntry, all_with_address}
use Rattle.linked_search.specs.Found.{mark, Pending, Placed, settled, pending, Like, Finding, SettlesOne, SiteStored}
use Rattle.linked_search.proofs.Tally.{like_same}

-- one number of a place is written
first_stored : (b : List ℕ) (i p : ℕ) → 4 * i + 3 < length b
    → Stored b (set b (4 * i + 3) p) i (record { index = (hits_at b i).index; function = (hits_at b i).function; sharing = (hits_at b i).sharing; first = p })
first_stored b i p l =
    let e₀ = get_or-set_other b (4 * i + 3) (4 * i) p 0 (λ q. omega arith) in
    let e₁ = get_or-set_other b (4 * i + 3) (4 * i + 1) p 0 (λ q. omega arith) in
    let e₂ = get_or-set_other b (4 * i + 3) (4 * i + 2) p 0 (λ q. omega arith) in
    let e₃ = get_or-set_same b (4 * i + 3) p 0 l in
    record {
      here = λ k. record { index = e₀ k; function = e₁ k; sharing = e₂ k; first = e₃ k };
      others =
          λ j n.
          let f₀ = get_or-set_other b (4 * i + 3) (4 * j) p 0 (λ q. omega arith) in
          let f₁ = get_or-set_other b (4 * i + 3) (4 * j + 1) p 0 (λ q. omega arith) in
          let f₂ = get_or-set_other b (4 * i + 3) (4 * j + 2) p 0 (λ q. omega arith) in
          let f₃ = get_or-set_other b (4 * i + 3) (4 * j + 3) p 0 (λ q. n (omega arith)) in
          λ k. record { index = f₀ k; function = f₁ k; sharing = f₂ k; first = f₃ k };
    }

-- two stores write one place
pub site_stored : (b : List ℕ) (i x y : ℕ) → 2 * i + 1 < length b → SiteStored b (set (set b (2 * i) x) (2 * i + 1) y) i x y
site_stored b i x y l =
    let c = set b (2 * i) x in
    let k = length-set b (2 * i) x in
    record {
      map_here = get_or-set_other c (2 * i + 1) (2 * i) y 0 (λ q. omega arith) ∙ get_or-set_same b (2 * i) x 0 (omega arith);
      length_here = get_or-set_same c (2 * i + 1) y 0 (omega arith);
      map_others = λ j n. get_or-set_other c (2 * i + 1) (2 * j) y 0 (λ q. omega arith) ∙ get_or-set_other b (2 * i) (2 * j) x 0 (λ q. n (omega arith));
      length_others = λ j n. get_or-set_other c (2 * i + 1) (2 * j + 1) y 0 (λ q. n (omega arith)) ∙ get_or-set_other b (2 * i) (2 * j + 1) x 0 (λ q. omega arith);
    }

module _ {table sites : List ℕ} {n i p : ℕ} where
  -- a place without the mark is settled
  pub low-settled : p < mark → (x : MapEntry) → Placed table n sites i x p → Placed table 0 sites i x p
  low-settled l x (settled q) = settled q
  low-settled l x (pending q) = absurd (let e = q.place_is in omega arith)

-- the map of a pending record is the last one that does not begin above it
pub found_at : (table : List ℕ) (n p j : ℕ) (x : MapEntry) (q : Pending table n x p) → LowerBound table n (p - mark + 1) j → j ≡ q.number + 1
found_at table n p j x q b = go (dec_lt q.number j) (dec_lt (q.number + 1) j)
  where
    e : p ≡ mark + (x.map.first + x.entry.first)
    e = q.place_is

    go : Dec (q.number < j) → Dec (q.number + 1 < j) → j ≡ q.number + 1
    go (no l) r = absurd (omega (arith, e, q.from_is, b.above q.number (omega arith) q.among))
    go (yes l) (yes r) = absurd (omega (arith, e, q.to_is, q.inside, b.below (q.number + 1) r))
    go (yes l) (no r) = omega arith

-- nothing is pending there
pub none-settled : (table sites : List ℕ) (n i p : ℕ) → LowerBound table n (p - mark + 1) 0 → (x : MapEntry) → Placed table n sites i x p → Placed table 0 sites i x p
none-settled table sites n i p b x (settled q) = settled q
none-settled table sites n i p b x (pending q) = absurd (let e = found_at table n p 0 x q b in omega arith)

-- the map's numbers are written, and the place is counted from its first byte
pub now_settled : (table sites sites' : List ℕ) (n i p j : ℕ) → mark ≤ p → LowerBound table n (p - mark + 1) j
    → SiteStored sites sites' i (get_or table (j - 1) 0) (get_or table j 0 - get_or table (j - 1) 0)
    → (x : MapEntry) → Placed table n sites i x p → Placed table 0 sites' i x (p - mark - get_or table (j - 1) 0)
now_settled table sites sites' n i p j l b w x (settled q) = absurd (omega (arith, q.low))
now_settled table sites sites' n i p j l b w x (pending q) =
    let z = found_at table n p j x q b in
    let u : j - 1 ≡ q.number = omega arith in
    let f : get_or table (j - 1) 0 ≡ x.map.first = rw u q.from_is in
    let t : get_or table j 0 ≡ x.map.first + length x.map.content = rw z q.to_is in
    settled
    (record {
      place_is = omega (arith, q.place_is, f);
      low = omega (arith, q.place_is, f, q.inside, q.low);
      map_is = w.map_here ∙ f;
      length_is = w.length_here ∙ (let e : get_or table j 0 - get_or table (j - 1) 0 ≡ length x.map.content = omega (arith, f, t) in e);
    })

-- One place.

module _ (table : List ℕ) (n i : ℕ) (hits sites : List ℕ) where
  -- it stays as it is
  pub settles_none : ((x : MapEntry) → Placed table n sites i x (hits_at hits i).first → Placed table 0 sites i x (hits_at hits i).first) → SettlesOne table n i hits sites hits sites
  settles_none f =
      record {
        here = λ xs l. like_same xs (hits_at hits i) (hits_at hits i) refl refl refl f l;
        hits_others = λ j o. refl;
        map_others = λ j o. refl;
        length_others = λ j o. refl;
        sharing_here = refl;
      }

  settles_stored : (hits' sites' : List ℕ) (h : Hits) (j : ℕ) → h ≡ hits_at hits i → mark ≤ h.first → LowerBound table n (h.first - mark + 1) j
      → SiteStored sites sites' i (get_or table (j - 1) 0) (get_or table j 0 - get_or table (j - 1) 0)
      → Stored hits hits' i (record { index = h.index; function = h.function; sharing = h.sharing; first = h.first - mark - get_or table (j - 1) 0 })
      → SettlesOne table n i hits sites hits' sites'
  settles_stored hits' sites' h j e l b w t =
      let s : (hits_at hits' i).sharing ≡ h.sharing = ap (λ (g : Hits). g.sharing) t.here in
      record {
        here =
            λ xs k.
            like_same {F = Placed table n sites i} {G = Placed table 0 sites' i} xs h (hits_at hits' i) (ap (λ (g : Hits). g.index) t.here) (ap (λ (g : Hits). g.function) t.here) s
            (λ x q. rw (ap (λ (g : Hits). g.first) t.here) (now_settled table sites sites' n i h.first j l b w x q))
            (rw e k);
        hits_others = t.others;
        map_others = w.map_others;
        length_others = w.length_others;
        sharing_here = s ∙ ap (λ (g : Hits). g.sharing) e;
      }

  zero_bound : {h g : Hits} {j : ℕ} → h ≡ g → j ≡ 0 → LowerBound table n (h.first - mark + 1) j → LowerBound table n (g.first - mark + 1) 0
  zero_bound e z b = rw (← e) (rw z at b)

  -- none of the maps has it
  pub settles_zero : (h : Hits) (j : ℕ) → h ≡ hits_at hits i → j ≡ 0 → LowerBound table n (h.first - mark + 1) j → SettlesOne table n i hits sites hits sites
  settles_zero h j e z b = settles_none (none-settled table sites n i (hits_at hits i).first (zero_bound e z b))

  -- it has no mark
  pub settles_low : (h : Hits) → h ≡ hits_at hits i → h.first < mark → SettlesOne table n i hits sites hits sites
  settles_low h e l = settles_none (low-settled (let k = ap (λ (g : Hits). g.first) e in omega arith))

  -- it is written
  pub settles_this : (hits' sites' : List ℕ) (h : Hits) (j : ℕ) → h ≡ hits_at hits i → mark ≤ h.first → LowerBound table n (h.first - mark + 1) j
      → SiteStored sites sites' i (get_or table (j - 1) 0) (get_or table j 0 - get_or table (j - 1) 0)
      → 4 * i + 3 < length hits → hits' ≡ set hits (4 * i + 3) (h.first - mark - get_or table (j - 1) 0) → SettlesOne table n i hits sites hits' sites'
  settles_this hits' sites' h j e l b w k u = settles_stored hits' sites' h j e l b w (rw (u, e) (first_stored hits i _ k))

-- All places, one after the other.

-- the places before i are settled, the others as they were
pub record Settling (keys : List ℕ) (count : ℕ) (table : List ℕ) (n i : ℕ) (sites hits : List ℕ) (done : List Map) : Type 0 where
  pub before : (j : ℕ) → j < i → j < count → LowerBound keys count (get_or keys j 0) j → Like (Placed table 0 sites j) (all_with_address (get_or keys j 0) 0 done) (hits_at hits j)
  pub after : (j : ℕ) → i ≤ j → j < count → LowerBound keys count (get_or keys j 0) j → Like (Placed table n sites j) (all_with_address (get_or keys j 0) 0 done) (hits_at hits j)

-- the same two numbers
placed-other : {table sites sites' : List ℕ} {n j p : ℕ} → get_or sites' (2 * j) 0 ≡ get_or sites (2 * j) 0 → get_or sites' (2 * j + 1) 0 ≡ get_or sites (2 * j + 1) 0
    → (x : MapEntry) → Placed table n sites j x p → Placed table n sites' j x p
placed-other a b x (settled q) = settled (record { place_is = q.place_is; low = q.low; map_is = a ∙ q.map_is; length_is = b ∙ q.length_is })
placed-other a b x (pending q) = pending q

pub settling_start : {keys : List ℕ} {count : ℕ} {table : List ℕ} {n : ℕ} {sites hits : List ℕ} {done : List Map} → Finding keys count table n sites hits done
    → Settling keys count table n 0 sites hits done
settling_start f = record { before = λ j l. absurd (omega arith); after = λ j l m b. f.at j m b }

module _ {keys : List ℕ} {count : ℕ} {table : List ℕ} {n i : ℕ} {sites hits : List ℕ} {done : List Map} where
  pub settling_end : count ≤ i → Settling keys count table n i sites hits done → Finding keys count table 0 sites hits done
  settling_end l f = record { at = λ j m b. f.before j (omega arith) m b }

  pub settling_on : {hits' sites' : List ℕ} → SettlesOne table n i hits sites hits' sites' → Settling keys count table n i sites hits done
      → Settling keys count table n (i + 1) sites' hits' done
  settling_on {hits'} {sites'} s f = record { before = λ j l m b. go j l m b (ℕ_discrete j i); after = λ j l m b. other j n m b (λ q. omega arith) (f.after j (omega arith) m b) }
    where
      other : (j k : ℕ) → j < count → LowerBound keys count (get_or keys j 0) j → (j ≡ i → ⊥) → Like (Placed table k sites j) (all_with_address (get_or keys j 0) 0 done) (hits_at hits j)
          → Like (Placed table k sites' j) (all_with_address (get_or keys j 0) 0 done) (hits_at hits' j)
      other j k m b o l =
          let e = s.hits_others j o in
          like_same {F = Placed table k sites j} {G = Placed table k sites' j} _ (hits_at hits j) (hits_at hits' j) (ap (λ (g : Hits). g.index) e) (ap (λ (g : Hits). g.function) e) (ap (λ (g : Hits). g.sharing) e)
          (λ x q. rw (ap (λ (g : Hits). g.first) e) (placed-other (s.map_others j o) (s.length_others j o) x q)) l

      go : (j : ℕ) → j < i + 1 → j < count → LowerBound keys count (get_or keys j 0) j → Dec (j ≡ i)
          → Like (Placed table 0 sites' j) (all_with_address (get_or keys j 0) 0 done) (hits_at hits' j)
      go j l m b (no o) = other j 0 m b o (f.before j (omega arith) m b)
      go j l m b (yes e) = rw e (s.here _ (f.after i (omega arith) (rw e at m) (rw e at b)))

pub settles_grown : {table hits sites hits' sites' : List ℕ} {n i : ℕ} → SettlesOne table n i hits sites hits' sites' → Grown hits hits' 0
settles_grown {hits = hits} {hits' = hits'} {i = i} s = record { each = λ j. go j (ℕ_discrete j i) }
  where
    go : (j : ℕ) → Dec (j ≡ i) → (hits_at hits' j).sharing ≤ (hits_at hits j).sharing + 0
    go j (yes e) = rw e (omega (arith, s.sharing_here))
    go j (no o) = let e = ap (λ (g : Hits). g.sharing) (s.hits_others j o) in omega arith
