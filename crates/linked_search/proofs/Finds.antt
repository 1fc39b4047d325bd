-- What is found in one more map, and what it is at the end.
use Prim.Native.Nat.{ℕ, zero, suc, ◌+◌, ◌≤◌, ◌<◌}
use mathlib.Core.Path.{◌≡◌, refl, ap, ◌∙◌}
use mathlib.Core.List.{List, [], ◌∷◌, ◌++◌, Memᴰ}
use native.Mathlib.Omega.{arith}
use native.Mathlib.Decide.{dec_lt}
use borrow.Author.Tests.{le-leb, lt-leb}
use lib.ListN.{length, get_or, set, drop, take}
use lib.Seq.{get_or-set_same, get_or-set_other, get_or-drop}
use Rattle.wire.specs.Word.{Bytes}
use Rattle.stackmap.specs.Verdict.{Refused}
use Rattle.stackmap.specs.Verdict.{must, chain}
use Rattle.stackmap.specs.Section.{record_length, Entry, entries}
use Rattle.stackmap.specs.Check.{header_check, section_check, Accepted}
use Rattle.stackmap.proofs.Entries.{entry-inside}
use Rattle.questions.specs.declared.Hits.{Hits}
use Rattle.questions.specs.Kept.{no_hits}
use Rattle.sorted.specs.Sorted.{Sorted}
use Rattle.thread.specs.Code.{hits_at, Holding}
use Rattle.thread_marks.specs.From.{NotedAll}
use Rattle.linked.specs.Linked.{Map, map_at}
use Rattle.linked.specs.Find.{MapEntry, all_with_address}
use Rattle.linked_moves.specs.Code.{FirstIs, SoughtIn}
use Rattle.linked_search.specs.Found.{mark, Placed, settled, pending, Like, Finding, Put}
use Rattle.linked_search.proofs.Tally.{one_of, all_with_more, like_on, like_same}
use Rattle.linked_search.proofs.Cuts.{content, MoreMap}

-- 1, for a section that is too short or too long.

pub too_short : (s : List ℕ) → length s < 16 → section_check s ≡ Refused 1 0
unfolding section_check header_check must chain
too_short s l = rw (lt-leb 16 (length s) l)

pub too_long : (s : List ℕ) → 16777216 < length s → section_check s ≡ Refused 1 0
unfolding section_check header_check must chain
too_long s l = rw (le-leb 16 (length s) (omega arith), lt-leb (length s) 16777216 l)

-- The table.

pub sorted_more : (table : List ℕ) (n x : ℕ) → n + 1 < length table → get_or table n 0 ≤ x → Sorted table (n + 1) → Sorted (set table (n + 1) x) (n + 2)
sorted_more table n x l h s = record { order = λ i j k m. go i j k m (dec_lt j (n + 1)) }
  where
    low : (i : ℕ) → i < n + 1 → Dec (i < n) → get_or table i 0 ≤ x
    low i k (yes m) = omega (arith, h, s.order i n m (omega arith))
    low i k (no m) = let z : i ≡ n = omega arith in rw z h

    go : (i j : ℕ) → i < j → j < n + 2 → Dec (j < n + 1) → get_or (set table (n + 1) x) i 0 ≤ get_or (set table (n + 1) x) j 0
    go i j k m (yes d) =
        omega (arith, s.order i j k d, get_or-set_other table (n + 1) i x 0 (λ q. omega arith), get_or-set_other table (n + 1) j x 0 (λ q. omega arith))
    go i j k m (no d) =
        let z : j ≡ n + 1 = omega arith in
        omega (arith, low i (omega arith) (dec_lt i n), get_or-set_other table (n + 1) i x 0 (λ q. omega arith), ap (λ (y : ℕ). get_or (set table (n + 1) x) y 0) z, get_or-set_same table (n + 1) x 0 l)

pub put-here : {t t' : List ℕ} {i x : ℕ} → Put t t' i x → get_or t' i 0 ≡ x
put-here {t} {t'} {i} {x} p = rw p.is (get_or-set_same t i x 0 p.room)

pub sorted-one : (table : List ℕ) → Sorted table 1
sorted-one table = record { order = λ i j k m. absurd (omega arith) }

-- the table is longer by one
placed-more : (table sites : List ℕ) (n x i p : ℕ) (e : MapEntry) → Placed table n sites i e p → Placed (set table (n + 1) x) (n + 1) sites i e p
placed-more table sites n x i p e (settled q) = settled q
placed-more table sites n x i p e (pending q) =
    let a = q.among in
    pending
    (record {
      place_is = q.place_is;
      inside = q.inside;
      low = q.low;
      number = q.number;
      among = omega arith;
      from_is = get_or-set_other table (n + 1) q.number x 0 (λ z. omega arith) ∙ q.from_is;
      to_is = get_or-set_other table (n + 1) (q.number + 1) x 0 (λ z. omega arith) ∙ q.to_is;
    })

-- after a flush, any table will do
pub finding_any : {keys : List ℕ} {count : ℕ} {table sites hits : List ℕ} {done : List Map} (table' : List ℕ) → Finding keys count table 0 sites hits done → Finding keys count table' 0 sites hits done
finding_any {table = table} {sites = sites} {hits = hits} table' f = record { at = λ i l b. like_same _ (hits_at hits i) (hits_at hits i) refl refl refl (go i (hits_at hits i).first) (f.at i l b) }
  where
    go : (i p : ℕ) (x : MapEntry) → Placed table 0 sites i x p → Placed table' 0 sites i x p
    go i p x (settled q) = settled q
    go i p x (pending q) = absurd (let a = q.among in omega arith)

-- The bytes of a map.

bytes_take : (n : ℕ) (l : List ℕ) → Bytes l → Bytes (take n l)
bytes_take zero l h = record { below = λ i. omega arith }
bytes_take (suc n) [] h = h
bytes_take (suc n) (x ∷ xs) h = record { below = go (bytes_take n xs (record { below = λ i. h.below (suc i) })) }
  where
    go : Bytes (take n xs) → (i : ℕ) → get_or (x ∷ take n xs) i 0 < 256
    go r zero = h.below 0
    go r (suc i) = r.below i

content-bytes : (s : List ℕ) (at e : ℕ) → Bytes s → Bytes (content s at e)
content-bytes s at e h = bytes_take e (drop at s) (record { below = λ i. rw (get_or-drop at s i 0) (h.below (at + i)) })

entry-low : (s : List ℕ) → Accepted s → Bytes s → (e : Entry) → Memᴰ e (entries s) → e.first < length s
unfolding record_length
entry-low s k w e m = let i = (entry-inside s (length s) k w e m).1 in omega arith

-- One more map.

pub finding_on : (s : List ℕ) (at e : ℕ) {keys : List ℕ} {count : ℕ} {table sites hits hits' : List ℕ} {n : ℕ} {done : List Map} → Bytes s → MoreMap s at e → e < mark
    → n + 1 < length table → get_or table n 0 ≡ at → NotedAll keys count hits hits' (mark + at) (entries (drop at s)) → Finding keys count table n sites hits done
    → Finding keys count (set table (n + 1) (at + e)) (n + 1) sites hits' (done ++ map_at at (content s at e) ∷ [])
finding_on s at e {keys} {count} {table} {sites} {hits} {hits'} {n} {done} w m b l t r f =
    record {
      at =
          λ i k d.
          let a = get_or keys i 0 in
          let g = like_same {G = Placed (set table (n + 1) (at + e)) (n + 1) sites i} _ (hits_at hits i) (hits_at hits i) refl refl refl (placed-more table sites n (at + e) i (hits_at hits i).first) (f.at i k d) in
          rw (all_with_more a 0 done (map_at at (content s at e)), r.at i k d, ← m.same_entries)
          (like_on (Placed (set table (n + 1) (at + e)) (n + 1) sites i) a (mark + at) (0 + length done) (map_at at (content s at e)) (entries (content s at e)) _ (hits_at hits i) (new i) g);
    }
  where
    new : (i : ℕ) (d : Entry) → Memᴰ d (entries (content s at e)) → Placed (set table (n + 1) (at + e)) (n + 1) sites i (one_of (0 + length done) (map_at at (content s at e)) d) (mark + at + d.first)
    new i d j =
        let q = entry-low (content s at e) m.accepted (content-bytes s at e w) d j in
        let g = m.long in
        pending
        (record {
          place_is = omega arith;
          inside = q;
          low = omega arith;
          number = n;
          among = omega arith;
          from_is = get_or-set_other table (n + 1) n (at + e) 0 (λ z. omega arith) ∙ t;
          to_is = get_or-set_same table (n + 1) (at + e) 0 l ∙ rw g;
        })

-- The start and the end.

pub finding_start : {keys : List ℕ} {count : ℕ} {hits : List ℕ} (table sites : List ℕ) → Holding keys count hits (λ a. no_hits) → Finding keys count table 0 sites hits []
unfolding all_with_address
finding_start table sites h = record { at = λ i l b. record { by = ap (λ (g : Hits). g.sharing) (h.at i l b) } }

like_length : {F : MapEntry → ℕ → Type 0} (xs : List MapEntry) (h : Hits) → Like F xs h → h.sharing ≡ length xs
like_length [] h l = l.by
like_length (x ∷ xs) h l = l.by.sharing_is

pub finding_end : {keys : List ℕ} {count : ℕ} {table sites hits : List ℕ} {done : List Map} → Finding keys count table 0 sites hits done → SoughtIn done keys count hits sites
finding_end {keys} {count} {table} {sites} {hits} {done} f =
    record { sharing_is = λ i l b. like_length _ (hits_at hits i) (f.at i l b); first_is = λ i l b x xs e. go i x xs (rw e at (f.at i l b)) }
  where
    by : (i : ℕ) (x : MapEntry) → (hits_at hits i).index ≡ x.entry.number → (hits_at hits i).function ≡ x.entry.owner.number → Placed table 0 sites i x (hits_at hits i).first → FirstIs hits sites i x
    by i x a b (settled q) = record { index_is = a; function_is = b; first_is = q.place_is; map_is = q.map_is; length_is = q.length_is }
    by i x a b (pending q) = absurd (let k = q.among in omega arith)

    go : (i : ℕ) (x : MapEntry) (xs : List MapEntry) → Like (Placed table 0 sites i) (x ∷ xs) (hits_at hits i) → FirstIs hits sites i x
    go i x xs l = by i x l.by.index_is l.by.function_is l.by.placed
