-- The walk that writes the numbers of all maps; and what the call answers in each case.
use Prim.Native.Nat.{ℕ, suc, ◌+◌, ◌*◌, ◌-◌, ◌≤◌, ◌<◌}
use mathlib.Core.Path.{◌≡◌, refl, sym, ap, ◌∙◌}
use mathlib.Core.List.{List, [], ◌∷◌}
use native.Mathlib.Omega.{arith}
use native.Mathlib.Nat.{zero-add}
use native.Mathlib.Numerals.{add-one}
use borrow.Author.Tests.{le-leb, lt-leb}
use lib.ListN.{length, get_or, take, drop, set, length-drop, length-set}
use lib.Seq.{sets, sets-eq}
use Rattle.stackmap.specs.Verdict.{shift}
use Rattle.linked.specs.declared.Maps.{Maps}
use Rattle.linked.specs.Linked.{Map, map_at, Cut, maps, refusal, cut, numbers_of, MapsListed, not_listed, list_maps, maps_of, ask_maps}
use Rattle.linked.specs.Answers.{Answers}
use Rattle.linked.proofs.Prefix.{prefix}
use Rattle.linked.proofs.Cutting.{Looked, last, more, wrong, looked, cut_rest, rest-start, rest-last, rest_more, rest_wrong}
use Rattle.linked.proofs.Whole.{before-maps, none-there, maps-most}
use Rattle.linked_maps.specs.Counted as counts
use Rattle.linked_maps.specs.Walk.{told, maps_in, end_at, start_of, Kept}

-- the next map of a walk, where those from `at` on are `all`
record Next (s : List ℕ) (at : ℕ) (all : List Map) : Type 0 where
  first : Map
  rest : List Map
  cons : all ≡ first ∷ rest
  begins : first.first ≡ at
  upward : at ≤ end_at s at
  inside : end_at s at ≤ length s
  long : length first.content ≡ end_at s at - at
  goes_on : 0 < length rest → cut_rest s (end_at s at) ≡ maps rest

next : (s : List ℕ) (at : ℕ) (all : List Map) → at ≤ length s → cut_rest s at ≡ maps all → Looked (drop at s) → Next s at all
unfolding end_at shift
next s at all l h (wrong n p e o) = none-there (sym (rest_wrong s at n p e o) ∙ h)
next s at all l h (last a) =
    let d = sym (rest-last s at a) ∙ h in
    let z = length-drop at s in
    record {
      first = map_at at (drop at s);
      rest = [];
      cons = cc;
      begins = refl;
      upward = rw a (omega arith);
      inside = rw a (omega arith);
      long = rw a (omega arith);
      goes_on = λ u. absurd (omega arith);
    }
next s at all l h (more p e) =
    let f = prefix (drop at s) p e in
    let i = f.inside in
    let k = f.long in
    let z = length-drop at s in
    let d = before-maps (map_at at (take p (drop at s))) (cut_rest s (at + p)) all (sym (rest_more s at p e) ∙ h) in
    record {
      first = map_at at (take p (drop at s));
      rest = d.0;
      cons = d.2;
      begins = refl;
      upward = rw e (omega arith);
      inside = rw e (omega arith);
      long = rw e (omega arith);
      goes_on = λ u. rw e d.1;
    }

-- the numbers of i maps are written, those of `rest` are ahead
pub record Putting (s out₀ out : List ℕ) (count at i : ℕ) (rest : List Map) : Type 0 where
  pub inside : at ≤ length s
  pub start : at ≡ start_of i s
  pub left : i + length rest ≡ count
  pub ahead : i < count → cut_rest s at ≡ maps rest
  pub written : sets out₀ 0 (numbers_of (maps_in (cut s))) ≡ sets out (2 * i) (numbers_of rest)
  pub same_length : length out ≡ length out₀

counted-maps : (n : ℕ) (c : Cut) → counts.Count n ≡ told 0 c → (c ≡ maps (maps_in c)) × (length (maps_in c) ≡ n)
unfolding told maps_in
counted-maps n (maps ms) h = (refl, let z : n ≡ 0 + length ms = cc in omega arith)
counted-maps n (refusal k p) h = absurd (let z : ◌≡◌ {A = ℕ} 0 1 = cc in omega arith)

pub put-start : (s out : List ℕ) (count : ℕ) → counts.Count count ≡ told 0 (cut s) → Putting s out out count 0 0 (maps_in (cut s))
unfolding start_of
put-start s out count h =
    let m = counted-maps count (cut s) h in
    let n = m.1 in
    record {
      inside = omega arith;
      start = refl;
      left = omega arith;
      ahead = λ _. sym (rest-start s) ∙ m.0;
      written = refl;
      same_length = refl;
    }

pub kept_here : (s ends : List ℕ) (count i : ℕ) → Kept s ends count → i < count → Kept s ends (i + 1)
kept_here s ends count i k h = record { end = λ j l m. k.end j (omega arith) m }

-- two numbers, one after the other
put_two : (out : List ℕ) (i a b : ℕ) (vs : List ℕ) → sets out (2 * i) (a ∷ b ∷ vs) ≡ sets (set (set out (2 * i) a) (2 * i + 1) b) (2 * (i + 1)) vs
put_two out i a b vs =
    let e : suc (2 * i) ≡ 2 * i + 1 = omega arith in
    let f : suc (suc (2 * i)) ≡ 2 * (i + 1) = omega arith in
    ap (λ (j : ℕ). sets (set (set out (2 * i) a) j b) (suc (suc (2 * i))) vs) e ∙ ap (λ (j : ℕ). sets (set (set out (2 * i) a) (2 * i + 1) b) j vs) f

module _ {s out₀ out : List ℕ} {count at i : ℕ} {rest : List Map} (p : Putting s out₀ out count at i rest) where
  here : i < count → Next s at rest
  here h = next s at rest p.inside (p.ahead h) (looked (drop at s))

  pub put_upward : i < count → at ≤ end_at s at
  put_upward h = (here h).upward

  pub put_on : i < count → (more : List Map) × Putting s out₀ (set (set out (2 * i) at) (2 * i + 1) (end_at s at - at)) count (end_at s at) (i + 1) more
  unfolding numbers_of start_of
  put_on h =
      let n = here h in
      let c = n.cons in
      let l = p.left in
      let e : length rest ≡ suc (length n.rest) = ap length c in (
        n.rest,
        record {
          inside = n.inside;
          start = rw (add-one i, ← p.start);
          left = omega arith;
          ahead = λ u. n.goes_on (omega arith);
          written = p.written ∙ ap (λ (ms : List Map). sets out (2 * i) (numbers_of ms)) c ∙ rw (n.begins, n.long) (put_two out i at (end_at s at - at) (numbers_of n.rest));
          same_length = rw (length-set, length-set) p.same_length;
        },
      )

  pub put-end : count ≤ i → out ≡ sets out₀ 0 (numbers_of (maps_in (cut s)))
  put-end h = go rest (let l = p.left in omega arith) p.written
    where
      go : (ms : List Map) → length ms ≡ 0 → sets out₀ 0 (numbers_of (maps_in (cut s))) ≡ sets out (2 * i) (numbers_of ms) → out ≡ sets out₀ 0 (numbers_of (maps_in (cut s)))
      go [] z w = unfold numbers_of in sym w
      go (m ∷ ms) z w = absurd (omega arith)

-- the end of map number i, where it was kept
pub kept-end : (s ends : List ℕ) (i at : ℕ) → at ≡ start_of i s → Kept s ends (i + 1) → i < length ends → get_or ends i 0 ≡ end_at s at
unfolding start_of
kept-end s ends i at e k h = rw e (k.end i (omega arith) h)

-- What the call answers.

length_numbers : (ms : List Map) → length (numbers_of ms) ≡ 2 * length ms
unfolding numbers_of
length_numbers [] = refl
length_numbers (m ∷ ms) = let i = length_numbers ms in omega arith

told-refused : (c : Cut) (n p : ℕ) → counts.Refused n p ≡ told 0 c → c ≡ refusal n p
unfolding told
told-refused (maps ms) n p h = absurd (let z : ◌≡◌ {A = ℕ} 0 1 = cc in omega arith)
told-refused (refusal k q) n p h = let a : k ≡ n = cc in let b : q ≡ p = cc in rw (a, b)

-- no map has fewer than 16 bytes
pub maps_fit : (s : List ℕ) (n : ℕ) → counts.Count n ≡ told 0 (cut s) → 16 * n ≤ length s
maps_fit s n h = let c = counted-maps n (cut s) h in let m = maps-most s (maps_in (cut s)) c.0 in let l = c.1 in omega arith

module _ (s out : List ℕ) where
  pub maps-refused : (n p : ℕ) → counts.Refused n p ≡ told 0 (cut s) → maps_of s out ≡ not_listed out n p
  unfolding maps_of
  maps-refused n p h = rw (told-refused (cut s) n p h)

  module _ (n : ℕ) (h : counts.Count n ≡ told 0 (cut s)) where
    is_all : cut s ≡ maps (maps_in (cut s))
    is_all = (counted-maps n (cut s) h).0

    pub maps-short : length out < 2 * n → maps_of s out ≡ not_listed out 24 0
    unfolding maps_of list_maps
    maps-short l = ap (λ (c : Cut). ask_maps (not_listed out) (list_maps out) c) is_all ∙ rw ((counted-maps n (cut s) h).1, lt-leb (2 * n) (length out) l)

    pub maps-all : (out' : List ℕ) → 2 * n ≤ length out → out' ≡ sets out 0 (numbers_of (maps_in (cut s)))
        → maps_of s out ≡ record { number = 0; place = 0; count = n; output = out' }
    unfolding maps_of list_maps
    maps-all out' l e =
        let m = (counted-maps n (cut s) h).1 in
        let k = length_numbers (maps_in (cut s)) in
        ap (λ (c : Cut). ask_maps (not_listed out) (list_maps out) c) is_all
        ∙ rw (e, sets-eq (numbers_of (maps_in (cut s))) out 0 (omega arith), zero-add, k, m, le-leb (2 * n) (length out) l)

-- field by field
pub answers : {r : Maps} {out : List ℕ} {l : MapsListed} → l ≡ record { number = r.number; place = r.place; count = r.count; output = out } → Answers r out l
answers e = rw e (record { number = refl; place = refl; count = refl; output = refl })
