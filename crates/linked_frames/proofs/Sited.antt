-- Where the record of a frame's address is, over all maps.
use Prim.Native.Nat.{ℕ, suc, ◌+◌, ◌*◌, ◌-◌, ◌<◌}
use mathlib.Core.Path.{◌≡◌, refl, sym, ap, ◌∙◌}
use mathlib.Core.List.{List, [], ◌∷◌, ◌++◌, Memᴰ}
use native.Mathlib.Omega.{arith}
use lib.ListN.{length, get_or}
use Rattle.stackmap.specs.Section.{Entry, entries}
use Rattle.questions.specs.declared.Hits.{Hits}
use Rattle.questions.specs.Questions.{with_address}
use Rattle.sorted.specs.Sorted.{LowerBound}
use Rattle.linked.specs.Linked.{Map}
use Rattle.linked.specs.Find.{MapEntry, of_map, all_with_address}
use Rattle.thread.specs.Code.{hits_at}
use Rattle.thread_search.proofs.Walked.{at_bound}
use Rattle.linked_moves.specs.Code.{FirstIs, Standing, LookedIn}
use Rattle.linked_frames.specs.declared.Site.{Site}
use Rattle.linked_frames.specs.Sites.{Here, SiteBy, SiteOf}

-- the only record over all maps is the only one of its own map, which is one of them
pub record Own (a : ℕ) (ms : List Map) (x : MapEntry) : Type 0 where
  pub member : Memᴰ x.map ms
  pub only : with_address a (entries x.map.content) ≡ x.entry ∷ []

pub own_map : (a i : ℕ) (ms : List Map) (x : MapEntry) → all_with_address a i ms ≡ x ∷ [] → Own a ms x
unfolding all_with_address of_map
own_map a i [] x h = absurd (let z : ◌≡◌ {A = ℕ} 0 1 = ap (λ (l : List MapEntry). length l) h in omega arith)
own_map a i (m ∷ ms) x h = go (own_map a (suc i) ms x) (with_address a (entries m.content)) refl h
  where
    go : (all_with_address a (suc i) ms ≡ x ∷ [] → Own a ms x) → (es : List Entry) → with_address a (entries m.content) ≡ es
        → of_map i m es ++ all_with_address a (suc i) ms ≡ x ∷ [] → Own a (m ∷ ms) x
    go rest [] e q = let o = rest q in record { member = Memᴰ.tail o.member; only = o.only }
    go rest (y ∷ []) e q =
        let z : record { number = i; map = m; entry = y } ≡ x = cc in
        record { member = Memᴰ.head (ap (λ (w : MapEntry). w.map) (sym z)); only = rw (← z) e }
    go rest (y ∷ y' ∷ es) e q = absurd (let z : suc (suc (length (of_map i m es ++ all_with_address a (suc i) ms))) ≡ 1 = ap (λ (l : List MapEntry). length l) q in omega arith)

one_entry : (xs : List MapEntry) → length xs ≡ 1 → (x : MapEntry) × (xs ≡ x ∷ [])
one_entry [] e = absurd (omega arith)
one_entry (x ∷ []) e = (x, refl)
one_entry (x ∷ y ∷ xs) e = absurd (omega arith)

-- A site, by how many records there are.

module _ {s : List ℕ} {ms : List Map} {a : ℕ} {r : Site} where
  pub site_10 : length (all_with_address a 0 ms) ≡ 0 → r.number ≡ 10 → SiteOf s ms a r
  site_10 e n = record { is = go (all_with_address a 0 ms) e }
    where
      go : (xs : List MapEntry) → length xs ≡ 0 → SiteBy s a r xs
      go [] z = n
      go (x ∷ xs) z = absurd (omega arith)

  pub site_15 : (length (all_with_address a 0 ms) ≡ 0 → ⊥) → (length (all_with_address a 0 ms) ≡ 1 → ⊥) → r.number ≡ 15 → SiteOf s ms a r
  site_15 e f n = record { is = go (all_with_address a 0 ms) e f }
    where
      go : (xs : List MapEntry) → (length xs ≡ 0 → ⊥) → (length xs ≡ 1 → ⊥) → SiteBy s a r xs
      go [] y z = absurd (y refl)
      go (x ∷ []) y z = absurd (z refl)
      go (x ∷ x' ∷ xs) y z = n

  pub site_0 : (x : MapEntry) → all_with_address a 0 ms ≡ x ∷ [] → Here s a x r → SiteOf s ms a r
  site_0 x e h = record { is = rw e h }

-- What the arrays tell of the frame at the position k, whose address has the lower bound i.
module _ {s : List ℕ} {ms : List Map} {ns : List ℕ} {count : ℕ} {keys hits sites : List ℕ} (L : LookedIn s ms ns count keys hits sites)
    {k i : ℕ} (l : k < count) (b : LowerBound keys count (get_or ns (2 * k) 0) i) where
  abbrev a : ℕ
  a = get_or ns (2 * k) 0

  pub at : (i < count) × (get_or keys i 0 ≡ a)
  at = at_bound L.gathered.sorted b (L.gathered.each k l)

  bound : LowerBound keys count (get_or keys i 0) i
  bound = rw at.1 b

  pub sharing_is : (hits_at hits i).sharing ≡ length (all_with_address a 0 ms)
  sharing_is = rw (← at.1) (L.found.sharing_is i at.0 bound)

  -- there is one record, in this map
  pub record Sole : Type 0 where
    pub entry : MapEntry
    pub is : all_with_address a 0 ms ≡ entry ∷ []
    pub first : FirstIs hits sites i entry
    pub standing : Standing s entry.map
    pub only : with_address a (entries entry.map.content) ≡ entry.entry ∷ []

  pub sole : (hits_at hits i).sharing ≡ 1 → Sole
  sole e =
      let o = one_entry (all_with_address a 0 ms) (sym sharing_is ∙ e) in
      let w = own_map a 0 ms o.0 o.1 in
      let q : all_with_address (get_or keys i 0) 0 ms ≡ o.0 ∷ [] = rw at.1 o.1 in
      record {
        entry = o.0;
        is = o.1;
        first = L.found.first_is i at.0 bound o.0 [] q;
        standing = L.standing.each o.0.map w.member;
        only = w.only;
      }

  -- its site
  pub sole_site : (e : (hits_at hits i).sharing ≡ 1) (h : Hits) → h ≡ hits_at hits i
      → SiteOf s ms a
      (record {
        number = 0;
        from = get_or sites (2 * i) 0;
        to = get_or sites (2 * i) 0 + get_or sites (2 * i + 1) 0;
        found = record { number = 0; place = 0; index = h.index; function = h.function; sharing = h.sharing; first = h.first };
      })
  sole_site e h g =
      let o = sole e in
      let x = o.entry in
      let n : get_or sites (2 * i) 0 + get_or sites (2 * i + 1) 0 - get_or sites (2 * i) 0 ≡ length x.map.content = omega (arith, o.first.length_is) in
      site_0 x o.is
      (record {
        number_is = refl;
        ordered = omega arith;
        inside = omega (arith, o.first.map_is, o.first.length_is, o.standing.inside);
        content_is = rw (n, o.first.map_is) o.standing.content_is;
        accepted = o.standing.accepted;
        new = o.standing.new;
        only = o.only;
        found_is = rw (g, e, o.first.index_is, o.first.function_is, o.first.first_is);
      })
