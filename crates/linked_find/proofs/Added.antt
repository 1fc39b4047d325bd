-- The answer that grows map by map is, after the last map, the answer over all of them.
use Prim.Native.Nat.{ℕ, suc, ◌+◌, ◌<◌}
use mathlib.Core.Path.{◌≡◌, refl, sym, ap, ◌∙◌}
use mathlib.Core.Bool.{Bool, true, false, not}
use mathlib.Core.List.{List, [], ◌∷◌, ◌++◌}
use native.Mathlib.Omega.{arith}
use borrow.Author.Tests.{eq-eqb, ne_eqb}
use lib.Dec.{eqb}
use lib.ListN.{length}
use Rattle.stackmap.specs.Verdict.{need}
use Rattle.stackmap.specs.Section.{is_old, Entry, entries}
use Rattle.stackmap.proofs.OneWalk.{fold}
use Rattle.questions.specs.declared.Found.{Found}
use Rattle.questions.specs.declared.Hits.{Hits}
use Rattle.questions.specs.Kept.{no_hits, noted}
use Rattle.questions.specs.Questions.{with_address, first_of}
use Rattle.questions.proofs.Kept.{hits_answer, hits_answer_lem}
use Rattle.linked.specs.declared.FoundIn.{FoundIn}
use Rattle.linked.specs.Linked.{Map}
use Rattle.linked.specs.Find.{none_old, of_map, all_with_address, MapEntry, not_found_in, first_of_all}
use Rattle.linked_find.specs.Added.{found_in, added, added_all}

-- What a walk keeps of a map, by the map's records with the address.

none_kept : (h : Hits) → hits_answer (eqb h.sharing 0) h ≡ first_of [] → eqb h.sharing 0 ≡ true
none_kept h e = go (eqb h.sharing 0) e
  where
    go : (b : Bool) → hits_answer b h ≡ first_of [] → b ≡ true
    go true q = refl
    go false q = absurd (let z : ◌≡◌ {A = ℕ} 0 10 = ap (λ (r : Found). r.number) q in omega arith)

some-kept : (h : Hits) (e : Entry) (es : List Entry) → hits_answer (eqb h.sharing 0) h ≡ first_of (e ∷ es)
    → (eqb h.sharing 0 ≡ false) × (h ≡ record { index = e.number; function = e.owner.number; sharing = suc (length es); first = e.first })
some-kept h e es w = go (eqb h.sharing 0) w
  where
    go : (b : Bool) → hits_answer b h ≡ first_of (e ∷ es)
        → (b ≡ false) × (h ≡ record { index = e.number; function = e.owner.number; sharing = suc (length es); first = e.first })
    go true q = absurd (let z : ◌≡◌ {A = ℕ} 10 0 = ap (λ (r : Found). r.number) q in omega arith)
    go false q =
        let i : h.index ≡ e.number = ap (λ (r : Found). r.index) q in
        let g : h.function ≡ e.owner.number = ap (λ (r : Found). r.function) q in
        let n : h.sharing ≡ suc (length es) = ap (λ (r : Found). r.sharing) q in
        let p : h.first ≡ e.first = ap (λ (r : Found). r.first) q in
        (refl, rw (← i, ← g, ← n, ← p))

-- One map more.

module _ (i at : ℕ) (h : Hits) where
  -- a map of version 1 came before
  pub added_late : (old : Bool) (p : ℕ) → added old i at h (not_found_in 27 p) ≡ not_found_in 27 p
  unfolding added
  added_late old p = refl

  module _ (f : FoundIn) (l : f.number < 27) where
    pub added-old : added true i at h f ≡ not_found_in 27 at
    unfolding added
    added-old = rw (ne_eqb f.number 27 (λ e. omega arith))

    pub added_none : eqb h.sharing 0 ≡ true → added false i at h f ≡ f
    unfolding added
    added_none z = rw (ne_eqb f.number 27 (λ e. omega arith), z)

    pub added-first : eqb h.sharing 0 ≡ false → f.sharing ≡ 0 → added false i at h f ≡ found_in i h.index h.function h.sharing (at + h.first)
    unfolding added
    added-first z n = rw (ne_eqb f.number 27 (λ e. omega arith), z, eq-eqb f.sharing 0 n)

    pub added_again : eqb h.sharing 0 ≡ false → 0 < f.sharing → added false i at h f ≡ found_in f.map f.index f.function (f.sharing + h.sharing) f.first
    unfolding added
    added_again z n = rw (ne_eqb f.number 27 (λ e. omega arith), z, ne_eqb f.sharing 0 (λ e. omega arith))

-- All maps.

of_map-length : (i : ℕ) (m : Map) (es : List Entry) (xs : List MapEntry) → length (of_map i m es ++ xs) ≡ length es + length xs
unfolding of_map
of_map-length i m [] xs = omega arith
of_map-length i m (e ∷ es) xs = let r = of_map-length i m es xs in omega arith

module _ (a : ℕ) where
  -- after a map of version 1
  all_late : (i p : ℕ) (ms : List Map) → added_all a i (not_found_in 27 p) ms ≡ not_found_in 27 p
  unfolding added_all
  all_late i p [] = refl
  all_late i p (m ∷ ms) = rw (added_late i m.first (fold (noted a) (entries m.content) no_hits) (is_old m.content) p) (all_late (suc i) p ms)

  -- after n records with the address
  all_found : (i k x g n p : ℕ) (ms : List Map) → 0 < n
      → added_all a i (found_in k x g n p) ms ≡ none_old not_found_in ms (found_in k x g (n + length (all_with_address a i ms)) p)
  unfolding added_all none_old all_with_address of_map
  all_found i k x g n p [] l = let z : n + 0 ≡ n = omega arith in rw z
  all_found i k x g n p (m ∷ ms) l =
      go (fold (noted a) (entries m.content) no_hits) (is_old m.content) (with_address a (entries m.content)) (hits_answer_lem a (entries m.content))
      (λ o z. all_found (suc i) k x g o p ms z)
    where
      go : (h : Hits) (old : Bool) (es : List Entry) → hits_answer (eqb h.sharing 0) h ≡ first_of es
          → ((o : ℕ) → 0 < o → added_all a (suc i) (found_in k x g o p) ms ≡ none_old not_found_in ms (found_in k x g (o + length (all_with_address a (suc i) ms)) p))
          → added_all a (suc i) (added old i m.first h (found_in k x g n p)) ms
          ≡ need (not old) (not_found_in 27 m.first) (none_old not_found_in ms (found_in k x g (n + length (of_map i m es ++ all_with_address a (suc i) ms)) p))
      go h true es e rest = rw (added-old i m.first h (found_in k x g n p) (omega arith)) (all_late (suc i) m.first ms)
      go h false [] e rest = rw (added_none i m.first h (found_in k x g n p) (omega arith) (none_kept h e)) (rest n l)
      go h false (y ∷ ys) e rest =
          let w = some-kept h y ys e in
          let q : h.sharing ≡ suc (length ys) = rw w.1 in
          let o = of_map-length i m ys (all_with_address a (suc i) ms) in
          let z : n + suc (length (of_map i m ys ++ all_with_address a (suc i) ms)) ≡ n + suc (length ys) + length (all_with_address a (suc i) ms) = omega arith in
          rw (added_again i m.first h (found_in k x g n p) (omega arith) w.0 l, q, z) (rest (n + suc (length ys)) (omega arith))

  -- after none
  pub all_none : (i : ℕ) (ms : List Map) → added_all a i (not_found_in 10 0) ms ≡ none_old not_found_in ms (first_of_all (all_with_address a i ms))
  unfolding added_all none_old all_with_address of_map
  all_none i [] = refl
  all_none i (m ∷ ms) =
      go (fold (noted a) (entries m.content) no_hits) (is_old m.content) (with_address a (entries m.content)) (hits_answer_lem a (entries m.content))
      (all_none (suc i) ms)
    where
      go : (h : Hits) (old : Bool) (es : List Entry) → hits_answer (eqb h.sharing 0) h ≡ first_of es
          → added_all a (suc i) (not_found_in 10 0) ms ≡ none_old not_found_in ms (first_of_all (all_with_address a (suc i) ms))
          → added_all a (suc i) (added old i m.first h (not_found_in 10 0)) ms
          ≡ need (not old) (not_found_in 27 m.first) (none_old not_found_in ms (first_of_all (of_map i m es ++ all_with_address a (suc i) ms)))
      go h true es e rest = rw (added-old i m.first h (not_found_in 10 0) (omega arith)) (all_late (suc i) m.first ms)
      go h false [] e rest = rw (added_none i m.first h (not_found_in 10 0) (omega arith) (none_kept h e)) rest
      go h false (y ∷ ys) e rest =
          let w = some-kept h y ys e in
          let c : added false i m.first h (not_found_in 10 0) ≡ found_in i y.number y.owner.number (suc (length ys)) (m.first + y.first) =
          added-first i m.first h (not_found_in 10 0) (omega arith) w.0 refl ∙ rw w.1 in
          let o = of_map-length i m ys (all_with_address a (suc i) ms) in
          let z : suc (length (of_map i m ys ++ all_with_address a (suc i) ms)) ≡ suc (length ys) + length (all_with_address a (suc i) ms) = omega arith in
          rw (c, z) (all_found (suc i) i y.number y.owner.number (suc (length ys)) (m.first + y.first) ms (omega arith))
