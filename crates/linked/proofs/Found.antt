-- The question by address over all maps, by the answers of each map; and on a section that is one map.
use Prim.Native.Nat.{ℕ, suc, ◌+◌}
use mathlib.Core.Path.{◌≡◌, refl, sym, ap, ◌∙◌}
use mathlib.Core.Bool.{Bool, true, false, cond, not}
use mathlib.Core.List.{List, [], ◌∷◌, ◌++◌, append-nil, append_assoc, Memᴰ}
use native.Mathlib.Omega.{arith}
use native.Mathlib.Nat.{add-zero, zero-add}
use lib.ListN.{length, length-append}
use Rattle.stackmap.specs.Verdict.{Refused}
use Rattle.stackmap.specs.Verdict.{need, number_of}
use Rattle.stackmap.specs.Section.{is_old, Entry, entries}
use Rattle.stackmap.specs.Check.{section_check, Accepted}
use Rattle.questions.specs.Questions.{ask, with_address, not_found, first_of, by_address}
use Rattle.linked.specs.declared.FoundIn.{FoundIn}
use Rattle.linked.specs.Linked.{Map, map_at, maps, refusal, cut}
use Rattle.linked.specs.Find.{none_old, MapEntry, of_map, all_with_address, not_found_in, first_of_all, by_address_in}
use Rattle.linked.specs.Laws.{in_first_map, OneMap, AllNew, sharings, in_map, EachMap}
use Rattle.linked.proofs.Cutting.{Looked, last, more, wrong, looked, cut-last, cut_wrong}
use Rattle.linked.proofs.Whole.{each_accepted}

-- the answers of accepted maps of version 3

module _ (a : ℕ) where
  asked : (c : List ℕ) → Accepted c → is_old c ≡ false → by_address c a ≡ first_of (with_address a (entries c))
  unfolding by_address ask
  asked c k new = rw (k, new)

  first_sharing : (es : List Entry) → (first_of es).sharing ≡ length es
  first_sharing [] = refl
  first_sharing (e ∷ es) = refl

  length-of_map : (i : ℕ) (m : Map) (es : List Entry) → length (of_map i m es) ≡ length es
  unfolding of_map
  length-of_map i m [] = refl
  length-of_map i m (e ∷ es) = ap suc (length-of_map i m es)

  -- there are as many records as the maps' answers say
  all_shared : (i : ℕ) (ms : List Map) → ((m : Map) → Memᴰ m ms → Accepted m.content) → AllNew ms → length (all_with_address a i ms) ≡ sharings a ms
  unfolding all_with_address sharings
  all_shared i [] k new = refl
  all_shared i (m ∷ ms) k new =
      let e = asked m.content (k m (mathlib.Core.List.Memᴰ.head refl)) (new m (mathlib.Core.List.Memᴰ.head refl)) in
      let r = all_shared (suc i) ms (λ x j. k x (mathlib.Core.List.Memᴰ.tail j)) (λ x j. new x (mathlib.Core.List.Memᴰ.tail j)) in
      rw (length-append, length-of_map i m, e, first_sharing (with_address a (entries m.content)), r)

  none_of : (xs : List MapEntry) → length xs ≡ 0 → xs ≡ []
  none_of [] h = refl
  none_of (x ∷ xs) h = absurd (omega arith)

  all_append : (i : ℕ) (bs cs : List Map) → all_with_address a i (bs ++ cs) ≡ all_with_address a i bs ++ all_with_address a (i + length bs) cs
  unfolding all_with_address
  all_append i [] cs = rw add-zero
  all_append i (m ∷ bs) cs =
      let z : suc i + length bs ≡ i + suc (length bs) = omega arith in
      rw (all_append (suc i) bs cs, z, append_assoc)

  -- the first of them, where the map m has one
  first_in : (i : ℕ) (m : Map) (es : List Entry) (xs : List MapEntry) → (first_of es).number ≡ 0
      → first_of_all (of_map i m es ++ xs) ≡ in_map i m (length (of_map i m es ++ xs)) (first_of es)
  unfolding of_map
  first_in i m [] xs h = absurd (omega arith)
  first_in i m (e ∷ es) xs h = refl

-- 27

all_new : (k : FoundIn) (ms : List Map) → AllNew ms → none_old not_found_in ms k ≡ k
unfolding none_old
all_new k [] new = refl
all_new k (m ∷ ms) new = rw (new m (mathlib.Core.List.Memᴰ.head refl)) (all_new k ms (λ x j. new x (mathlib.Core.List.Memᴰ.tail j)))

first-old : (k : FoundIn) (bs : List Map) (m : Map) (cs : List Map) → AllNew bs → is_old m.content ≡ true → none_old not_found_in (bs ++ m ∷ cs) k ≡ not_found_in 27 m.first
unfolding none_old
first-old k [] m cs new old = rw old
first-old k (b ∷ bs) m cs new old = rw (new b (mathlib.Core.List.Memᴰ.head refl)) (first-old k bs m cs (λ x j. new x (mathlib.Core.List.Memᴰ.tail j)) old)

-- All maps.

module _ (s : List ℕ) (a : ℕ) where
  answer-old : (bs : List Map) (m : Map) (cs : List Map) → cut s ≡ maps (bs ++ m ∷ cs) → AllNew bs → is_old m.content ≡ true → by_address_in s a ≡ not_found_in 27 m.first
  unfolding by_address_in
  answer-old bs m cs h new old = rw h (first-old _ bs m cs new old)

  answer-new : (ms : List Map) → cut s ≡ maps ms → AllNew ms → by_address_in s a ≡ first_of_all (all_with_address a 0 ms)
  unfolding by_address_in
  answer-new ms h new = rw h (all_new _ ms new)

  answer-absent : (ms : List Map) → cut s ≡ maps ms → AllNew ms → sharings a ms ≡ 0 → by_address_in s a ≡ not_found_in 10 0
  answer-absent ms h new z = answer-new ms h new ∙ ap first_of_all (none_of a (all_with_address a 0 ms) (all_shared a 0 ms (each_accepted s ms h) new ∙ z))

  answer-found : (bs : List Map) (m : Map) (cs : List Map) → cut s ≡ maps (bs ++ m ∷ cs) → AllNew (bs ++ m ∷ cs) → sharings a bs ≡ 0 → (by_address m.content a).number ≡ 0
      → by_address_in s a ≡ in_map (length bs) m (sharings a (bs ++ m ∷ cs)) (by_address m.content a)
  unfolding all_with_address
  answer-found bs m cs h new z f =
      let k = each_accepted s (bs ++ m ∷ cs) h in
      let here : Memᴰ m (bs ++ m ∷ cs) = mathlib.Core.List.Memᴰ.append_right bs (mathlib.Core.List.Memᴰ.head refl) in
      let e = asked a m.content (k m here) (new m here) in
      let n = none_of a (all_with_address a 0 bs) (all_shared a 0 bs (λ x j. k x (mathlib.Core.List.Memᴰ.append_left (m ∷ cs) j)) (λ x j. new x (mathlib.Core.List.Memᴰ.append_left (m ∷ cs) j)) ∙ z) in
      let w : all_with_address a 0 (bs ++ m ∷ cs) ≡ of_map (length bs) m (with_address a (entries m.content)) ++ all_with_address a (suc (length bs)) cs =
      all_append a 0 bs (m ∷ cs) ∙ rw (n, zero-add) in
      let l = sym (ap length w) ∙ all_shared a 0 (bs ++ m ∷ cs) k new in
      answer-new (bs ++ m ∷ cs) h new ∙ ap first_of_all w ∙ first_in a (length bs) m _ _ (rw e at f) ∙ rw (l, e)

pub each_map : EachMap
each_map = record { old = answer-old; absent = answer-absent; found = answer-found }

-- One map.

cut-one : (s : List ℕ) → Accepted s → cut s ≡ maps (map_at 0 s ∷ [])
unfolding cut
cut-one s h = cut-last (length s) 0 s h

cut-refused : (s : List ℕ) (n p : ℕ) → section_check s ≡ Refused n p → (n ≡ 9 → ⊥) → cut s ≡ refusal n p
unfolding cut
cut-refused s n p h o = rw (zero-add p) at (cut_wrong (length s) 0 s n p h o)

first_one : (s : List ℕ) (es : List Entry) → first_of_all (of_map 0 (map_at 0 s) es ++ []) ≡ in_first_map (first_of es)
unfolding of_map
first_one s [] = refl
first_one s (e ∷ es) = ap first_of_all (append-nil (of_map 0 (map_at 0 s) (e ∷ es))) ∙ rw (length-of_map 0 0 (map_at 0 s) es, zero-add)

found-one : (s : List ℕ) (a : ℕ) (old : Bool)
    → need (not old) (not_found_in 27 0) (first_of_all (of_map 0 (map_at 0 s) (with_address a (entries s)) ++ [])) ≡ in_first_map (cond old (not_found 27 0) (first_of (with_address a (entries s))))
found-one s a true = refl
found-one s a false = first_one s (with_address a (entries s))

found-same : (s : List ℕ) (a : ℕ) → (number_of (section_check s) ≡ 9 → ⊥) → Looked s → by_address_in s a ≡ in_first_map (by_address s a)
unfolding by_address_in by_address ask none_old all_with_address
found-same s a o (last k) = rw (cut-one s k, k) (found-one s a (is_old s))
found-same s a o (more p e) = absurd (o (ap number_of e))
found-same s a o (wrong n p e w) = rw (cut-refused s n p e w, e)

pub one_map : OneMap
one_map = record { accepted = cut-one; refused = cut-refused; found = λ s a o. found-same s a o (looked s) }
