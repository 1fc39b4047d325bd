-- One turn of the loop over the maps.
use Prim.Native.Nat.{ℕ, suc, ◌+◌, ◌*◌, ◌-◌, ◌^◌, ◌≤◌, ◌<◌}
use mathlib.Core.Path.{◌≡◌, refl, sym, ap, ◌∙◌}
use mathlib.Core.List.{List, [], ◌∷◌}
use native.Mathlib.Omega.{arith}
use native.Mathlib.Decide.{ℕ_discrete, dec_lt}
use borrow.Author.Tests.{le-leb}
use lib.ListN.{length, take, drop, length-drop}
use Rattle.stackmap.specs.Verdict.{Valid, Refused}
use Rattle.stackmap.specs.Verdict.{must, chain}
use Rattle.stackmap.specs.Section.{constants_at, records_at, is_old, entries}
use Rattle.stackmap.specs.Check.{header_check, tables_check, section_check}
use Rattle.stackmap.proofs.Verdicts.{chain_first}
use Rattle.stackmap.proofs.Within.{begin_held}
use Rattle.stackmap.proofs.OneWalk.{fold}
use Rattle.questions.specs.declared.Hits.{Hits}
use Rattle.questions.specs.Kept.{no_hits, noted}
use Rattle.questions_find.specs.declared.Scanned.{Scanned}
use Rattle.questions_find.specs.Scan.{all_records, front_check, told, scanned}
use Rattle.questions_find.proofs.Ends.{Fronted, front_refused, front_right, front_whole, front_after}
use Rattle.linked.specs.declared.FoundIn.{FoundIn}
use Rattle.linked.specs.Linked.{Map, map_at, Cut, maps, refusal, before, cut, ask_maps}
use Rattle.linked.specs.Find.{none_old, all_with_address, not_found_in, first_of_all, by_address_in}
use Rattle.linked.proofs.Prefix.{nine_walked, walked_least, prefix}
use Rattle.linked.proofs.Cutting.{cut_rest, rest-start, rest-last, rest_wrong, rest_more}
use Rattle.linked.proofs.Places.{section_within}
use Rattle.linked_find.specs.Added.{added, added_all}
use Rattle.linked_find.proofs.Added.{all_none}

-- 9 is given where all records are right, and nowhere else
front_nine : (t : List ℕ) (p : ℕ) → section_check t ≡ Refused 9 p → front_check t ≡ Valid p
unfolding front_check all_records header_check tables_check chain must
front_nine t p h =
    let n = nine_walked t p h in
    let w = n.0 in
    let u = walked_least t p w in
    let i = n.1 in
    let l = n.2 in
    let a : 16 ≤ length t = omega arith in
    let f : constants_at t ≤ length t = omega arith in
    let k : records_at t ≤ length t = omega arith in
    rw (le-leb 16 (length t) a, le-leb (length t) 16777216 l, w.version, w.reserved.1, le-leb (constants_at t) (length t) f, le-leb (records_at t) (length t) k, w.counts, w.records)

-- What a walk over the bytes t tells.

module _ (t : List ℕ) (a : ℕ) (r : Scanned) (e : r ≡ scanned t a) where
  not_nine : (r.number ≡ 0 → ⊥) → r.number ≡ 9 → ⊥
  unfolding scanned told
  not_nine z q =
      let h : section_check t ≡ Refused 9 r.place = rw (← q) (front_refused t a r e z) in
      z (rw (rw (front_nine t r.place h) at e))

  pub place_inside : r.place ≤ length t
  place_inside = go (ℕ_discrete r.number 0) (ℕ_discrete r.place (length t))
    where
      go : Dec (r.number ≡ 0) → Dec (r.place ≡ length t) → r.place ≤ length t
      go (no z) d = (rw (front_refused t a r e z) at (section_within t)).most
      go (yes z) (yes q) = omega arith
      go (yes z) (no q) = (rw (front_after (front_right t a r e z) q) at (section_within t)).most

  pub front_least : r.number ≡ 0 → 16 ≤ length t
  unfolding front_check
  front_least z = let i = (begin_held t _ (chain_first _ _ _ (front_right t a r e z).front).1).inside in omega arith

-- The loop.

module _ (s : List ℕ) (a : ℕ) where
  -- the answer f over the first i maps, which end at `at`, and what lies from there on give the answer over all maps
  pub record Asking (at i : ℕ) (f : FoundIn) : Type 0 where
    pub same : by_address_in s a ≡ ask_maps not_found_in (added_all a i f) (cut_rest s at)
    pub inside : at ≤ length s
    pub most : i ≤ at
    pub short : 0 < at → length s ≤ 16777216
    pub few : f.sharing ≤ 4294967296 * i

  pub ask-start : Asking 0 0 (not_found_in 10 0)
  unfolding by_address_in
  ask-start =
      record {
        same = ap (λ (c : Cut). ask_maps not_found_in (λ ms. none_old not_found_in ms (first_of_all (all_with_address a 0 ms))) c) (rest-start s) ∙ go (cut_rest s 0);
        inside = omega arith;
        most = omega arith;
        short = λ l. absurd (omega arith);
        few = omega arith;
      }
    where
      go : (c : Cut) → ask_maps not_found_in (λ ms. none_old not_found_in ms (first_of_all (all_with_address a 0 ms))) c ≡ ask_maps not_found_in (added_all a 0 (not_found_in 10 0)) c
      go (maps ms) = sym (all_none a 0 ms)
      go (refusal n p) = refl

  -- one map before the others
  step : (i : ℕ) (f : FoundIn) (m : Map) (c : Cut) → ask_maps not_found_in (added_all a i f) (before m c)
      ≡ ask_maps not_found_in (added_all a (suc i) (added (is_old m.content) i m.first (fold (noted a) (entries m.content) no_hits) f)) c
  unfolding added_all
  step i f m (maps ms) = refl
  step i f m (refusal n p) = refl

  module _ {at i : ℕ} {f : FoundIn} (w : Asking at i f) (r : Scanned) (e : r ≡ scanned (drop at s) a) where
    -- a refusal is moved to its place in the whole
    pub turn_refused : (r.number ≡ 0 → ⊥) → not_found_in r.number (at + r.place) ≡ by_address_in s a
    turn_refused z = sym (w.same ∙ rw (rest_wrong s at r.number r.place (front_refused (drop at s) a r e z) (not_nine (drop at s) a r e z)))

    -- the last map
    pub turn_last : r.number ≡ 0 → at + r.place ≡ length s → added (is_old (drop at s)) i at r.hits f ≡ by_address_in s a
    unfolding added_all
    turn_last z q =
        let k = front_right (drop at s) a r e z in
        let d = length-drop at s in
        sym (w.same ∙ rw (rest-last s at (front_whole k (omega arith)), k.kept))

    -- sums of what was found fit
    pub sums_fit : r.hits.sharing < 4294967296 → f.sharing + r.hits.sharing < 2 ^ 64
    sums_fit l = go (dec_lt 0 at)
      where
        go : Dec (0 < at) → f.sharing + r.hits.sharing < 2 ^ 64
        go (yes b) = let u = w.short b in let n = w.few in let v = w.inside in let m = w.most in omega arith
        go (no b) = let n = w.few in let m = w.most in omega arith

    -- a map that others follow
    module _ (z : r.number ≡ 0) (q : at + r.place ≡ length s → ⊥) where
      nine : section_check (drop at s) ≡ Refused 9 r.place
      nine = let d = length-drop at s in let v = w.inside in front_after (front_right (drop at s) a r e z) (λ p. q (omega arith))

      pub turn_grows : at < at + r.place
      turn_grows = let l = (prefix (drop at s) r.place nine).least in omega arith

      short_on : Dec (0 < at) → length (drop at s) ≤ 16777216 → length s ≤ 16777216
      short_on (yes b) l = w.short b
      short_on (no b) l = let d = length-drop at s in omega arith

      pub turn_on : (g : FoundIn) → g ≡ added (is_old (drop at s)) i at r.hits f → g.sharing ≤ f.sharing + r.hits.sharing → r.hits.sharing < 4294967296
          → Asking (at + r.place) (i + 1) g
      turn_on g o n l =
          let p = prefix (drop at s) r.place nine in
          let d = length-drop at s in
          let b = p.least in
          let j = p.inside in
          let m = w.most in
          let h = w.few in
          let k : i + 1 ≡ suc i = omega arith in
          record {
            same = w.same ∙ ap (ask_maps not_found_in (added_all a i f)) (rest_more s at r.place nine)
                ∙ step i f (map_at at (take r.place (drop at s))) (cut_rest s (at + r.place))
                ∙ rw (p.entries_are_same, p.old_is_same, (front_right (drop at s) a r e z).kept, o, k);
            inside = omega arith;
            most = omega arith;
            short = λ _. short_on (dec_lt 0 at) (nine_walked (drop at s) r.place nine).2;
            few = omega arith;
          }
