-- One more map is cut off, and its records are found.
use Prim.Native.Nat.{ℕ, ◌+◌, ◌-◌, ◌≤◌, ◌<◌}
use mathlib.Core.Path.{◌≡◌, refl, sym, ap, ◌∙◌}
use mathlib.Core.Bool.{Bool, true, false, cond, not}
use mathlib.Core.List.Memᴰ
use mathlib.Core.List.{List, [], ◌∷◌, ◌++◌, Memᴰ}
use mathlib.Core.Logic.{⊎_elim}
use native.Mathlib.Omega.{arith}
use native.Mathlib.Decide.{ℕ_discrete}
use borrow.Author.Tests.{eq-eqb, ne_eqb}
use lib.Dec.{eqb}
use lib.ListN.{length, take, drop, length-drop}
use lib.Seq.{take_all}
use Rattle.stackmap.specs.Verdict.{Verdict}
use Rattle.stackmap.specs.Verdict.{Valid, Refused}
use Rattle.stackmap.specs.Verdict.{need}
use Rattle.stackmap.specs.Section.{is_old, entries}
use Rattle.stackmap.specs.Check.{section_check, Accepted}
use Rattle.stackmap.proofs.Numbers.{Numbered, n_chain}
use Rattle.stackmap.proofs.OneWalk.{fold}
use Rattle.stackmap.proofs.Within.{part-from}
use Rattle.questions.specs.Kept.{no_hits, noted}
use Rattle.questions_find.specs.Scan.{all_records, front_check}
use Rattle.questions_find.proofs.Ends.{Fronted, front_whole, front_after}
use Rattle.moves.specs.Window.{part}
use Rattle.thread_search.proofs.Walked.{section_stop}
use Rattle.linked.specs.Linked.{Map, map_at, Cut, maps, refusal, before, cut}
use Rattle.linked.specs.Find.{none_old}
use Rattle.linked.proofs.Prefix.{prefix, header_low, tables-low, walk_low, walked_least, accepted_walked}
use Rattle.linked.proofs.Places.{section_within}
use Rattle.linked.proofs.Cutting.{cut_rest, rest-start, rest-last, rest_wrong, rest_more}
use Rattle.linked_moves.specs.Code.{maps_in, AllStanding}
use Rattle.linked_search.specs.Check.{linked_check}
use Rattle.linked_search.specs.Found.{first_old}

-- Maps before a cut.

abbrev pub before_all : List Map → Cut → Cut
before_all [] c = c
before_all (m ∷ ms) c = before m (before_all ms c)

all_more : (ms : List Map) (m : Map) (c : Cut) → before_all (ms ++ m ∷ []) c ≡ before_all ms (before m c)
all_more [] m c = refl
all_more (n ∷ ms) m c = ap (before n) (all_more ms m c)

all-maps : (ms : List Map) (m : Map) → before_all ms (maps (m ∷ [])) ≡ maps (ms ++ m ∷ [])
all-maps [] m = refl
all-maps (n ∷ ms) m = ap (before n) (all-maps ms m)

all-refused : (ms : List Map) (n p : ℕ) → before_all ms (refusal n p) ≡ refusal n p
all-refused [] n p = refl
all-refused (m ∷ ms) n p = ap (before m) (all-refused ms n p)

-- a map that is done
pub record Stands (s : List ℕ) (m : Map) : Type 0 where
  pub accepted : Accepted m.content
  pub some : 0 < length m.content
  pub inside : m.first + length m.content ≤ length s
  pub content_is : m.content ≡ part s m.first (length m.content)

pub record Cutting (s : List ℕ) (at : ℕ) (done : List Map) : Type 0 where
  pub inside : at ≤ length s
  pub rest : at < length s → cut s ≡ before_all done (cut_rest s at)
  pub whole : at ≡ length s → cut s ≡ maps done
  pub each : (m : Map) → Memᴰ m done → Stands s m

pub cutting_start : (s : List ℕ) → 0 < length s → Cutting s 0 []
cutting_start s l = record { inside = omega arith; rest = λ h. rest-start s; whole = λ e. absurd (omega arith); each = λ m i. absurd (Memᴰ.not-nil i) }

-- One more map, which has e bytes.
module _ (s : List ℕ) (at e : ℕ) where
  abbrev pub content : List ℕ
  content = take e (drop at s)

  pub record MoreMap : Type 0 where
    pub same_entries : entries content ≡ entries (drop at s)
    pub same_old : is_old content ≡ is_old (drop at s)
    pub accepted : Accepted content
    pub long : length content ≡ e
    pub some : 16 ≤ e
    pub inside : at + e ≤ length s
    pub on : (done : List Map) → at < length s → Cutting s at done → Cutting s (at + e) (done ++ map_at at content ∷ [])

  stands : Accepted content → length content ≡ e → 0 < e → at + e ≤ length s → Stands s (map_at at content)
  stands a l k i = record { accepted = a; some = omega arith; inside = omega arith; content_is = rw l }

  each_on : Stands s (map_at at content) → (done : List Map) → ((m : Map) → Memᴰ m done → Stands s m) → (m : Map) → Memᴰ m (done ++ map_at at content ∷ []) → Stands s m
  each_on k done f m i = ⊎_elim (λ j. f m j) (λ j. let e : m ≡ map_at at content = Memᴰ.eq_of_singleton j in rw e k) (Memᴰ.append_cases done i)

  more-map : at ≤ length s → front_check (drop at s) ≡ Valid e → Dec (e ≡ length (drop at s)) → MoreMap
  more-map l h (yes q) =
      let d = length-drop at s in
      let f : Fronted (drop at s) 0 e (fold (noted 0) (entries (drop at s)) no_hits) = record { front = h; kept = refl } in
      let a = front_whole f q in
      let t : content ≡ drop at s = take_all e (drop at s) (omega arith) in
      let u = walked_least (drop at s) (length (drop at s)) (accepted_walked (drop at s) a) in
      let k : length content ≡ e = rw t (sym q) in
      let b : Accepted content = rw t a in
      record {
        same_entries = ap entries t;
        same_old = ap is_old t;
        accepted = b;
        long = k;
        some = omega arith;
        inside = omega arith;
        on =
            λ done n c.
            record {
              inside = omega arith;
              rest = λ m. absurd (omega arith);
              whole = λ m. c.rest n ∙ ap (before_all done) (rest-last s at a) ∙ all-maps done (map_at at (drop at s)) ∙ ap (λ (r : List ℕ). maps (done ++ map_at at r ∷ [])) (sym t);
              each = each_on (stands b k (omega arith) (omega arith)) done c.each;
            };
      }
  more-map l h (no q) =
      let d = length-drop at s in
      let f : Fronted (drop at s) 0 e (fold (noted 0) (entries (drop at s)) no_hits) = record { front = h; kept = refl } in
      let n = front_after f q in
      let p = prefix (drop at s) e n in
      let i = p.inside in
      let j = p.least in
      record {
        same_entries = p.entries_are_same;
        same_old = p.old_is_same;
        accepted = p.accepted;
        long = p.long;
        some = omega arith;
        inside = omega arith;
        on =
            λ done m c.
            record {
              inside = omega arith;
              rest = λ k. c.rest m ∙ ap (before_all done) (rest_more s at e n) ∙ sym (all_more done (map_at at content) (cut_rest s (at + e)));
              whole = λ k. absurd (omega arith);
              each = each_on (stands p.accepted p.long (omega arith) (omega arith)) done c.each;
            };
      }

  pub one_more : at ≤ length s → front_check (drop at s) ≡ Valid e → MoreMap
  one_more l h = more-map l h (ℕ_discrete e (length (drop at s)))

-- Places.

pub stop_within : (s : List ℕ) (n p : ℕ) → front_check s ≡ Refused n p → p ≤ length s
stop_within s n p h = (rw (sym (section_stop s n p h)) at (section_within s)).most

pub end_within : (s : List ℕ) (e : ℕ) → front_check s ≡ Valid e → e ≤ length s
end_within s e h = go (ℕ_discrete e (length s))
  where
    f : Fronted s 0 e (fold (noted 0) (entries s) no_hits)
    f = record { front = h; kept = refl }

    go : Dec (e ≡ length s) → e ≤ length s
    go (yes q) = omega arith
    go (no q) = let i = (prefix s e (front_after f q)).inside in omega arith

-- Refusals.

front_low : (s : List ℕ) → Numbered 8 (front_check s)
unfolding front_check all_records
front_low s = n_chain _ _ (n_chain _ _ (header_low s) (tables-low s)) (walk_low _ _ s _ _)

pub cut_stop : (s : List ℕ) (at n p : ℕ) (done : List Map) → at < length s → Cutting s at done → front_check (drop at s) ≡ Refused n p → Refused n (at + p) ≡ linked_check s
unfolding linked_check
cut_stop s at n p done l c h =
    let b = (rw h at (front_low (drop at s))).low in
    rw (c.rest l, rest_wrong s at n p (sym (section_stop (drop at s) n p h)) (λ z. omega arith), all-refused)

pub size_stop : (s : List ℕ) → section_check s ≡ Refused 1 0 → Refused 1 0 ≡ linked_check s
unfolding linked_check
size_stop s h = rw (rest-start s ∙ rest_wrong s 0 1 0 h (λ z. omega arith))

-- Version 1.

module _ (d : ℕ) where
  -- all maps begin below d
  abbrev pub Below : List Map → Type 0
  Below ms = (m : Map) → Memᴰ m ms → m.first < d

  pub old_on : (ms : List Map) (m : Map) → Below ms → first_old d (ms ++ m ∷ []) ≡ cond (eqb (first_old d ms) d) (cond (is_old m.content) m.first d) (first_old d ms)
  unfolding first_old
  old_on [] m b = rw (eq-eqb d d refl)
  old_on (n ∷ ms) m b = go (is_old n.content) (old_on ms m (λ x i. b x (Memᴰ.tail i))) (b n (Memᴰ.head refl))
    where
      go : (o : Bool) → first_old d (ms ++ m ∷ []) ≡ cond (eqb (first_old d ms) d) (cond (is_old m.content) m.first d) (first_old d ms) → n.first < d
          → cond o n.first (first_old d (ms ++ m ∷ [])) ≡ cond (eqb (cond o n.first (first_old d ms)) d) (cond (is_old m.content) m.first d) (cond o n.first (first_old d ms))
      go true e l = rw (ne_eqb n.first d (λ z. omega arith))
      go false e l = e

  pub old-some : (ms : List Map) (k : Verdict) → (first_old d ms ≡ d → ⊥) → none_old Refused ms k ≡ Refused 27 (first_old d ms)
  unfolding first_old none_old
  old-some [] k o = absurd (o refl)
  old-some (m ∷ ms) k o = go (is_old m.content) (old-some ms k) o
    where
      go : (b : Bool) → ((first_old d ms ≡ d → ⊥) → none_old Refused ms k ≡ Refused 27 (first_old d ms)) → (cond b m.first (first_old d ms) ≡ d → ⊥)
          → need (not b) (Refused 27 m.first) (none_old Refused ms k) ≡ Refused 27 (cond b m.first (first_old d ms))
      go true f n = refl
      go false f n = f n

  pub old-none : (ms : List Map) (k : Verdict) → Below ms → first_old d ms ≡ d → none_old Refused ms k ≡ k
  unfolding first_old none_old
  old-none [] k b e = refl
  old-none (m ∷ ms) k b e = go (is_old m.content) (old-none ms k (λ x i. b x (Memᴰ.tail i))) (b m (Memᴰ.head refl)) e
    where
      go : (o : Bool) → (first_old d ms ≡ d → none_old Refused ms k ≡ k) → m.first < d → cond o m.first (first_old d ms) ≡ d
          → need (not o) (Refused 27 m.first) (none_old Refused ms k) ≡ k
      go true f l n = absurd (omega arith)
      go false f l n = f n

  pub all_new : (ms : List Map) → Below ms → first_old d ms ≡ d → (m : Map) → Memᴰ m ms → is_old m.content ≡ false
  unfolding first_old
  all_new [] b e m i = absurd (Memᴰ.not-nil i)
  all_new (n ∷ ms) b e m i = go (is_old n.content) refl (all_new ms (λ x j. b x (Memᴰ.tail j))) (b n (Memᴰ.head refl)) e
    where
      go : (o : Bool) → is_old n.content ≡ o → (first_old d ms ≡ d → (x : Map) → Memᴰ x ms → is_old x.content ≡ false) → n.first < d
          → cond o n.first (first_old d ms) ≡ d → is_old m.content ≡ false
      go true q f l k = absurd (omega arith)
      go false q f l k = ⊎_elim (λ z. ap (λ (x : Map). is_old x.content) z ∙ q) (λ j. f k m j) (Memᴰ.cases_cons i)

-- one look at a map's version
pub old_is : (s : List ℕ) (at old : ℕ) (b : Bool) → b ≡ is_old (take (length s - at) (drop at s)) → old ≡ length s
    → cond b at old ≡ cond (eqb old (length s)) (cond (is_old (drop at s)) at (length s)) old
old_is s at old b e q = rw (eq-eqb old (length s) q, e, part-from s at, q)

pub below_all : {s : List ℕ} {at : ℕ} {done : List Map} → Cutting s at done → (m : Map) → Memᴰ m done → m.first < length s
below_all c m i = let k = (c.each m i).some in let l = (c.each m i).inside in omega arith

-- The end.

module _ (s : List ℕ) (at : ℕ) (done : List Map) (c : Cutting s at done) (e : at ≡ length s) where
  pub maps-are : maps_in s ≡ done
  unfolding maps_in
  maps-are = rw (c.whole e)

  pub end-old : (first_old (length s) done ≡ length s → ⊥) → Refused 27 (first_old (length s) done) ≡ linked_check s
  unfolding linked_check
  end-old o = rw (c.whole e) (sym (old-some (length s) done (Valid (length s)) o))

  pub end-new : first_old (length s) done ≡ length s → Valid (length s) ≡ linked_check s
  unfolding linked_check
  end-new o = rw (c.whole e) (sym (old-none (length s) done (Valid (length s)) (below_all c) o))

  pub end-standing : first_old (length s) done ≡ length s → AllStanding s done
  end-standing o =
      record {
        each =
            λ m i.
            let k = c.each m i in
            record { accepted = k.accepted; new = all_new (length s) done (below_all c) o m i; inside = k.inside; content_is = k.content_is };
      }
