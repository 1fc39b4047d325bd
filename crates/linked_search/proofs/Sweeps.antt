-- The walk over the maps.
use Prim.Native.Nat.{ℕ, ◌+◌, ◌*◌, ◌≤◌, ◌<◌}
use mathlib.Core.Path.{◌≡◌, refl, sym, ap, subst, ◌∙◌}
use mathlib.Core.Bool.{Bool, true, false, cond, not, true≢false}
use mathlib.Core.List.{List, [], ◌∷◌, ◌++◌}
use native.Mathlib.Omega.{arith}
use borrow.Author.Tests.{eq-eqb}
use lib.Dec.{eqb}
use lib.ListN.{length, get_or, set, drop}
use Rattle.wire.specs.Word.{Bytes}
use Rattle.stackmap.specs.Verdict.{Verdict}
use Rattle.stackmap.specs.Verdict.{Valid, Refused}
use Rattle.stackmap.specs.Verdict.{shift}
use Rattle.stackmap.specs.Section.{is_old, entries}
use Rattle.stackmap.proofs.Verdicts.{shift-valid}
use Rattle.questions.specs.Kept.{no_hits}
use Rattle.questions_find.specs.Scan.{front_check}
use Rattle.sorted.specs.Sorted.{Sorted}
use Rattle.thread.specs.Thread.{frames_most}
use Rattle.thread.specs.Code.{Holding, Counted}
use Rattle.thread_marks.specs.From.{section_records, Grown, NotedAll, Scans}
use Rattle.thread_marks.proofs.Marks.{counted-grown}
use Rattle.thread_search.proofs.Walked.{never_valid}
use Rattle.linked.specs.Linked.{Map, map_at}
use Rattle.linked_moves.specs.Code.{maps_in, SoughtIn, AllStanding}
use Rattle.linked_search.specs.Check.{linked_check}
use Rattle.linked_search.specs.Found.{first_old, mark, Finding}
use Rattle.linked_search.proofs.Cuts.{Cutting, cutting_start, content, one_more, cut_stop, old_on, below_all, maps-are, end-old, end-new, end-standing}
use Rattle.linked_search.proofs.Finds.{sorted-one, finding_start, finding_on, finding_end}

pub not_both : {A : Type 0} (b : Bool) → not b ≡ true → b ≡ true → A
not_both true h e = absurd (true≢false (sym h))
not_both false h e = absurd (true≢false (sym e))

shift-refused : (at : ℕ) (v : Verdict) (n p : ℕ) → shift at v ≡ Refused n p → (q : ℕ) × (v ≡ Refused n q) × (p ≡ at + q)
unfolding shift
shift-refused at (Valid e) n p h = never_valid (sym h)
shift-refused at (Refused m q) n p h = (q, cc, cc)

-- the maps before `at` are done
pub record Sweep (s keys : List ℕ) (count : ℕ) (hits sites table : List ℕ) (n at old : ℕ) : Type 0 where
  pub done : List Map
  pub cutting : Cutting s at done
  pub finding : Finding keys count table n sites hits done
  pub here : get_or table n 0 ≡ at
  pub sorted : Sorted table (n + 1)
  pub room : n + 1 < frames_most
  pub none : at ≡ length s → n ≡ 0
  pub first : old ≡ first_old (length s) done
  pub counted : Counted hits (section_records * at)

pub sweep_start : (s keys : List ℕ) (count : ℕ) (hits sites table : List ℕ) → 16 ≤ length s → Holding keys count hits (λ a. no_hits) → Counted hits 0 → get_or table 0 0 ≡ 0
    → Sweep s keys count hits sites table 0 0 (length s)
unfolding first_old
sweep_start s keys count hits sites table l h c t =
    record {
      done = [];
      cutting = cutting_start s (omega arith);
      finding = finding_start table sites h;
      here = t;
      sorted = sorted-one table;
      room = omega arith;
      none = λ e. refl;
      first = refl;
      counted = c;
    }

-- where the next map ends
pub next-end : (s : List ℕ) (at end : ℕ) → at ≤ length s → shift at (front_check (drop at s)) ≡ Valid end → (at + 16 ≤ end) × (end ≤ length s)
next-end s at end l v =
    let x = shift-valid _ _ _ v in
    let m = one_more s at x.0 l x.1 in
    (omega (arith, m.some, x.2), omega (arith, m.inside, x.2))

module _ {s keys : List ℕ} {count : ℕ} {hits sites table : List ℕ} {n at old : ℕ} (w : Sweep s keys count hits sites table n at old) where
  -- the next map has e bytes
  sweep_by : (e : ℕ) (hits₁ hits₂ sites₂ table₂ : List ℕ) (r end old' : ℕ) → at < length s → length s ≤ 16777216 → Bytes s
      → front_check (drop at s) ≡ Valid e → end ≡ at + e → NotedAll keys count hits hits₁ (mark + at) (entries (drop at s)) → Grown hits hits₁ section_records
      → old' ≡ cond (eqb old (length s)) (cond (is_old (drop at s)) at (length s)) old
      → ((ks : List ℕ) (done : List Map) → Finding ks count (set table (n + 1) end) (n + 1) sites hits₁ done → Finding ks count table₂ r sites₂ hits₂ done)
      → Grown hits₁ hits₂ 0 → r + 1 < frames_most → Sorted table₂ (r + 1) → get_or table₂ r 0 ≡ end → (eqb end (length s) ≡ true → r ≡ 0) → n + 1 < length table
      → Sweep s keys count hits₂ sites₂ table₂ r end old'
  sweep_by e hits₁ hits₂ sites₂ table₂ r end old' l k b v y z d o f g h i j c t =
      let m = one_more s at e w.cutting.inside v in
      let u : Finding keys count (set table (n + 1) end) (n + 1) sites hits₁ (w.done ++ map_at at (content s at e) ∷ []) =
      rw y (finding_on s at e b m (omega (arith, m.inside)) t w.here z w.finding) in
      record {
        done = w.done ++ map_at at (content s at e) ∷ [];
        cutting = rw y (m.on w.done l w.cutting);
        finding = f keys _ u;
        here = j;
        sorted = i;
        room = h;
        none = λ a. c (eq-eqb end (length s) a);
        first = o ∙ rw (w.first, ← m.same_old) (sym (old_on (length s) w.done (map_at at (content s at e)) (below_all w.cutting)));
        counted =
            counted-grown 0 (section_records * at + section_records) (section_records * end) (omega (arith, m.some, y)) g
            (counted-grown section_records (section_records * at) _ (omega arith) d w.counted);
      }

  pub sweep_on : (hits₁ hits₂ sites₂ table₂ : List ℕ) (r end old' : ℕ) (v : Verdict) → at < length s → length s ≤ 16777216 → Bytes s
      → v ≡ shift at (front_check (drop at s)) → v ≡ Valid end → Scans keys count hits hits₁ (mark + at) (entries (drop at s)) v
      → old' ≡ cond (eqb old (length s)) (cond (is_old (drop at s)) at (length s)) old
      → ((ks : List ℕ) (done : List Map) → Finding ks count (set table (n + 1) end) (n + 1) sites hits₁ done → Finding ks count table₂ r sites₂ hits₂ done)
      → Grown hits₁ hits₂ 0 → r + 1 < frames_most → Sorted table₂ (r + 1) → get_or table₂ r 0 ≡ end → (eqb end (length s) ≡ true → r ≡ 0) → n + 1 < length table
      → Sweep s keys count hits₂ sites₂ table₂ r end old'
  sweep_on hits₁ hits₂ sites₂ table₂ r end old' v l k b e q z =
      let x = shift-valid _ _ _ (sym e ∙ q) in
      sweep_by x.0 hits₁ hits₂ sites₂ table₂ r end old' l k b x.1 x.2 (z.noted_all end q) z.grown

  pub sweep_stop : (v : Verdict) (m p : ℕ) → at < length s → v ≡ shift at (front_check (drop at s)) → v ≡ Refused m p → Refused m p ≡ linked_check s
  sweep_stop v m p l e q =
      let x = shift-refused at _ m p (sym e ∙ q) in
      ap (Refused m) x.2 ∙ cut_stop s at m x.0 w.done l w.cutting x.1

  at-end : length s ≤ at → at ≡ length s
  at-end l = omega (arith, w.cutting.inside)

  pub sweep_old : length s ≤ at → (old ≡ length s → ⊥) → Refused 27 old ≡ linked_check s
  sweep_old l o = rw w.first (end-old s at w.done w.cutting (at-end l) (λ e. o (w.first ∙ e)))

  pub sweep_new : length s ≤ at → old ≡ length s → Valid (length s) ≡ linked_check s
  sweep_new l o = end-new s at w.done w.cutting (at-end l) (sym w.first ∙ o)

  pub sweep_found : length s ≤ at → SoughtIn (maps_in s) keys count hits sites
  sweep_found l = rw (maps-are s at w.done w.cutting (at-end l)) (finding_end (subst (λ (k : ℕ). Finding keys count table k sites hits w.done) (w.none (at-end l)) w.finding))

  pub sweep_standing : length s ≤ at → old ≡ length s → AllStanding s (maps_in s)
  sweep_standing l o = rw (maps-are s at w.done w.cutting (at-end l)) (end-standing s at w.done w.cutting (at-end l) (sym w.first ∙ o))
