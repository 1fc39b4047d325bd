-- The walk that counts the maps: what is left tells what the whole tells.
use Prim.Native.Nat.{ℕ, suc, ◌+◌, ◌*◌, ◌≤◌, ◌<◌}
use mathlib.Core.Path.{◌≡◌, refl, sym, ap, ◌∙◌}
use mathlib.Core.List.{List}
use native.Mathlib.Omega.{arith}
use native.Mathlib.Numerals.{add-one}
use native.Mathlib.Decide.{ℕ_discrete}
use lib.ListN.{length, get_or, drop, set, length-drop, length-set}
use lib.Seq.{get_or-set_same, get_or-set_other}
use Rattle.refusals.specs.declared.Cause.{Cause}
use Rattle.refusals.specs.declared.Cause.TheVariants as cause
use Rattle.refusals.specs.Refusal.{number_of_cause}
use Rattle.stackmap.specs.Verdict.{Verdict}
use Rattle.stackmap.specs.Verdict.{Valid, Refused}
use Rattle.stackmap.specs.Verdict.{shift}
use Rattle.stackmap.specs.Check.{section_check, Accepted}
use Rattle.stackmap.proofs.Verdicts.{never, shift-valid}
use Rattle.stackmap.proofs.Forth.{accepted-length}
use Rattle.linked.specs.Linked.{Map, Cut, maps, refusal, before, cut}
use Rattle.linked.proofs.Prefix.{prefix}
use Rattle.linked.proofs.Cutting.{cut_rest, rest-start, rest-last, rest_more, rest_wrong}
use Rattle.linked_maps.specs.Counted as counts
use Rattle.linked_maps.specs.Walk.{told, end_at, start_of, Kept}

-- 9 is the number of one cause alone
pub other_cause : (c : Cause) → (c ≡ cause.BytesAfter → ⊥) → number_of_cause c ≡ 9 → ⊥
other_cause cause.BytesAfter h e = h refl
other_cause c h e = absurd (omega (arith, e))

-- n maps are counted, the next begins at `at`
pub record Counting (s ends : List ℕ) (at count : ℕ) : Type 0 where
  pub whole : told 0 (cut s) ≡ told count (cut_rest s at)
  pub inside : at ≤ length s
  pub start : at ≡ start_of count s
  pub kept : Kept s ends count
  pub fits : 16 * count ≤ at

-- of a part that starts at `at`, what its verdict in the whole tells
pub shift-refused : (at : ℕ) (v : Verdict) (n q : ℕ) → shift at v ≡ Refused n q → (p : ℕ) × (v ≡ Refused n p) × (q ≡ at + p)
unfolding shift
shift-refused at (Valid e) n q h = never (sym h)
shift-refused at (Refused m p) n q h = let e : m ≡ n = cc in (p, rw e, cc)

told-before : (n : ℕ) (m : Map) (c : Cut) → told n (before m c) ≡ told (n + 1) c
unfolding told
told-before n m (maps ms) = ap counts.Count (omega arith)
told-before n m (refusal k p) = refl

kept_on : (s ends : List ℕ) (count q : ℕ) → Kept s ends count → q ≡ start_of (suc count) s → Kept s (set ends count q) (count + 1)
kept_on s ends count q k e = record { end = λ i l m. go i l (rw length-set at m) (ℕ_discrete i count) }
  where
    go : (i : ℕ) → i < count + 1 → i < length ends → Dec (i ≡ count) → get_or (set ends count q) i 0 ≡ start_of (suc i) s
    go i l m (yes d) = rw d (get_or-set_same ends count q 0 (omega arith) ∙ e)
    go i l m (no d) = get_or-set_other ends count i q 0 d ∙ k.end i (omega arith) m

pub count-start : (s ends : List ℕ) → Counting s ends 0 0
unfolding start_of
count-start s ends =
    record { whole = ap (told 0) (rest-start s); inside = omega arith; start = refl; kept = record { end = λ i h m. absurd (omega arith) }; fits = omega arith }

module _ (s ends : List ℕ) (at count : ℕ) (c : Counting s ends at count) where
  next_start : (v : Verdict) (q : ℕ) → shift at (section_check (drop at s)) ≡ v → end_at s at ≡ q → q ≡ start_of (suc count) s
  unfolding start_of
  next_start v q h e = rw (← c.start) (sym e)

  pub count_wrong : (n q : ℕ) → shift at (section_check (drop at s)) ≡ Refused n q → (n ≡ 9 → ⊥) → counts.Refused n q ≡ told 0 (cut s)
  unfolding told
  count_wrong n q h o =
      let v = shift-refused at _ n q h in
      sym (c.whole ∙ ap (told count) (rest_wrong s at n v.0 v.1 o) ∙ ap (counts.Refused n) (sym v.2))

  pub count-last : (e : ℕ) → shift at (section_check (drop at s)) ≡ Valid e → (counts.Count (count + 1) ≡ told 0 (cut s)) × Kept s (set ends count e) (count + 1)
  unfolding told end_at
  count-last e h =
      let v = shift-valid at _ e h in
      let a : Accepted (drop at s) = v.1 ∙ ap Valid (accepted-length (drop at s) v.0 v.1).0 in
      (sym (c.whole ∙ rw (rest-last s at a)), kept_on s ends count e c.kept (next_start _ e h (rw h)))

  -- another map follows
  pub count_on : (q : ℕ) → shift at (section_check (drop at s)) ≡ Refused 9 q → Counting s (set ends count q) q (count + 1) × (at < q)
  unfolding end_at
  count_on q h =
      let v = shift-refused at _ 9 q h in
      let d = v.2 in
      let f = prefix (drop at s) v.0 v.1 in
      let l = f.least in
      let i = f.inside in
      let z = length-drop at s in
      let o = c.inside in
      let u = c.fits in
      let n = next_start _ q h (rw h) in
      let w = c.whole ∙ ap (told count) (rest_more s at v.0 v.1) ∙ told-before count _ (cut_rest s (at + v.0)) in
      (record { whole = w ∙ ap (λ (p : ℕ). told (count + 1) (cut_rest s p)) (sym d); inside = omega arith; start = n ∙ ap (λ (k : ℕ). start_of k s) (sym (add-one count)); kept = kept_on s ends count q c.kept n; fits = omega arith }, omega arith)
