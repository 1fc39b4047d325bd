-- A walk that has passed over records in a gap of the addresses holds what it held.
use Prim.Native.Nat.{ℕ, suc, ◌+◌, ◌-◌, ◌≤◌}
use mathlib.Core.Path.{◌≡◌, refl, sym, ap, ◌∙◌}
use mathlib.Core.List.{List, [], ◌∷◌}
use native.Mathlib.Omega.{arith}
use lib.ListN.{get_or}
use Rattle.stackmap.specs.Section.{Entry, address, entries}
use Rattle.stackmap.specs.Walk.{entry_at}
use Rattle.stackmap.proofs.OneWalk.{Folding, fold, fold_on, fold_end}
use Rattle.stackmap_check.specs.Pass.{Passed, none, more, Stopped}
use Rattle.questions.specs.declared.Hits.{Hits}
use Rattle.questions.proofs.Kept.{here-address}
use Rattle.sorted.specs.Sorted.{Sorted, lower_bound}
use Rattle.sorted.proofs.Defined.{lower_bound-all}
use Rattle.sorted_numbers.specs.Numbers.{Between}
use Rattle.sorted_numbers.proofs.Gaps.{between_none}
use Rattle.thread.specs.Code.{hits_at, Holding, noted_all}
use Rattle.thread_marks.specs.From.{entry_from, noted_from, noted_one, NotedAll}
use Rattle.thread_marks.proofs.Marks.{unlooked, address-from}
use Rattle.thread_pass.specs.Inside.{Inside}

-- what an array has found of an address
abbrev pub found : List ℕ → ℕ → List ℕ → ℕ → Hits
found keys n hits a = hits_at hits (lower_bound keys n a)

pub found-holds : (keys : List ℕ) (n : ℕ) (hits : List ℕ) → Sorted keys n → Holding keys n hits (found keys n hits)
found-holds keys n hits o = record { at = λ i l b. ap (hits_at hits) (lower_bound-all o b) }

fold_from : (base : ℕ) (es : List Entry) (h : ℕ → Hits) (a : ℕ) → fold (noted_from base) es h a ≡ fold (noted_one base a) es (h a)
fold_from base [] h a = refl
fold_from base (e ∷ es) h a = fold_from base es (noted_from base e h) a

module _ (keys hits : List ℕ) (count : ℕ) (s : List ℕ) (c base : ℕ) (h₀ : ℕ → Hits) where
  -- the walk stands at the record `number`, and what it has kept is what the array holds
  pub record Keeping (next left remaining number p : ℕ) : Type 0 where
    pub kept : ℕ → Hits
    pub folding : Folding (noted_from base) s c h₀ next left remaining number p kept
    pub holding : Holding keys count hits kept

module _ {keys hits : List ℕ} {count : ℕ} {s : List ℕ} {c base : ℕ} {h₀ : ℕ → Hits} {below above place : ℕ} (b : Between keys count below above place) where
  pub pass_kept : {next left remaining number p k n l r q : ℕ} → Passed s c (Inside below above) next left remaining p k n l r q
      → Keeping keys hits count s c base h₀ next left remaining number p → Keeping keys hits count s c base h₀ n l r (number + k) q
  pass_kept {number = number} none f = let z : number + 0 ≡ number = omega arith in rw z f
  pass_kept {number = number} (more {k} {n} {l} {r} {q} n' l' q' m e o t v) f =
      let x = pass_kept m f in
      let z : number + suc k ≡ number + k + 1 = omega arith in
      let y = entry_from base (entry_at s (number + k) (n' - 1) q) in
      let a = address-from base (entry_at s (number + k) (n' - 1) q) ∙ here-address s (number + k) (n' - 1) q in
      rw z
      (record {
        kept = noted_all y x.kept;
        folding = fold_on (noted_from base) n' l' x.folding e o.some o.begun o.most t v.right;
        holding = unlooked keys count y hits (between_none (address y) b (omega (arith, a, v.apart.low)) (omega (arith, a, v.apart.high))) x.kept x.holding;
      })

  -- where a walk over `total` records has stopped
  pub stop_kept : (total : ℕ) {next left remaining p next' left' remaining' p' : ℕ} (t : Stopped s c (Inside below above) next left remaining p next' left' remaining' p')
      → remaining ≤ total → Keeping keys hits count s c base h₀ next left remaining (total - remaining) p
      → Keeping keys hits count s c base h₀ t.before_next t.before_left remaining' (total - remaining') p'
  stop_kept total {remaining = remaining} {remaining' = remaining'} t l f =
      let n = t.counted in
      let y : total - remaining + t.many ≡ total - remaining' = omega arith in
      rw y at (pass_kept t.passed f)

-- where all records are passed, what each place held has taken up all entries
pub all_noted : {keys before hits : List ℕ} {count : ℕ} {s : List ℕ} {c base next left remaining number p : ℕ} → Sorted keys count
    → Keeping keys hits count s c base (found keys count before) next left remaining number p → remaining ≡ 0 → NotedAll keys count before hits base (entries s)
all_noted {keys} {before} {hits} {count} {s} {base = base} o k z =
    record {
      at =
          λ i l b.
          let a = get_or keys i 0 in
          k.holding.at i l b ∙ ap (λ (g : ℕ → Hits). g a) (sym (fold_end (noted_from base) k.folding z)) ∙ fold_from base (entries s) (found keys count before) a
          ∙ ap (fold (noted_one base a) (entries s)) (sym ((found-holds keys count before o).at i l b));
    }
