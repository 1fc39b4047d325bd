-- The loop over the functions: what is left gives what the whole gives.
use Rattle.std.specs.Prelude.{None, Some}
use Prim.Native.Nat.{ℕ, ◌+◌, ◌*◌, ◌-◌, ◌≤◌, ◌<◌}
use mathlib.Core.Path.{◌≡◌, refl, sym, ap, ◌∙◌}
use mathlib.Core.Bool.{Bool, true, false, cond}
use mathlib.Core.List.{List}
use native.Mathlib.Omega.{arith}
use lib.Dec.{eqb}
use lib.ListN.{length}
use Rattle.wire.specs.Word.{word}
use Rattle.stackmap.specs.Layout.{function_size, stack_size_unknown}
use Rattle.stackmap.specs.Fields.{many}
use Rattle.stackmap.specs.Section.{Function, num_functions, is_old, constants_at, read_function, read_functions, read_section}
use Rattle.stackmap.proofs.Steps.{mul_step, many_step, fewer, next_place}
use Rattle.report.specs.declared.Totals.{Totals}
use Rattle.report.specs.Totals.{total_most, no_kinds, plus, total, one, of_function}
use Rattle.report.proofs.Plus.{kinds-none, plus_none, plus-end, plus_assoc, totals_are}
use Rattle.report_totals.specs.Sizes.{function_totals, Stacked}

size-here : (old : Bool) (s : List ℕ) (p : ℕ) → (read_function old s p).stack_size ≡ word 8 s (p + 8)
unfolding read_function
size-here true s p = refl
size-here false s p = refl

abbrev functions : List ℕ → ℕ → ℕ → List Function
functions s n p = many (read_function (is_old s)) (function_size (is_old s)) n s p

-- so many functions are left, from p on
pub record Summing (s : List ℕ) (left p known unknown : ℕ) : Type 0 where
  pub all : total of_function (functions s (num_functions s) 16) ≡ plus (function_totals (num_functions s - left) known unknown) (total of_function (functions s left p))
  pub few : left ≤ num_functions s
  pub inside : p + function_size (is_old s) * left ≤ length s
  pub unknown-few : unknown ≤ num_functions s - left
  pub known-fits : known ≤ total_most

-- one function more
one_more : (n known unknown more hit : ℕ) (f : Function) → more ≡ cond (eqb f.stack_size stack_size_unknown) 0 f.stack_size → hit ≡ one (eqb f.stack_size stack_size_unknown)
    → function_totals (n + 1) (known + more) (unknown + hit) ≡ plus (function_totals n known unknown) (of_function f)
unfolding function_totals plus of_function
one_more n known unknown more hit f e h = rw (e, h) (totals_are _ _ (omega arith) (omega arith) (omega arith) (omega arith) (omega arith) (omega arith) (sym (kinds-none no_kinds)) refl refl)

module _ (s : List ℕ) where
  pub sum_start : constants_at s ≤ length s → {n : ℕ} → n ≡ num_functions s → Summing s n 16 0 0
  unfolding function_totals
  sum_start h {n} e =
      let z : num_functions s - num_functions s ≡ 0 = omega arith in
      rw e (record { all = rw z (sym (plus_none _)); few = omega arith; inside = h; unknown-few = omega arith; known-fits = omega arith })

  module _ {left p known unknown : ℕ} (h : Summing s left p known unknown) (l : 0 < left) where
    this : Function
    this = read_function (is_old s) s p

    rest : Totals
    rest = total of_function (functions s (left - 1) (p + function_size (is_old s)))

    apart : total of_function (functions s (num_functions s) 16) ≡ plus (function_totals (num_functions s - left) known unknown) (plus (of_function this) rest)
    unfolding total this rest
    apart = h.all ∙ rw (many_step (read_function (is_old s)) (function_size (is_old s)) left s p l)

    module _ {size more : ℕ} (e : size ≡ word 8 s (p + 8)) (k : more ≡ cond (eqb size stack_size_unknown) 0 size) where
      size_is : this.stack_size ≡ size
      unfolding this
      size_is = size-here (is_old s) s p ∙ sym e

      -- the sum would pass
      pub sum_passes : total_most < known + more → total_most < (total of_function (functions s (num_functions s) 16)).stack
      unfolding plus of_function function_totals
      sum_passes m = rw (apart, size_is, ← k) (omega arith)

      pub sum_on : {hit : ℕ} → hit ≡ one (eqb size stack_size_unknown) → hit ≤ 1 → known + more ≤ total_most → {step : ℕ} → step ≡ function_size (is_old s)
          → Summing s (left - 1) (p + step) (known + more) (unknown + hit)
      unfolding total rest
      sum_on {hit} q m fit w =
          let n : num_functions s - (left - 1) ≡ num_functions s - left + 1 = omega (arith, h.few) in
          rw w
          (record {
            all = rw n (apart ∙ sym (plus_assoc _ _ _) ∙ ap (λ (t : Totals). plus t rest) (sym (one_more _ known unknown more hit this (rw size_is k) (rw size_is q))));
            few = omega (arith, h.few);
            inside = let d = mul_step (function_size (is_old s)) left l in omega (arith, h.inside);
            unknown-few = rw n (omega (arith, h.unknown-few));
            known-fits = fit;
          })

  -- the same for a loop that counts up: function number i of n
  pub sum_turn : {n : ℕ} (i : ℕ) {known unknown : ℕ} → Summing s (n - i) (16 + function_size (is_old s) * i) known unknown → i < n
      → {size more : ℕ} → size ≡ word 8 s (16 + function_size (is_old s) * i + 8) → more ≡ cond (eqb size stack_size_unknown) 0 size
      → {hit : ℕ} → hit ≡ one (eqb size stack_size_unknown) → hit ≤ 1 → known + more ≤ total_most
      → Summing s (n - (i + 1)) (16 + function_size (is_old s) * (i + 1)) (known + more) (unknown + hit)
  sum_turn {n} i h l e k q m fit = rw (← next_place (function_size (is_old s)) 16 i, ← fewer n i) (sum_on h (omega arith) e k q m fit refl)

  pub sum_end : {left p known unknown : ℕ} → Summing s left p known unknown → left ≡ 0 → Stacked s (Some (record { known = known; unknown = unknown }))
  unfolding read_section read_functions total many
  sum_end h z =
      let n : num_functions s - 0 ≡ num_functions s = omega arith in
      rw (z, n, plus-end) at h.all

  pub sum_stop : total_most < (total of_function (functions s (num_functions s) 16)).stack → Stacked s None
  unfolding read_section read_functions
  sum_stop h = h
