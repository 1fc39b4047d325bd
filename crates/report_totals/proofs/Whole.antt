-- What a section adds, put together.
use Rattle.std.specs.Prelude.{None, Some}
use Prim.Native.Nat.{ℕ, ◌<◌}
use mathlib.Core.Path.{◌≡◌, refl, sym, ◌∙◌}
use mathlib.Core.Bool.{Bool, true, false, true≢false}
use mathlib.Core.List.{List}
use native.Mathlib.Omega.{arith}
use Rattle.stackmap.specs.Verdict.{Verdict}
use Rattle.stackmap.specs.Verdict.{Valid, Refused}
use Rattle.stackmap.specs.Verdict.{chain}
use Rattle.stackmap.specs.Section.{num_functions, read_section, entries}
use Rattle.stackmap.specs.Check.{header_check, tables_check, walk_check}
use Rattle.questions.specs.Questions.{ask}
use Rattle.questions.proofs.Asked.{ask-refused, ask-begun}
use Rattle.report.specs.declared.Totals.{Totals}
use Rattle.report.specs.Totals.{total_most, plus, total, of_function, of_entry, of_accepted, of_refused, contribution, fits, passed, joined_at, add_section}
use Rattle.report.proofs.Plus.{kinds-start, totals_are, fits_each}
use Rattle.report_records.specs.declared.Counts.{Counts}
use Rattle.report_records.specs.Counts.{as_totals}
use Rattle.report_totals.specs.declared.Stacks.{Stacks}
use Rattle.report_totals.specs.Sizes.{one_section, function_totals, Stacked, Tallied}

module _ (s : List ℕ) where
  abbrev refusal : ℕ → ℕ → Totals
  refusal n p = of_refused

  -- what stands before the records is refused
  pub tally_refused : {t : Totals} → t ≡ of_refused → {n p : ℕ} → chain (header_check s) (tables_check s) ≡ Refused n p → Tallied (contribution s) (Some t)
  unfolding contribution
  tally_refused e h = e ∙ sym (ask-refused refusal (of_accepted s) s _ _ h)

  module _ {e : ℕ} (h : chain (header_check s) (tables_check s) ≡ Valid e) where
    -- by the walk over the records alone
    walked : (b : Bool) → b ≡ ask (λ n p. false) true (walk_check s) → contribution s ≡ ask refusal (of_accepted s) (walk_check s)
    unfolding contribution
    walked b k = ask-begun refusal (of_accepted s) s _ h

    -- a record is refused, or something follows
    pub tally_wrong : false ≡ ask (λ n p. false) true (walk_check s) → {t : Totals} → t ≡ of_refused → Tallied (contribution s) (Some t)
    unfolding ask
    tally_wrong k e = e ∙ sym (walked false k ∙ go (walk_check s) k)
      where
        go : (v : Verdict) → false ≡ ask (λ n p. false) true v → ask refusal (of_accepted s) v ≡ of_refused
        go (Valid p) k = absurd (true≢false (sym k))
        go (Refused n p) k = refl

    accepted : true ≡ ask (λ n p. false) true (walk_check s) → contribution s ≡ of_accepted s
    unfolding of_accepted ask
    accepted k = walked true k ∙ go (walk_check s) k
      where
        go : (v : Verdict) → true ≡ ask (λ n p. false) true v → ask refusal (of_accepted s) v ≡ of_accepted s
        go (Valid p) k = refl
        go (Refused n p) k = absurd (true≢false k)

    -- all is accepted
    pub tally_right : true ≡ ask (λ n p. false) true (walk_check s) → (counts : Counts) → as_totals counts ≡ total of_entry (entries s) → (stacks : Stacks)
        → Stacked s (Some stacks) → {n : ℕ} → n ≡ num_functions s → {t : Totals}
        → t ≡ plus one_section (plus (function_totals n stacks.known stacks.unknown) (as_totals counts)) → Tallied (contribution s) (Some t)
    unfolding of_accepted
    tally_right k counts c stacks f q e = e ∙ rw (accepted k, f, c, q)

    pub tally_over : true ≡ ask (λ n p. false) true (walk_check s) → Stacked s None → Tallied (contribution s) None
    unfolding of_accepted
    tally_over k l = rw (accepted k) (over l)
      where
        over : total_most < (total of_function (read_section s).functions).stack → total_most < (plus one_section (plus (total of_function (read_section s).functions) (total of_entry (entries s)))).stack
        over l = unfold plus in omega arith

-- the numbers of an accepted section, one by one
pub accepted-are : (n known unknown : ℕ) (c : Counts)
    → ◌≡◌ {A = Totals} (record { sections = 1; refused = 0; functions = n; records = c.records; statepoints = c.statepoints; pairs = c.pairs; kinds = c.kinds; stack = known; unknown = unknown })
    (plus one_section (plus (function_totals n known unknown) (as_totals c)))
unfolding plus function_totals as_totals
accepted-are n known unknown c =
    totals_are _ _ (omega arith) (omega arith) (omega arith) (omega arith) (omega arith) (omega arith) (sym (kinds-start _ ∙ kinds-start _)) (omega arith) (omega arith)

-- A section whose own stack sizes pass is 34.
pub add-over : (s : List ℕ) (t : Totals) → total_most < (contribution s).stack → add_section s t ≡ passed t.sections t
unfolding add_section joined_at plus
add-over s t h = go (fits (plus t (contribution s))) refl
  where
    go : (b : Bool) → fits (plus t (contribution s)) ≡ b → add_section s t ≡ passed t.sections t
    go true e = absurd (let k = (fits_each _ e).stack in omega arith)
    go false e = rw e
