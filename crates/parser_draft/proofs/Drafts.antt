-- What the items of a listing come to, step by step.
use Prim.Native.Nat.{ℕ}
use mathlib.Core.Path.{◌≡◌, refl, sym, ◌∙◌}
use mathlib.Core.List.{List, []}
use mathlib.Core.Bool.{Bool, true, false}
use native.Mathlib.Omega.{arith}
use lib.ListN.{length}
use Rattle.stackmap.specs.Verdict.{Verdict}
use Rattle.stackmap.specs.Verdict.{Valid, Refused}
use Rattle.stackmap.specs.Verdict.{chain}
use Rattle.stackmap.specs.Fields.{size, all}
use Rattle.stackmap.specs.Section.{record_fields}
use Rattle.stackmap.proofs.Verdicts.{never, chain_first, chain-rest}
use Rattle.listing.specs.Listing.{items_check, old_right}
use Rattle.listing.proofs.Items.{records_no}
use Rattle.parser_items.specs.Count.{TablesCounted}
use Rattle.parser_items.specs.Survey.{records_from, records_after, Passed, Measured, Ends, Planned, functions_of}
use Rattle.parser_items.specs.Grammar.{grammar_check}
use Rattle.parser_items.specs.Draft.{Ready, Whole}
use Rattle.parser_draft.proofs.Ends.{items_crowded, items_check_lem}
use Rattle.parser_items.proofs.Tables.{begins, reads}

module _ {l : List ℕ} (old : Bool) {f c : ℕ} (t : TablesCounted l f c) where
  -- 28
  abbrev limits : Verdict
  limits = old_right old (functions_of l f) (records_from l (records_after l f c)) (records_after l f c)

  items_are : items_check old l ≡ chain (grammar_check l (records_after l f c)) (chain limits (Valid (length l)))
  items_are = items_check_lem old l ∙ rw (reads t old, begins t)

  -- 22, 23
  pub grammar_refused : {n p : ℕ} → grammar_check l (records_after l f c) ≡ Refused n p → items_check old l ≡ Refused n p
  unfolding chain
  grammar_refused h = items_are ∙ rw h

  module _ {e : ℕ} (v : grammar_check l (records_after l f c) ≡ Valid e) where
    -- 28
    pub limits_refused : {n p : ℕ} → limits ≡ Refused n p → items_check old l ≡ Refused n p
    unfolding chain
    limits_refused h = items_are ∙ rw (v, h)

    module _ {r b stop : ℕ} (crowded : Bool) (p : Passed l (records_after l f c) r stop) (m : Measured l old (records_after l f c) b stop) (s : Ends l stop crowded) where
      none_left : records_from l stop ≡ []
      none_left = go crowded s
        where
          go : (x : Bool) → Ends l stop x → records_from l stop ≡ []
          go true q = never (chain-rest _ _ _ (sym (items_crowded p q) ∙ v))
          go false q = (records_no l (length l) stop q).0

      pub planned : Planned l old f c r b
      planned =
          let i = p.inside in
          let n = p.few in
          let h = m.short in
          let k : length (records_from l stop) ≡ 0 = rw none_left in
          let j : size (all (record_fields old) (records_from l stop)) ≡ 0 = rw none_left (unfold all size in refl) in
          let x = p.counted in
          let y = m.sized in
          record { tables = t; counted = omega arith; sized = omega arith; few = omega arith; short = omega arith }

      ready : Ready l (records_after l f c) r
      unfolding grammar_check
      ready = record { inside = t.inside; counted = planned.counted; small = chain_first _ _ _ (chain-rest _ _ _ v) }

      -- the items are as they should be
      pub items_whole : {d : ℕ} → limits ≡ Valid d → Whole l old f c r b
      unfolding chain
      items_whole h = record { accepted = items_are ∙ rw (v, h); planned = planned; ready = ready }
