-- Refusals 22 and 23, from what a pass over the records found; and the check of a whole listing.
use Prim.Native.Nat.{ℕ, ◌+◌}
use mathlib.Core.Path.{◌≡◌, refl, sym, ◌∙◌}
use mathlib.Core.List.{List}
use mathlib.Core.Bool.{Bool, true, false}
use lib.ListN.{length}
use lib.Dec.{eqb}
use Rattle.stackmap.specs.Verdict.{Verdict}
use Rattle.stackmap.specs.Verdict.{Valid, Refused}
use Rattle.stackmap.specs.Verdict.{must, chain}
use Rattle.listing.specs.Layout.{end_kind, end_item_size}
use Rattle.listing.specs.Listing.{stands, records_begin, read_items, items_stop, not_too_many, old_right, items_check}
use Rattle.listing.proofs.Items.{records_no}
use Rattle.parser_items.specs.Survey.{stop_from, Passed, Ends}
use Rattle.parser_items.specs.Grammar.{end_check, grammar_check}

-- what follows the end of the items, where it is valid up to n
regroup : (a b : Bool) (p q n : ℕ) (k : Verdict) → must a 22 p (must b 22 q k) ≡ chain (must a 22 p (must b 22 q (Valid n))) k
unfolding must chain
regroup true true p q n k = refl
regroup true false p q n k = refl
regroup false b p q n k = refl

regroup_two : (a b : Verdict) (n : ℕ) (k : Verdict) → chain a (chain b k) ≡ chain (chain a (chain b (Valid n))) k
unfolding chain
regroup_two (Valid e) (Valid f) n k = refl
regroup_two (Valid e) (Refused m p) n k = refl
regroup_two (Refused m p) b n k = refl

module _ {l : List ℕ} {from records at : ℕ} (p : Passed l from records at) where
  -- the pass ended at a record with too many items
  pub items_crowded : Ends l at true → grammar_check l from ≡ chain (end_check l (stop_from l at)) (Refused 23 at)
  unfolding grammar_check
  items_crowded e = rw (p.stops, p.checks, e) (unfold chain in refl)

  -- it ended where no record stands
  pub items_whole : Ends l at false → grammar_check l from ≡ end_check l at
  unfolding grammar_check end_check
  items_whole e =
      let n = records_no l (length l) at e in
      rw (p.stops, p.checks, n.0, n.1) (unfold not_too_many chain in sym (regroup (stands end_kind end_item_size l at) (eqb (at + end_item_size) (length l)) at (at + end_item_size) (length l) (Valid (length l))))

-- the check of the items is 22 and 23, and then 28
pub items_check_lem : (old : Bool) (l : List ℕ)
    → items_check old l ≡ chain (grammar_check l (records_begin l)) (chain (old_right old (read_items l old).functions (read_items l old).records (records_begin l)) (Valid (length l)))
unfolding items_check grammar_check end_check items_stop read_items
items_check_lem old l = regroup _ _ _ _ (length l) _ ∙ regroup_two _ _ (length l) _
