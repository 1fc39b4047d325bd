-- What holds of the reports of many sections.
use Rattle.std.specs.Prelude.{ℕ, ◌≡◌, true, false, length}
use mathlib.Core.List.{List, ◌∷◌, ◌++◌, Permᴰ}
use Rattle.report.specs.Totals.{plus, total, contribution, fits, reported, passed, joined, report}

-- The totals of a list of sections are the sums of what each contributes, unless one of these would pass 2^64 - 1; then it is 34.
pub record Summed (ss : List (List ℕ)) : Type 0 where
  pub sums : fits (total contribution ss) ≡ true → report ss ≡ reported (total contribution ss)
  pub passes : fits (total contribution ss) ≡ false → (report ss).number ≡ 34

abbrev pub Sums : Type 0
Sums = (ss : List (List ℕ)) → Summed ss

-- 34 is given at the first section whose totals would pass, by its position, and the totals of those before it stand.
pub record StoppedAt (ss : List (List ℕ)) : Type 0 where
  pub before : List (List ℕ)
  pub section : List ℕ
  pub after : List (List ℕ)
  pub are : ss ≡ before ++ section ∷ after
  pub fitted : fits (total contribution before) ≡ true
  pub over : fits (plus (total contribution before) (contribution section)) ≡ false
  pub stops : report ss ≡ passed (length before) (total contribution before)

abbrev pub Stops : Type 0
Stops = (ss : List (List ℕ)) → fits (total contribution ss) ≡ false → StoppedAt ss

-- The order of sections doesn't alter the totals, provided none gave 34; and if one order gives none, no order does.
abbrev pub OrderFree : Type 0
OrderFree = (ss ss' : List (List ℕ)) → Permᴰ ss ss' → (report ss).number ≡ 0 → report ss' ≡ report ss

-- The totals of two halves add up to those of the whole: the two reports are joined without 34 where the whole has none, and only there.
pub record Halved (xs ys : List (List ℕ)) : Type 0 where
  pub whole : (report (xs ++ ys)).number ≡ 0 → joined (report xs).totals (report ys).totals ≡ report (xs ++ ys)
  pub halves : (report xs).number ≡ 0 → (report ys).number ≡ 0
      → (joined (report xs).totals (report ys).totals).number ≡ (report (xs ++ ys)).number

abbrev pub Halves : Type 0
Halves = (xs ys : List (List ℕ)) → Halved xs ys
