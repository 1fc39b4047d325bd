-- Two moves in a row, document 02, request 11: the joined table.
use Rattle.std.specs.Prelude.{ℕ, List, [], ◌∷◌, get_or, drop}
use Rattle.std.proofs.Math.Option.{Option, none, some}
use Rattle.moves.specs.Table.{found}

-- a move table: old starts and new starts
pub record Table : Type 0 where
  pub olds : List ℕ
  pub news : List ℕ

-- an old start in front of a table, with its new start; without one it is left out
abbrev pub listed : ℕ → Option ℕ → Table → Table
listed o none t = t
listed o (some n) t = record { olds = o ∷ t.olds; news = n ∷ t.news }

-- each old start of the first table whose new start is an old start of the second, with the second's new start for it
abbrev pub joined : List ℕ → List ℕ → List ℕ → List ℕ → Table
joined [] news olds2 news2 = record { olds = []; news = [] }
joined (o ∷ os) news olds2 news2 = listed o (found olds2 news2 (get_or news 0 0)) (joined os (drop 1 news) olds2 news2)
