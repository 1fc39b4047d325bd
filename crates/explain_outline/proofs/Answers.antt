-- What a call that writes rows answers and leaves, by the tests that lead to it.
use Prim.Native.Nat.{ℕ, ◌≤◌, ◌<◌}
use mathlib.Core.Path.{◌≡◌}
use mathlib.Core.List.{List}
use borrow.Author.Tests.{eq-eqb, ne_eqb, le-leb, lt-leb}
use lib.ListN.{length}
use lib.Seq.{sets}
use Rattle.moves.specs.declared.Move.{Move}
use Rattle.moves.specs.Settle.{refused_move, accepted_move}
use Rattle.explain.specs.Rows.{rows_answer, rows_list}

module _ (a : Move) (rows lent : List ℕ) where
  pub rows-no : (n p : ℕ) → a.number ≡ n → a.place ≡ p → (n ≡ 0 → ⊥) → rows_answer a rows lent ≡ refused_move n p
  unfolding rows_answer
  rows-no n p e i h = rw (e, i, ne_eqb n 0 h)

  pub rows-24 : a.number ≡ 0 → length lent < length rows → rows_answer a rows lent ≡ refused_move 24 0
  unfolding rows_answer
  rows-24 z l = rw (eq-eqb a.number 0 z, lt-leb (length rows) (length lent) l)

  pub rows-yes : a.number ≡ 0 → length rows ≤ length lent → rows_answer a rows lent ≡ accepted_move (length rows)
  unfolding rows_answer
  rows-yes z l = rw (eq-eqb a.number 0 z, le-leb (length rows) (length lent) l)

  -- a refusal leaves the list as it was
  pub list-kept : (n p : ℕ) → rows_answer a rows lent ≡ refused_move n p → (n ≡ 0 → ⊥) → rows_list a rows lent ≡ lent
  unfolding rows_list
  list-kept n p e h = rw (e, ne_eqb n 0 h)

  pub list_written : a.number ≡ 0 → length rows ≤ length lent → rows_list a rows lent ≡ sets lent 0 rows
  unfolding rows_list
  list_written z l = rw (rows-yes z l)
