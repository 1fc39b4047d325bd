-- With the right index a lookup answers as the question by address does.
use Prim.Native.Nat.{ℕ}
use mathlib.Core.Path.{◌≡◌, refl}
use mathlib.Core.List.{List, [], ◌∷◌}
use mathlib.Core.Bool.{Bool, true, false, not, cond}
use borrow.Author.Tests.{eq-eqb}
use Rattle.stackmap.specs.Verdict.{need}
use Rattle.stackmap.specs.Section.{is_old, entries}
use Rattle.stackmap.specs.Check.{section_check}
use Rattle.questions.specs.Questions.{ask, not_found, first_of, with_address, by_address}
use Rattle.index.specs.Index.{index_of, same, by_index}
use Rattle.index.specs.Laws.{IndexAnswers}

pub same_self : (xs : List ℕ) → same xs xs ≡ true
unfolding same
same_self [] = refl
same_self (x ∷ xs) = rw (eq-eqb x x refl, same_self xs) refl

pub index_answers : IndexAnswers
unfolding by_index by_address
index_answers s a = rw (same_self (index_of s)) (turned (is_old s))
  where
    turned : (b : Bool) → ask not_found (need (not b) (not_found 27 0) (first_of (with_address a (entries s)))) (section_check s) ≡ ask not_found (cond b (not_found 27 0) (first_of (with_address a (entries s)))) (section_check s)
    turned true = refl
    turned false = refl
