-- A question gives the section's own refusal first: what comes before the records, then the walk, then its end.
use Prim.Native.Nat.{ℕ, ◌-◌, ◌<◌}
use mathlib.Core.Path.{◌≡◌}
use mathlib.Core.List.{List}
use borrow.Author.Tests.{eq-eqb, ne_eqb}
use lib.ListN.{length, drop}
use Rattle.stackmap.specs.Verdict.{Valid, Refused}
use Rattle.stackmap.specs.Verdict.{must, chain, shift, bind}
use Rattle.stackmap.specs.Section.{num_constants, is_old, Entry}
use Rattle.stackmap.specs.Record.{record_check}
use Rattle.stackmap.specs.Walk.{owner_at, ahead}
use Rattle.stackmap.specs.Check.{header_check, tables_check, walk_check, section_check}
use Rattle.stackmap.proofs.Turns.{walk_stop, walk_end}
use Rattle.stackmap.proofs.OneWalk.{Folding}
use Rattle.stackmap.proofs.Within.{section_parts}
use Rattle.questions.specs.Questions.{ask}

-- What comes before the records.

module _ {A : Type 0} (refused : ℕ → ℕ → A) (answer : A) (s : List ℕ) where
  pub ask-refused : (n p : ℕ) → chain (header_check s) (tables_check s) ≡ Refused n p → ask refused answer (section_check s) ≡ refused n p
  unfolding ask chain
  ask-refused n p h = rw (section_parts, h)

  pub ask-begun : (e : ℕ) → chain (header_check s) (tables_check s) ≡ Valid e → ask refused answer (section_check s) ≡ ask refused answer (walk_check s)
  unfolding chain
  ask-begun e h = rw (section_parts, h)

-- A question after a walk that has kept h, where c is the number of constants.

module _ {A H : Type 0} (refused : ℕ → ℕ → A) (answer : A) {add : Entry → H → H} {s : List ℕ} {c : ℕ} {h₀ : H} {next left remaining number p : ℕ} {h : H}
    (e : c ≡ num_constants s) (f : Folding add s c h₀ next left remaining number p h) where
  -- it stops at a record that is refused, whose owner stands before next'
  pub ask_stop : (next' left' : ℕ) → ahead s next' left' ≡ ahead s next left → 0 < left' → {n q : ℕ}
      → shift p (record_check (is_old s) (drop p s) c (owner_at s (next' - 1)).function.address) ≡ Refused n q → refused n q ≡ ask refused answer (walk_check s)
  unfolding ask walk_check bind
  ask_stop next' left' a l v = rw (rw e at (walk_stop next' left' f.walking a l v))

  -- something follows the last record
  pub ask-after : remaining ≡ 0 → (p ≡ length s → ⊥) → refused 9 p ≡ ask refused answer (walk_check s)
  unfolding ask walk_check bind must
  ask-after z n = rw (rw e at (walk_end f.walking z), ne_eqb _ _ n)

  -- nothing does
  pub ask-whole : remaining ≡ 0 → p ≡ length s → answer ≡ ask refused answer (walk_check s)
  unfolding ask walk_check bind must
  ask-whole z n = rw (rw e at (walk_end f.walking z), eq-eqb _ _ n)
