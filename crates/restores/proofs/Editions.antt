-- The laws of moves by an edition.
use Prim.Native.Nat.{ℕ}
use mathlib.Core.Path.{◌≡◌, refl, ap, ◌∙◌}
use mathlib.Core.Bool.{true}
use mathlib.Core.Option.{none, some}
use mathlib.Core.List.{List, [], ◌∷◌, map}
use Rattle.moves.specs.declared.Move.{Move}
use Rattle.moves.specs.Settle.{refused_move}
use Rattle.editions.specs.declared.Settings as kept
use Rattle.editions.specs.Store.{look}
use Rattle.relocate.specs.Restore.{Restore}
use Rattle.relocate.specs.Relocation.{answer, moved, moved_registers}
use Rattle.relocate.specs.Lists.{answers, final, final_registers}
use Rattle.editions_settings.specs.Machine.{machine_known}
use Rattle.editions_settings.specs.Under.{settings_of, under}
use Rattle.restores.specs.Restores.{Request, with_settings, by_edition, left_by_edition}
use Rattle.restores.specs.Moves.{Numbered, stopped_of, moved_under}
use Rattle.restores.specs.Laws.{answers_under, final_under, final_registers_under, AllKnown, UnderEdition, UnknownEdition}

-- whatever a restore gives and leaves under an edition that the store has, or doesn't have

module _ (Q : Request) (machine : ℕ) where
  pub by-found : {A : Type 0} (k : kept.Settings) → look Q.edition Q.store.slots ≡ some k → machine_known machine ≡ true → (refuse : ℕ → ℕ → A) (given : Restore → A)
      → by_edition Q machine refuse given ≡ given (with_settings Q (settings_of k))
  unfolding under
  by-found k found known refuse given = rw (found, known)

  pub left-found : (k : kept.Settings) → look Q.edition Q.store.slots ≡ some k → machine_known machine ≡ true → (lent : List ℕ) (given : Restore → List ℕ)
      → left_by_edition Q machine lent given ≡ given (with_settings Q (settings_of k))
  unfolding under
  left-found k found known lent given = rw (found, known)

  pub by-none : {A : Type 0} → look Q.edition Q.store.slots ≡ none → (refuse : ℕ → ℕ → A) (given : Restore → A) → by_edition Q machine refuse given ≡ refuse 31 0
  unfolding under
  by-none unknown refuse given = rw unknown

  pub left-none : look Q.edition Q.store.slots ≡ none → (lent : List ℕ) (given : Restore → List ℕ) → left_by_edition Q machine lent given ≡ lent
  unfolding under
  left-none unknown lent given = rw unknown

pub unknown_edition : UnknownEdition
unknown_edition Q unknown im g =
    record {
      answer_is = by-none Q g.machine unknown refused_move (λ R. answer R im (stopped_of g));
      image_is = left-none Q g.machine unknown im (λ R. moved R im (stopped_of g));
      registers_are = left-none Q g.machine unknown g.registers (λ R. moved_registers R im (stopped_of g));
    }

module _ (Q : Request) (k : kept.Settings) (found : look Q.edition Q.store.slots ≡ some k) where
  abbrev R : Restore
  R = with_settings Q (settings_of k)

  moved-is : (g : Numbered) → machine_known g.machine ≡ true → (im : List ℕ) → moved_under Q im g ≡ moved R im (stopped_of g)
  moved-is g known im = left-found Q g.machine k found known im (λ R. moved R im (stopped_of g))

  answers_by : (gs : List Numbered) → AllKnown gs → (im : List ℕ) → answers_under Q gs im ≡ answers R (map stopped_of gs) im
  answers_by [] all im = refl
  answers_by (g ∷ gs) (known, all) im =
      ap (λ (a : Move). a ∷ answers_under Q gs (moved_under Q im g)) (by-found Q g.machine k found known refused_move (λ R. answer R im (stopped_of g)))
      ∙ ap (λ (left : List ℕ). answer R im (stopped_of g) ∷ answers_under Q gs left) (moved-is g known im)
      ∙ ap (λ (rest : List Move). answer R im (stopped_of g) ∷ rest) (answers_by gs all (moved R im (stopped_of g)))

  final-by : (gs : List Numbered) → AllKnown gs → (im : List ℕ) → final_under Q gs im ≡ final R (map stopped_of gs) im
  final-by [] all im = refl
  final-by (g ∷ gs) (known, all) im = ap (final_under Q gs) (moved-is g known im) ∙ final-by gs all (moved R im (stopped_of g))

  registers-by : (gs : List Numbered) → AllKnown gs → (im : List ℕ) → final_registers_under Q gs im ≡ final_registers R (map stopped_of gs) im
  registers-by [] all im = refl
  registers-by (g ∷ gs) (known, all) im =
      ap (λ (rs : List ℕ). rs ∷ final_registers_under Q gs (moved_under Q im g)) (left-found Q g.machine k found known g.registers (λ R. moved_registers R im (stopped_of g)))
      ∙ ap (λ (left : List ℕ). moved_registers R im (stopped_of g) ∷ final_registers_under Q gs left) (moved-is g known im)
      ∙ ap (λ (rss : List (List ℕ)). moved_registers R im (stopped_of g) ∷ rss) (registers-by gs all (moved R im (stopped_of g)))

pub under_edition : UnderEdition
under_edition Q k found gs all im =
    record { answers_are = answers_by Q k found gs all im; image_is = final-by Q k found gs all im; registers_are = registers-by Q k found gs all im }
