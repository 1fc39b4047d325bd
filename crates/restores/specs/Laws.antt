-- What the moves by an edition are. Demand 3, and all else that is shown of restores, is over one restore with any settings: by UnderEdition it
-- speaks of the moves under one edition, neither made nor retired between them.
use Rattle.std.specs.Prelude.{ℕ, ◌≡◌, true, List, [], ◌∷◌, map}
use Rattle.std.proofs.Math.Option.{none, some}
use Rattle.moves.specs.declared.Move.{Move}
use Rattle.moves.specs.Settle.{refused_move}
use Rattle.editions.specs.declared.Settings as kept
use Rattle.editions.specs.Store.{look}
use Rattle.relocate.specs.Restore.{Restore}
use Rattle.relocate.specs.Lists.{answers, final, final_registers}
use Rattle.editions_settings.specs.Machine.{machine_known}
use Rattle.editions_settings.specs.Under.{settings_of}
use Rattle.restores.specs.Restores.{Request, with_settings}
use Rattle.restores.specs.Moves.{Numbered, stopped_of, answer_under, moved_under, registers_under}

-- moves one after another under one edition of one store, each on the image as the last one left it
module _ (Q : Request) where
  abbrev pub answers_under : List Numbered → List ℕ → List Move
  answers_under [] im = []
  answers_under (g ∷ gs) im = answer_under Q im g ∷ answers_under gs (moved_under Q im g)

  abbrev pub final_under : List Numbered → List ℕ → List ℕ
  final_under [] im = im
  final_under (g ∷ gs) im = final_under gs (moved_under Q im g)

  abbrev pub final_registers_under : List Numbered → List ℕ → List (List ℕ)
  final_registers_under [] im = []
  final_registers_under (g ∷ gs) im = registers_under Q im g ∷ final_registers_under gs (moved_under Q im g)

-- each frame's number is a machine's
abbrev pub AllKnown : List Numbered → Type 0
AllKnown [] = Unit {0}
AllKnown (g ∷ gs) = (machine_known g.machine ≡ true) × AllKnown gs

-- the answers, the final image and the final registers are those of the restore R
pub record AsRestore (Q : Request) (R : Restore) (gs : List Numbered) (im : List ℕ) : Type 0 where
  pub answers_are : answers_under Q gs im ≡ answers R (map stopped_of gs) im
  pub image_is : final_under Q gs im ≡ final R (map stopped_of gs) im
  pub registers_are : final_registers_under Q gs im ≡ final_registers R (map stopped_of gs) im

-- moves under an edition that the store has are those of the restore with its settings
abbrev pub UnderEdition : Type 0
UnderEdition =
    (Q : Request) (k : kept.Settings) → look Q.edition Q.store.slots ≡ some k → (gs : List Numbered) → AllKnown gs → (im : List ℕ)
    → AsRestore Q (with_settings Q (settings_of k)) gs im

-- 31, and nothing is changed
pub record Refused31 (Q : Request) (im : List ℕ) (g : Numbered) : Type 0 where
  pub answer_is : answer_under Q im g ≡ refused_move 31 0
  pub image_is : moved_under Q im g ≡ im
  pub registers_are : registers_under Q im g ≡ g.registers

-- so it is under an edition that the store doesn't have, whatever else is handed in
abbrev pub UnknownEdition : Type 0
UnknownEdition = (Q : Request) → look Q.edition Q.store.slots ≡ none → (im : List ℕ) (g : Numbered) → Refused31 Q im g
