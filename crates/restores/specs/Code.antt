-- For the code alone: nothing here has to be believed.
-- The tests that come before a restore's own, as the code hands on what they gave.
use Rattle.std.specs.Prelude.{ℕ, ◌≤◌, ◌≡◌, true, false, List}
use Rattle.moves.specs.declared.Move.{Move}
use Rattle.moves.specs.Limits.{pairs_most}
use Rattle.moves.specs.Settle.{refused_move}
use Rattle.editions.specs.declared.Store.{Store}
use Rattle.relocate.specs.declared.Machine.{Machine}
use Rattle.relocate.specs.declared.Machine.TheVariants.{Amd64}
use Rattle.relocate.specs.declared.Settings.{Settings}
use Rattle.relocate.specs.Restore.{Restore, everything}
use Rattle.relocate.specs.Relocation.{answer, moved, moved_registers}
use Rattle.editions_settings.specs.Under.{under}
use Rattle.editions_settings.specs.Machine.{machine_of, of_machine}
use Rattle.restores.specs.declared.Begun.{Begun}
use Rattle.restores.specs.Restores.{Request, by_edition, left_by_edition}
use Rattle.restores.specs.Moves.{Numbered, stopped_of}

abbrev pub refused_at : ℕ → ℕ → Begun
refused_at n p = record { passed = false; number = n; place = p; settings = everything Amd64; machine = Amd64 }

abbrev pub passed_with : Machine → Settings → Begun
passed_with m settings = record { passed = true; number = 0; place = 0; settings = settings; machine = m }

pub record Begins (st : Store) (e machine : ℕ) (s : List ℕ) (r : Begun) : Type 0 where
  pub is : r ≡ under st e (refused_at 31 0) (λ settings. of_machine refused_at machine s (passed_with (machine_of machine) settings))
  pub most_right : r.settings.most ≤ pairs_most

-- an answer, and the image and the registers that are left, are those that a restore gives under the edition that it names
pub record Gives (Q : Request) (machine : ℕ) (im rs : List ℕ) (says : Restore → Move) (leaves leaves_registers : Restore → List ℕ)
    (r : Move) (after registers : List ℕ) : Type 0 where
  pub answer_is : r ≡ by_edition Q machine refused_move says
  pub image_is : after ≡ left_by_edition Q machine im leaves
  pub registers_is : registers ≡ left_by_edition Q machine rs leaves_registers

-- those of one frame's move
abbrev pub MovesUnder : Request → List ℕ → Numbered → Move → List ℕ → List ℕ → Type 0
MovesUnder Q im g =
    Gives Q g.machine im g.registers
    (λ R. answer R im (stopped_of g)) (λ R. moved R im (stopped_of g)) (λ R. moved_registers R im (stopped_of g))
