-- The move of one frame by the edition that it names: 31, 1 to 9, 33, and then the order of every move.
use Rattle.std.specs.Prelude.{ℕ, List}
use Rattle.moves.specs.declared.Move.{Move}
use Rattle.moves.specs.Settle.{refused_move}
use Rattle.relocate.specs.Stopped.{Stopped, stopped}
use Rattle.relocate.specs.Relocation.{answer, moved, moved_registers}
use Rattle.editions_settings.specs.Machine.{machine_of}
use Rattle.restores.specs.Restores.{Request, by_edition, left_by_edition}

-- a frame as it is handed in, its machine by its number, with its registers
pub record Numbered : Type 0 where
  pub machine : ℕ
  pub address : ℕ
  pub function : ℕ
  pub registers : List ℕ

abbrev pub numbered : ℕ → ℕ → ℕ → List ℕ → Numbered
numbered machine address function registers =
    record { machine = machine; address = address; function = function; registers = registers }

-- of a machine that is known
abbrev pub stopped_of : Numbered → Stopped
stopped_of g = stopped (record { machine = machine_of g.machine; address = g.address; function = g.function }) g.registers

module _ (Q : Request) (im : List ℕ) (g : Numbered) where
  abbrev pub answer_under : Move
  answer_under = by_edition Q g.machine refused_move (λ R. answer R im (stopped_of g))

  -- the image that it leaves
  abbrev pub moved_under : List ℕ
  moved_under = left_by_edition Q g.machine im (λ R. moved R im (stopped_of g))

  -- the frame's registers that it leaves
  abbrev pub registers_under : List ℕ
  registers_under = left_by_edition Q g.machine g.registers (λ R. moved_registers R im (stopped_of g))
