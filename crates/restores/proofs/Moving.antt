-- A restore's answer and what it leaves, after `begin`.
use Prim.Native.Nat.{ℕ}
use mathlib.Core.Path.{◌≡◌, sym, subst, ◌∙◌}
use mathlib.Core.Bool.{true, false}
use mathlib.Core.List.{List}
use Rattle.moves.specs.declared.Move.{Move}
use Rattle.moves.specs.Settle.{refused_move}
use Rattle.relocate.specs.declared.Machine.{Machine}
use Rattle.relocate.specs.Restore.{Restore}
use Rattle.relocate.specs.Stopped.{Stopped, stopped}
use Rattle.relocate.specs.Code.{Relocates}
use Rattle.restores.specs.declared.Begun.{Begun}
use Rattle.restores.specs.Restores.{Request, with_settings}
use Rattle.restores.specs.Moves.{Numbered, stopped_of}
use Rattle.restores.specs.Code.{Begins, Gives, MovesUnder}
use Rattle.restores.proofs.Laws.{by-refused, left-refused, by-passed, left_passed, machine-is}

module _ (Q : Request) (machine : ℕ) (b : Begun) (begins : Begins Q.store Q.edition machine Q.section b) (im rs : List ℕ)
    (says : Restore → Move) (leaves leaves_registers : Restore → List ℕ) where
  pub gives-refused : (r : Move) → r ≡ refused_move b.number b.place → b.passed ≡ false → Gives Q machine im rs says leaves leaves_registers r im rs
  gives-refused r is f =
      record {
        answer_is = is ∙ sym (by-refused Q machine b begins f refused_move says);
        image_is = sym (left-refused Q machine b begins f im leaves);
        registers_is = sym (left-refused Q machine b begins f rs leaves_registers);
      }

  pub gives-passed : (r : Move) (after registers : List ℕ) → b.passed ≡ true → r ≡ says (with_settings Q b.settings) → after ≡ leaves (with_settings Q b.settings)
      → registers ≡ leaves_registers (with_settings Q b.settings) → Gives Q machine im rs says leaves leaves_registers r after registers
  gives-passed r after registers t is left_is registers_is =
      record {
        answer_is = is ∙ sym (by-passed Q machine b begins t refused_move says);
        image_is = left_is ∙ sym (left_passed Q machine b begins t im leaves);
        registers_is = registers_is ∙ sym (left_passed Q machine b begins t rs leaves_registers);
      }

-- The move of one frame.

-- a frame by its numbers, of this machine
abbrev stopped_with : Machine → Numbered → Stopped
stopped_with m g = stopped (record { machine = m; address = g.address; function = g.function }) g.registers

module _ (Q : Request) (im : List ℕ) (g : Numbered) (b : Begun) (begins : Begins Q.store Q.edition g.machine Q.section b) where
  pub moves_passed : (r : Move) (after registers : List ℕ) → Relocates (with_settings Q b.settings) im (stopped_with b.machine g) r after registers
      → b.passed ≡ true → MovesUnder Q im g r after registers
  moves_passed r after registers moves t =
      let k : Relocates (with_settings Q b.settings) im (stopped_of g) r after registers =
      subst (λ (m : Machine). Relocates (with_settings Q b.settings) im (stopped_with m g) r after registers) (machine-is Q g.machine b begins t) moves
      in
      gives-passed Q g.machine b begins im g.registers _ _ _ r after registers t k.answer_is k.image_is k.registers_is

  pub moves_refused : (r : Move) → r ≡ refused_move b.number b.place → b.passed ≡ false → MovesUnder Q im g r im g.registers
  moves_refused = gives-refused Q g.machine b begins im g.registers _ _ _
