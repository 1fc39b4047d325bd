-- A thread's move after `begin`.
use mathlib.Core.Path.{◌≡◌, subst}
use mathlib.Core.Bool.{true}
use mathlib.Core.List.{List}
use Prim.Native.Nat.{ℕ}
use Rattle.moves.specs.declared.Move.{Move}
use Rattle.relocate.specs.declared.Machine.{Machine}
use Rattle.thread.specs.Thread.{thread_of}
use Rattle.thread.specs.Code.{Threads}
use Rattle.thread_index.specs.ByIndex.{ThreadsByIndex}
use Rattle.restores.specs.declared.Begun.{Begun}
use Rattle.restores.specs.Restores.{Request, with_settings}
use Rattle.restores.specs.Code.{Begins}
use Rattle.restores.proofs.Laws.{machine-is}
use Rattle.restores.proofs.Moving.{gives-passed}
use Rattle.restores_thread.specs.Threads.{NumberedThread, thread_by}
use Rattle.restores_thread.specs.Code.{ThreadsUnder, ByIndexUnder}

module _ (Q : Request) (im : List ℕ) (t : NumberedThread) (b : Begun) (begins : Begins Q.store Q.edition t.machine Q.section b) (passed : b.passed ≡ true)
    (r : Move) (after registers : List ℕ) where
  pub threads_passed : Threads (with_settings Q b.settings) im (thread_of b.machine t.list t.registers) r after registers → ThreadsUnder Q im t r after registers
  threads_passed moves =
      let k : Threads (with_settings Q b.settings) im (thread_by t) r after registers =
      subst (λ (m : Machine). Threads (with_settings Q b.settings) im (thread_of m t.list t.registers) r after registers) (machine-is Q t.machine b begins passed) moves
      in
      gives-passed Q t.machine b begins im t.registers _ _ _ r after registers passed k.answer_is k.image_is k.registers_is

  pub by_index-passed : (index : List ℕ) → ThreadsByIndex (with_settings Q b.settings) im index (thread_of b.machine t.list t.registers) r after registers
      → ByIndexUnder Q im index t r after registers
  by_index-passed index moves =
      let k : ThreadsByIndex (with_settings Q b.settings) im index (thread_by t) r after registers =
      subst (λ (m : Machine). ThreadsByIndex (with_settings Q b.settings) im index (thread_of m t.list t.registers) r after registers) (machine-is Q t.machine b begins passed) moves
      in
      gives-passed Q t.machine b begins im t.registers _ _ _ r after registers passed k.answer_is k.image_is k.registers_is
