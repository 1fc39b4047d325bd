-- The move of a whole thread by the edition that it names, without an index of the section and with one.
use Rattle.std.specs.Prelude.{ℕ, List}
use Rattle.moves.specs.declared.Move.{Move}
use Rattle.moves.specs.Settle.{refused_move}
use Rattle.thread.specs.Thread.{Thread, thread_of, thread_answer, thread_image, thread_registers}
use Rattle.thread_index.specs.ByIndex.{thread_by_index_answer, thread_by_index_image, thread_by_index_registers}
use Rattle.editions_settings.specs.Machine.{machine_of}
use Rattle.restores.specs.Restores.{Request, by_edition, left_by_edition}

-- a thread as it is handed in, its machine by its number
pub record NumberedThread : Type 0 where
  pub machine : ℕ
  pub list : List ℕ
  pub registers : List ℕ

abbrev pub numbered_thread : ℕ → List ℕ → List ℕ → NumberedThread
numbered_thread machine list registers = record { machine = machine; list = list; registers = registers }

-- of a machine that is known
abbrev pub thread_by : NumberedThread → Thread
thread_by t = thread_of (machine_of t.machine) t.list t.registers

module _ (Q : Request) (im : List ℕ) (t : NumberedThread) where
  -- 31, 1 to 9, 33, and then the order of the call without an edition
  abbrev pub thread_answer_under : Move
  thread_answer_under = by_edition Q t.machine refused_move (λ R. thread_answer R im (thread_by t))

  abbrev pub thread_image_under : List ℕ
  thread_image_under = left_by_edition Q t.machine im (λ R. thread_image R im (thread_by t))

  abbrev pub thread_registers_under : List ℕ
  thread_registers_under = left_by_edition Q t.machine t.registers (λ R. thread_registers R im (thread_by t))

module _ (Q : Request) (im index : List ℕ) (t : NumberedThread) where
  -- the same, with 27 and 29 between 14 and 25
  abbrev pub by_index_answer_under : Move
  by_index_answer_under = by_edition Q t.machine refused_move (λ R. thread_by_index_answer R im index (thread_by t))

  abbrev pub by_index_image_under : List ℕ
  by_index_image_under = left_by_edition Q t.machine im (λ R. thread_by_index_image R im index (thread_by t))

  abbrev pub by_index_registers_under : List ℕ
  by_index_registers_under = left_by_edition Q t.machine t.registers (λ R. thread_by_index_registers R im index (thread_by t))
