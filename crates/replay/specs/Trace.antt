-- A trace, document 02, request 12: items in the house shape, one byte of kind and then a body whose length the kind fixes. Each frame is followed
-- by its answer; then one end, and nothing after it.
use Rattle.std.specs.Prelude.{ℕ, zero, suc, ◌+◌, Bool, cond, ◌&&◌, List, [], ◌∷◌, ◌++◌, eqb, length, get_or}
use Rattle.wire.specs.Word.{word}
use Rattle.stackmap.specs.Fields.{Field, ◌of◌, bytes_of, all, many}
use Rattle.stackmap.specs.Verdict.{need}
use Rattle.listing.specs.Listing.{stands}
use Rattle.relocate.specs.declared.Frame.{Frame}
use Rattle.relocate.specs.declared.Machine.{Machine}
use Rattle.relocate.specs.declared.Machine.TheVariants.{Amd64, Aarch64}
use Rattle.relocate.specs.Limits.{register_count}
use Rattle.relocate.specs.Stopped.{Stopped, stopped}
use Rattle.editions_settings.specs.Machine.{machine_known, machine_of}
use Rattle.replay.specs.declared.Recorded.{Recorded}
use Rattle.replay.specs.Layout.{frame_kind, frame_item_size, answer_kind, answer_item_size, end_kind, end_item_size, step_size}

-- the frame item at `at`: machine, address, function number, then 32 registers
unfoldable pub frame_at : List ℕ → ℕ → Frame
frame_at t at = record { machine = machine_of (get_or t (at + 1) 0); address = word 8 t (at + 2); function = word 8 t (at + 10) }

unfoldable pub registers_at : List ℕ → ℕ → List ℕ
registers_at t at = many (word 8) 8 register_count t (at + 18)

-- the answer item at `at`: number, then place or count
unfoldable pub recorded_at : List ℕ → ℕ → Recorded
recorded_at t at = record { number = get_or t (at + 1) 0; value = word 8 t (at + 2) }

-- a frame with its registers, and the answer that was recorded of it
pub record Step : Type 0 where
  pub frame : Stopped
  pub recorded : Recorded

unfoldable pub step_at : List ℕ → ℕ → Step
step_at t at = record { frame = stopped (frame_at t at) (registers_at t at); recorded = recorded_at t (at + frame_item_size) }

-- a trace is broken at its first bad item, by that item's first byte, or it is a list of steps
pub data Traced : Type 0 where
  broken : ℕ → Traced
  whole : List Step → Traced

abbrev pub before : Step → Traced → Traced
before s (broken p) = broken p
before s (whole ss) = whole (s ∷ ss)

module _ (t : List ℕ) where
  -- a whole frame item, with a machine that is known
  unfoldable pub frame_stands : ℕ → Bool
  frame_stands at = stands frame_kind frame_item_size t at && machine_known (get_or t (at + 1) 0)

  unfoldable pub answer_stands : ℕ → Bool
  answer_stands at = stands answer_kind answer_item_size t at

  unfoldable pub end_stands : ℕ → Bool
  end_stands at = stands end_kind end_item_size t at

  -- from `at` on; n is a bound. A missing end is at the trace's length, and anything after the end at the byte after it.
  unfoldable pub trace_from : ℕ → ℕ → Traced
  trace_from zero at = broken at
  trace_from (suc n) at =
      cond (frame_stands at)
      (need (answer_stands (at + frame_item_size)) (broken (at + frame_item_size)) (before (step_at t at) (trace_from n (at + step_size))))
      (need (end_stands at) (broken at) (need (eqb (at + end_item_size) (length t)) (broken (at + end_item_size)) (whole [])))

  unfoldable pub trace : Traced
  trace = trace_from (suc (length t)) 0

-- A trace as it is written.

-- 0 AMD64, 1 AArch64
abbrev pub machine_number : Machine → ℕ
machine_number Amd64 = 0
machine_number Aarch64 = 1

abbrev pub register_field : ℕ → List Field
register_field v = (8 of v) ∷ []

unfoldable pub frame_item : Stopped → List Field
frame_item f =
    (1 of frame_kind) ∷ (1 of machine_number f.frame.machine) ∷ (8 of f.frame.address) ∷ (8 of f.frame.function) ∷ all register_field f.registers

unfoldable pub answer_item : Recorded → List Field
answer_item r = (1 of answer_kind) ∷ (1 of r.number) ∷ (8 of r.value) ∷ []

unfoldable pub step_items : Step → List Field
step_items s = frame_item s.frame ++ answer_item s.recorded

abbrev pub end_item : List Field
end_item = (1 of end_kind) ∷ []

unfoldable pub trace_of : List Step → List ℕ
trace_of ss = bytes_of (all step_items ss ++ end_item)
