-- A frame as it is handed in, with its registers.
use Rattle.std.specs.Prelude.{ℕ, Bool, List, eqb, length, get_or}
use Rattle.relocate.specs.declared.Frame.{Frame}
use Rattle.relocate.specs.declared.Cursor.{Cursor}
use Rattle.relocate.specs.Limits.{register_count, frame_pointer, stack_pointer}

-- "Stopped" is our own word: a stopped call, by its frame and the registers that it is lent
pub record Stopped : Type 0 where
  pub frame : Frame
  pub registers : List ℕ

abbrev pub stopped : Frame → List ℕ → Stopped
stopped f rs = record { frame = f; registers = rs }

-- 25 of a single frame: its registers are not 32
unfoldable pub registers_right : List ℕ → Bool
registers_right rs = eqb (length rs) register_count

-- frame pointer and stack pointer come from that list
unfoldable pub cursor : Stopped → Cursor
cursor st =
    record {
      machine = st.frame.machine;
      address = st.frame.address;
      function = st.frame.function;
      fp = get_or st.registers (frame_pointer st.frame.machine) 0;
      sp = get_or st.registers (stack_pointer st.frame.machine) 0;
    }
