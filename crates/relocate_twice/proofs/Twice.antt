-- Two moves of a frame are one: the second has the first one's plan, and the rest is that of its window (moves_twice).
use Prim.Native.Nat.{ℕ, zero, suc, ◌+◌, ◌<◌}
use mathlib.Core.Path.{◌≡◌, refl, sym, ap, subst}
use mathlib.Core.Bool.{true}
use mathlib.Core.List.Memᴰ
use mathlib.Core.List.{List, [], ◌∷◌, flatten, Memᴰ}
use native.Mathlib.Omega.{arith}
use lib.ListN.{length, get_or, take, drop}
use lib.Seq.{get_or-drop}
use Rattle.wire.specs.Word.{Bytes}
use Rattle.stackmap.specs.Verdict.{Verdict}
use Rattle.stackmap.specs.Verdict.{Valid, Refused}
use Rattle.stackmap.specs.Check.{section_check}
use Rattle.moves.specs.Window.{part}
use Rattle.moves.specs.Slots.{Slot, memory, register}
use Rattle.moves.specs.Pointers.{slots}
use Rattle.moves.specs.Table.{table_right, look_up}
use Rattle.moves.specs.Plan.{Plan, refuse, window}
use Rattle.moves.proofs.Words.{from_image}
use Rattle.moves.proofs.Lists.{Sound, Fits, all-inside}
use Rattle.moves_twice.specs.Pointers as window
use Rattle.moves_twice.proofs.Joined.{joined-right}
use Rattle.moves_twice.proofs.TwoMoves.{look_joined}
use Rattle.moves_twice.proofs.TwoImages.{OneImage, refused-image, two_moves_image}
use Rattle.relocate.specs.Restore.{Restore, allowed}
use Rattle.relocate.specs.Stopped.{Stopped, registers_right, cursor}
use Rattle.relocate.specs.Plan.{plan_pairs, plan_record, plan}
use Rattle.relocate.specs.Relocation.{answer, moved, moved_registers}
use Rattle.relocate.specs.Consequences.{after_move}
use Rattle.relocate.proofs.Planned.{Planned, planned, window-lists, listed-stands, sound}
use Rattle.relocate.proofs.Demand.{demand3, plan-refused}
use Rattle.relocate.proofs.Consequences.{keeps_cursor}
use Rattle.relocate_twice.specs.Twice.{with_table, with_joined, OneMove, TwoMoves, JoinedTables}

pub joined_tables : JoinedTables
joined_tables olds news olds2 news2 h k = joined-right olds news olds2 news2 h k

-- a slot counted from one place has one number
from-same : (sp : ℕ) (x y : Slot) → from_image sp x ≡ from_image sp y → x ≡ y
from-same sp (memory a) (memory b) e = let z : sp + a ≡ sp + b = cc in ap memory (omega arith)
from-same sp (memory a) (register r) e = absurd (let z : ◌≡◌ {A = ℕ} 0 1 = cc in omega arith)
from-same sp (register r) (memory a) e = absurd (let z : ◌≡◌ {A = ℕ} 0 1 = cc in omega arith)
from-same sp (register r) (register q) e = e

module _ (R : Restore) (olds2 news2 im : List ℕ) (f : Stopped) (right : table_right R.olds R.news ≡ true) (right2 : table_right olds2 news2 ≡ true) where
  abbrev R2 : Restore
  R2 = with_table R olds2 news2

  abbrev R12 : Restore
  R12 = with_joined R olds2 news2

  -- a plan reads of the table only that it is right
  joined-plan : plan R12 (length im) f ≡ plan R (length im) f
  unfolding plan plan_record plan_pairs allowed
  joined-plan = rw (joined-right R.olds R.news olds2 news2 right right2, right)

  -- the second move has the first one's plan
  second-plan : plan R2 (length (moved R im f)) (after_move R im f) ≡ plan R (length im) f
  unfolding plan plan_record plan_pairs allowed registers_right
  second-plan =
      rw (
        (demand3 R im (f ∷ []) ((λ g m. absurd (Memᴰ.not-nil m)), tt)).same_length,
        keeps_cursor.same_length R im f,
        keeps_cursor.same_cursor R im f,
        right,
        right2,
      )

  -- what is said of the plan is said of the moves
  of_plan : OneImage (look_up R.olds R.news) (look_up olds2 news2) (look_joined R.olds R.news olds2 news2) im f.registers (plan R (length im) f)
      → OneMove R R2 R12 im f
  unfolding answer moved moved_registers
  of_plan h = record {
    accepted = rw (second-plan, joined-plan) h.accepted;
    image = rw (second-plan, joined-plan) h.image;
    registers = rw (second-plan, joined-plan) h.registers;
  }

bytes_take : (n : ℕ) (l : List ℕ) → Bytes l → Bytes (take n l)
bytes_take zero l h = record { below = λ i. omega arith }
bytes_take (suc n) [] h = h
bytes_take (suc n) (x ∷ xs) h = record { below = go (bytes_take n xs (record { below = λ i. h.below (suc i) })) }
  where
    go : Bytes (take n xs) → (i : ℕ) → get_or (x ∷ take n xs) i 0 < 256
    go r zero = h.below 0
    go r (suc i) = r.below i

bytes_drop : (n : ℕ) (l : List ℕ) → Bytes l → Bytes (drop n l)
bytes_drop n l h = record { below = λ i. rw (get_or-drop n l i 0) (h.below (n + i)) }

part_bytes : (im : List ℕ) (off n : ℕ) → Bytes im → Bytes (part im off n)
part_bytes im off n h = bytes_take n (drop off im) (bytes_drop off im h)

pub two_moves : TwoMoves
two_moves R olds2 news2 im f bytes words starts right right2 self = of_plan R olds2 news2 im f right right2 (go (section_check R.section) refl)
  where
    all : Plan → Type 0
    all p = OneImage (look_up R.olds R.news) (look_up olds2 news2) (look_joined R.olds R.news olds2 news2) im f.registers p

    go : (v : Verdict) → section_check R.section ≡ v → all (plan R (length im) f)
    go (Refused n p) k = rw (plan-refused R (length im) f n p k) (refused-image _ _ _ im f.registers n p)
    go (Valid e) k = on (plan R (length im) f) refl
      where
        on : (p : Plan) → plan R (length im) f ≡ p → all p
        on (refuse n p) h = refused-image _ _ _ im f.registers n p
        on (window off size ws) h =
            two_moves_image R.olds R.news olds2 news2 off size ws f.registers im fits.window_in
            (record {
              right = right;
              right2 = right2;
              starts = record { below = starts };
              inside = all-inside (look_up R.olds R.news) (length im) off size im f.registers (flatten ws) fits.window_in fits;
              plain = record { window = part_bytes im off size bytes; registers = record { below = words } };
            })
            listed
          where
            q : Planned R (length im) f off size ws
            q = planned R (length im) f e k off size ws h

            fits : Fits (length im) (length f.registers) off size (flatten ws)
            fits = subst (Sound (length im) (length f.registers)) h (sound R (length im) f e k)

            listed : window.SelfListed (flatten ws)
            listed b d m =
                let l = self _ _ (window-lists R (length im) f off size ws q b d m) in
                let v = listed-stands R (length im) f off size ws q _ _ l in
                let x : v.base ≡ b = from-same (cursor f).sp v.base b (sym v.base_is) in
                let y : v.derived ≡ b = from-same (cursor f).sp v.derived b (sym v.derived_is) in
                subst (λ (z : Slot). Memᴰ (slots b z) (flatten ws)) y (subst (λ (z : Slot). Memᴰ (slots z v.derived) (flatten ws)) x v.member)
