-- Two moves of one frame in a row, document 02, request 11.
use Rattle.std.specs.Prelude.{ℕ, ◌≡◌, true, ◌↔◌, List}
use Rattle.wire.specs.Word.{Bytes}
use Rattle.moves.specs.Slots.{Slot}
use Rattle.moves.specs.Table.{table_right}
use Rattle.moves_twice.specs.Joined.{joined}
use Rattle.relocate.specs.Restore.{Restore}
use Rattle.relocate.specs.Stopped.{Stopped}
use Rattle.relocate.specs.Relocation.{answer, moved, moved_registers, ListedPointer}
use Rattle.relocate.specs.Consequences.{Words, after_move}

-- the same restore with another table
abbrev pub with_table : Restore → List ℕ → List ℕ → Restore
with_table R olds news = record { section = R.section; olds = olds; news = news; first = R.first; settings = R.settings }

-- the same restore with its table and a second one joined
abbrev pub with_joined : Restore → List ℕ → List ℕ → Restore
with_joined R olds2 news2 = let t = joined R.olds R.news olds2 news2 in with_table R t.olds t.news

-- Every non-null pointer's base slot is also listed with itself: some pointer of the frame has that slot as base and as derived. Without it a
-- move leaves the old start in the base slot, while the pointers derived from it have moved; a second move then takes them for pointers into
-- what is at the old start now, or finds no such object.
abbrev pub SelfListed : Restore → Stopped → Type 0
SelfListed R f = (b d : Slot) → ListedPointer R.section f b d → ListedPointer R.section f b b

-- A move with the first table and, on what it left, a move with the second: both are accepted exactly when one move with the joined table is,
-- and where they are, the final image and registers are equal.
pub record OneMove (R R2 R12 : Restore) (im : List ℕ) (f : Stopped) : Type 0 where
  pub accepted : (((answer R im f).number ≡ 0) × ((answer R2 (moved R im f) (after_move R im f)).number ≡ 0)) ↔ ((answer R12 im f).number ≡ 0)
  pub image : (answer R12 im f).number ≡ 0 → moved R2 (moved R im f) (after_move R im f) ≡ moved R12 im f
  pub registers : (answer R12 im f).number ≡ 0 → moved_registers R2 (moved R im f) (after_move R im f) ≡ moved_registers R12 im f

-- Both tables pass 14, and every non-null pointer's base slot is also listed with itself. (An image is bytes; registers and new starts are
-- 64-bit numbers.)
abbrev pub TwoMoves : Type 0
TwoMoves =
    (R : Restore) (olds2 news2 im : List ℕ) (f : Stopped) → Bytes im → Words f.registers → Words R.news
    → table_right R.olds R.news ≡ true → table_right olds2 news2 ≡ true → SelfListed R f
    → OneMove R (with_table R olds2 news2) (with_joined R olds2 news2) im f

-- the joined table of two that pass 14 passes 14
abbrev pub JoinedTables : Type 0
JoinedTables =
    (olds news olds2 news2 : List ℕ) → table_right olds news ≡ true → table_right olds2 news2 ≡ true
    → table_right (joined olds news olds2 news2).olds (joined olds news olds2 news2).news ≡ true
