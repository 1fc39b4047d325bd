-- What the rows of a frame tell of each slot.
use Rattle.std.specs.Prelude.{ℕ, ◌≡◌, ◌⊎◌, get_or, take, drop}
use mathlib.Core.List.{List, Memᴰ}
use Rattle.moves.specs.Slots.{Slot}
use Rattle.relocate.specs.Restore.{Restore}
use Rattle.relocate.specs.Stopped.{Stopped}
use Rattle.relocate.specs.Relocation.{answer, content_at}
use Rattle.explain.specs.declared.Reason.TheVariants.{Unlisted}
use Rattle.explain.specs.Explain.{explained}
use Rattle.explain.specs.Rows.{sort_of, place_of, reason_numbers, frame_rows}

-- the base slot of a row's pointer is x; its derived slot is
abbrev pub HasBase : List ℕ → Slot → Type 0
HasBase row x = (get_or row 2 0 ≡ sort_of x) × (get_or row 3 0 ≡ place_of x)

abbrev pub HasDerived : List ℕ → Slot → Type 0
HasDerived row x = (get_or row 9 0 ≡ sort_of x) × (get_or row 10 0 ≡ place_of x)

module _ (R : Restore) (im : List ℕ) (f : Stopped) (k : ℕ) where
  -- Of each slot that it names a row has the content before the move, and why the slot moves or does not.
  pub record RowTells (row : List ℕ) (x : Slot) : Type 0 where
    pub base_content : HasBase row x → get_or row 4 0 ≡ content_at R im f.registers x
    pub base_reason : HasBase row x → take 4 (drop 5 row) ≡ reason_numbers (explained R im f x)
    pub derived_content : HasDerived row x → get_or row 11 0 ≡ content_at R im f.registers x
    pub derived_reason : HasDerived row x → take 4 (drop 12 row) ≡ reason_numbers (explained R im f x)

  -- no row names it
  abbrev pub Unnamed : Slot → Type 0
  Unnamed x = (row : List ℕ) → Memᴰ row (frame_rows R im f k) → HasBase row x ⊎ HasDerived row x → ⊥

-- So the rows determine the reason of every slot: of an accepted frame, a slot that no row names is unlisted, and no other is.
pub record RowsTell : Type 0 where
  pub row_tells : (R : Restore) (im : List ℕ) (f : Stopped) (k : ℕ) (row : List ℕ) → Memᴰ row (frame_rows R im f k) → (x : Slot) → RowTells R im f k row x
  pub unnamed : (R : Restore) (im : List ℕ) (f : Stopped) (k : ℕ) (x : Slot) → (answer R im f).number ≡ 0 → explained R im f x ≡ Unlisted → Unnamed R im f k x
  pub unlisted : (R : Restore) (im : List ℕ) (f : Stopped) (k : ℕ) (x : Slot) → (answer R im f).number ≡ 0 → Unnamed R im f k x → explained R im f x ≡ Unlisted
