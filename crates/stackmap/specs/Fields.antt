-- Numbers one after the other, each little-endian in as many bytes as its width says. One list of fields is an item's
-- layout, its bytes and the ranges of its numbers at once.
use Rattle.std.specs.Prelude.{ℕ, zero, suc, ◌+◌, ◌^◌, ◌<◌, List, [], ◌∷◌, ◌++◌}
use Rattle.wire.specs.Word.{bytes}

infix 60 ◌of◌
pub record Field : Type 0 where
  pub width : ℕ
  pub value : ℕ

-- v in n bytes
abbrev pub ◌of◌ : ℕ → ℕ → Field
n of v = record { width = n; value = v }

unfoldable pub bytes_of : List Field → List ℕ
bytes_of [] = []
bytes_of (f ∷ fs) = bytes f.width f.value ++ bytes_of fs

-- how many bytes they take
unfoldable pub size : List Field → ℕ
size [] = 0
size (f ∷ fs) = f.width + size fs

-- each number fits in its width
abbrev pub Fit : List Field → Type 0
Fit [] = Unit {0}
Fit (f ∷ fs) = (f.value < 256 ^ f.width) × Fit fs

-- the fields of each item of a list, one after the other
unfoldable pub all : {A : Type 0} → (A → List Field) → List A → List Field
all fields [] = []
all fields (x ∷ xs) = fields x ++ all fields xs

-- n items of `step` bytes each from `at`
unfoldable pub many : {A : Type 0} → (List ℕ → ℕ → A) → ℕ → ℕ → List ℕ → ℕ → List A
many read step zero s at = []
many read step (suc n) s at = read s at ∷ many read step n s (at + step)
