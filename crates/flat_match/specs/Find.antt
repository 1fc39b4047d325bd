-- The lookup by address, document 02, request 13: frame and record number of the first match in frame order, then record order, by sums
-- that don't wrap; 41 exactly if there is none. A record's number is that in the array of all records.
use Rattle.std.specs.Prelude.{ℕ, zero, suc, ◌+◌, ◌*◌, ◌≤◌, ◌<◌, cond, ◌⊎◌, ◌≡◌, eqb}
use mathlib.Core.List.{List, [], ◌∷◌, ◌++◌}
use Rattle.wire.specs.Word.{word}
use Rattle.flat.specs.Layout.{frame_size, record_count_at, record_index_at, record_size, instruction_offset_at}
use Rattle.flat.specs.Places.{frames_at, records_at, num_frames}
use Rattle.flat_check.specs.Check.{flat_check, ask}
use Rattle.flat_match.specs.declared.MatchAnswer.{MatchAnswer}

-- a frame's number and a record's
pub record Match : Type 0 where
  pub frame : ℕ
  pub index : ℕ

-- the address of the record k in the frame i: the frame's function address plus the record's instruction offset, as whole numbers
abbrev pub address_of : List ℕ → ℕ → ℕ → ℕ
address_of s i k = word 8 s (frames_at s + frame_size * i) + word 4 s (records_at s + record_size * k + instruction_offset_at)

-- the matches in the frame i, among n records from k on
unfoldable pub in_frame : List ℕ → ℕ → ℕ → ℕ → ℕ → List Match
in_frame s a i k zero = []
in_frame s a i k (suc n) =
    cond (eqb (address_of s i k) a) (record { frame = i; index = k } ∷ in_frame s a i (suc k) n) (in_frame s a i (suc k) n)

-- where the records of the frame i begin, and how many they are
abbrev pub record_index : List ℕ → ℕ → ℕ
record_index s i = word 2 s (frames_at s + frame_size * i + record_index_at)

abbrev pub record_count : List ℕ → ℕ → ℕ
record_count s i = word 2 s (frames_at s + frame_size * i + record_count_at)

-- the matches in n frames from i on
unfoldable pub in_frames : List ℕ → ℕ → ℕ → ℕ → List Match
in_frames s a i zero = []
in_frames s a i (suc n) = in_frame s a i (record_index s i) (record_count s i) ++ in_frames s a (suc i) n

-- all matches, in frame order, then record order
unfoldable pub matches : List ℕ → ℕ → List Match
matches s a = in_frames s a 0 (num_frames s)

abbrev pub not_found : ℕ → MatchAnswer
not_found n = record { number = n; place = 0; frame = 0; index = 0 }

-- the first of them, or 41
abbrev pub first_of : List Match → MatchAnswer
first_of [] = not_found 41
first_of (m ∷ ms) = record { number = 0; place = 0; frame = m.frame; index = m.index }

unfoldable pub by_address : List ℕ → ℕ → MatchAnswer
by_address s a = ask not_found (first_of (matches s a)) (flat_check s)

-- What that means, without the list.

-- the record k is one of the frame i's, and has the address a there
pub record Matches (s : List ℕ) (a i k : ℕ) : Type 0 where
  pub frame : i < num_frames s
  pub from : record_index s i ≤ k
  pub below : k < record_index s i + record_count s i
  pub address : address_of s i k ≡ a

-- frame order, then record order
abbrev pub NotAfter : ℕ → ℕ → ℕ → ℕ → Type 0
NotAfter i k j l = (i < j) ⊎ ((i ≡ j) × (k ≤ l))

-- On an accepted section the lookup gives a match that stands before all others, or 41 and there is none.
pub record FirstMatch : Type 0 where
  pub found : (s : List ℕ) (a : ℕ) → flat_check s ≡ 0 → (by_address s a).number ≡ 0 → Matches s a (by_address s a).frame (by_address s a).index
  pub first : (s : List ℕ) (a : ℕ) → flat_check s ≡ 0 → (i k : ℕ) → Matches s a i k
      → ((by_address s a).number ≡ 0) × NotAfter (by_address s a).frame (by_address s a).index i k
