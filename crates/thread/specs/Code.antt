-- For the code alone: nothing here has to be believed.
-- What the code's arrays and values hold.
use Rattle.std.specs.Prelude.{ℕ, ◌+◌, ◌*◌, ◌^◌, ◌≤◌, ◌<◌, ◌≡◌, Bool, true, false, cond, eqb, length, get_or}
use mathlib.Core.List.{List, [], map, flatten}
use Rattle.stackmap.specs.Layout.{stack_size_unknown}
use Rattle.stackmap.specs.Section.{Entry, entries}
use Rattle.stackmap.specs.Check.{Accepted}
use Rattle.questions.specs.declared.Hits.{Hits}
use Rattle.questions.specs.declared.Found.{Found}
use Rattle.questions.specs.Kept.{noted}
use Rattle.questions.specs.Questions.{with_address, not_found, first_of}
use Rattle.sorted.specs.Sorted.{Sorted, LowerBound, EntryOf}
use Rattle.moves.specs.declared.Move.{Move}
use Rattle.moves.specs.Search.{any_below}
use Rattle.moves.specs.Limits.{pairs_most}
use Rattle.moves.specs.Table.{table_right}
use Rattle.moves.specs.Window.{splice}
use Rattle.moves.specs.Settle.{accepted_move}
use Rattle.relocate.specs.Limits.{register_count}
use Rattle.relocate.specs.declared.Machine.{Machine}
use Rattle.relocate.specs.Restore.{Restore, allowed}
use Rattle.relocate.specs.Stopped.{Stopped, registers_right, cursor}
use Rattle.relocate.specs.Plan.{image_right, stack_size}
use Rattle.relocate.specs.Relocation.{moved, moved_registers, OneRecord, extent_of}
use Rattle.relocate.specs.Lists.{final, final_registers}
use Rattle.thread.specs.Thread.{Thread, frames_most, frame_numbers, stopped_at, share, apart, judged, pointers_in, thread_answer, thread_image, thread_registers}

-- The addresses of the first n frames, in order; equal ones stand side by side.
pub record Gathered (ns keys : List ℕ) (n : ℕ) : Type 0 where
  pub sorted : Sorted keys n
  pub each : (k : ℕ) → k < n → EntryOf keys n (get_or ns (frame_numbers * k) 0)

-- What a search has found so far of the address at the place i: four numbers a place, in one array.
abbrev pub hit_numbers : ℕ
hit_numbers = 4

abbrev pub hits_at : List ℕ → ℕ → Hits
hits_at hits i =
    record {
      index = get_or hits (hit_numbers * i) 0;
      function = get_or hits (hit_numbers * i + 1) 0;
      sharing = get_or hits (hit_numbers * i + 2) 0;
      first = get_or hits (hit_numbers * i + 3) 0;
    }

-- one place is written, and the others are as they were
pub record Stored (before after : List ℕ) (i : ℕ) (h : Hits) : Type 0 where
  pub here : hits_at after i ≡ h
  pub others : (j : ℕ) → (j ≡ i → ⊥) → hits_at after j ≡ hits_at before j

-- Of equal addresses the first stands for all: its place holds what h says of the address.
pub record Holding (keys : List ℕ) (n : ℕ) (hits : List ℕ) (h : ℕ → Hits) : Type 0 where
  pub at : (i : ℕ) → i < n → LowerBound keys n (get_or keys i 0) i → hits_at hits i ≡ h (get_or keys i 0)

-- no address has been found at more records than these
pub record Counted (hits : List ℕ) (index : ℕ) : Type 0 where
  pub most : (i : ℕ) → (hits_at hits i).sharing ≤ index

-- one more entry is noted, for all addresses at once
abbrev pub noted_all : Entry → (ℕ → Hits) → ℕ → Hits
noted_all e h a = noted a e (h a)

-- the answer to the question by address, by what a search has found
unfoldable pub found_by : Hits → Found
found_by h =
    cond (eqb h.sharing 0) (not_found 10 0)
    (record { number = 0; place = 0; index = h.index; function = h.function; sharing = h.sharing; first = h.first })

-- the array answers the question by address for all that are looked for
pub record Sought (s keys : List ℕ) (n : ℕ) (hits : List ℕ) : Type 0 where
  pub at : (i : ℕ) → i < n → LowerBound keys n (get_or keys i 0) i
      → found_by (hits_at hits i) ≡ first_of (with_address (get_or keys i 0) (entries s))

-- The section is accepted, and the records of the first `count` frames are found.
pub record Looked (s ns : List ℕ) (count : ℕ) (keys hits : List ℕ) : Type 0 where
  pub section_right : Accepted s
  pub room : frame_numbers * count ≤ length ns
  pub most : count ≤ frames_most
  pub gathered : Gathered ns keys count
  pub found : Sought s keys count hits

-- All that a frame's move relies on: 13, 14 and 25 have passed too, of an image of `long` bytes and `wide` registers.
pub record Ready (R : Restore) (machine : Machine) (long wide : ℕ) (ns : List ℕ) (count : ℕ) (keys hits : List ℕ) : Type 0 where
  pub looked : Looked R.section ns count keys hits
  pub allowed_right : allowed R machine ≡ true
  pub most_right : R.settings.most ≤ pairs_most
  pub image_right : image_right R.first long ≡ true
  pub table_right : table_right R.olds R.news ≡ true
  pub registers_right : wide ≡ register_count * count

-- a frame whose extent is known, and ends below 2^64
pub record Sited (s : List ℕ) (f : Stopped) : Type 0 where
  pub right : registers_right f.registers ≡ true
  pub entry : Entry
  pub one : OneRecord s f.frame entry
  pub known : stack_size entry ≡ stack_size_unknown → ⊥
  pub ends : (cursor f).sp + stack_size entry < 2 ^ 64

-- each of the first `count` frames has one
pub record EachSited (s : List ℕ) (t : Thread) (count : ℕ) : Type 0 where
  pub at : (k : ℕ) → k < count → Sited s (stopped_at t k)

-- Stretches of memory, each from its start up to its end, where it no longer is.

-- the stretch from a up to b shares a byte with one of the first n
unfoldable pub shares_any : List ℕ → List ℕ → ℕ → ℕ → ℕ → Bool
shares_any starts ends n a b = any_below (λ i. share a b (get_or starts i 0) (get_or ends i 0)) n

-- the first n stretches are not empty, stand in order and share no byte
pub record Apart (starts ends : List ℕ) (n : ℕ) : Type 0 where
  pub full : (i : ℕ) → i < n → get_or starts i 0 < get_or ends i 0
  pub apart : (i j : ℕ) → i < j → j < n → get_or ends i 0 ≤ get_or starts j 0

-- an answer, and the image and the registers that are left, are those of the call
pub record Threads (R : Restore) (im : List ℕ) (t : Thread) (r : Move) (after registers : List ℕ) : Type 0 where
  pub answer_is : r ≡ thread_answer R im t
  pub image_is : after ≡ thread_image R im t
  pub registers_is : registers ≡ thread_registers R im t

-- the image and the thread's registers after the frame at the position k is moved, or is only judged
abbrev pub moved_if : Bool → Restore → List ℕ → Thread → ℕ → List ℕ
moved_if true R im t k = moved R im (stopped_at t k)
moved_if false R im t k = im

abbrev pub registers_if : Bool → Restore → List ℕ → Thread → ℕ → List ℕ
registers_if true R im t k = splice t.registers (register_count * k) register_count (moved_registers R im (stopped_at t k))
registers_if false R im t k = t.registers

-- what is left to do once the list is right: the frames, then 26
unfoldable pub frames_answer : Restore → List ℕ → List Stopped → Move
frames_answer R im fs =
    judged R im 0 fs (apart 0 [] (map (extent_of R.section) fs) (accepted_move (pointers_in R im fs)))

unfoldable pub frames_image : Restore → List ℕ → List Stopped → List ℕ
frames_image R im fs = cond (eqb (frames_answer R im fs).number 0) (final R fs im) im

unfoldable pub frames_registers : Restore → List ℕ → List Stopped → List ℕ → List ℕ
frames_registers R im fs rs = cond (eqb (frames_answer R im fs).number 0) (flatten (final_registers R fs im)) rs

-- all three of them
pub record Framed (R : Restore) (im : List ℕ) (fs : List Stopped) (rs : List ℕ) (r : Move) (after registers : List ℕ) : Type 0 where
  pub answer_is : r ≡ frames_answer R im fs
  pub image_is : after ≡ frames_image R im fs
  pub registers_is : registers ≡ frames_registers R im fs rs
