-- For the code alone: nothing here has to be believed.
-- What the search over all maps leaves, and what a frame's move relies on.
use Rattle.std.specs.Prelude.{ℕ, ◌+◌, ◌*◌, ◌≤◌, ◌<◌, ◌≡◌, true, false, cond, eqb, length, get_or}
use mathlib.Core.List.{List, [], ◌∷◌, map, flatten, Memᴰ}
use Rattle.stackmap.specs.Section.{is_old}
use Rattle.stackmap.specs.Check.{Accepted}
use Rattle.sorted.specs.Sorted.{LowerBound}
use Rattle.moves.specs.declared.Move.{Move}
use Rattle.moves.specs.Limits.{pairs_most}
use Rattle.moves.specs.Table.{table_right}
use Rattle.moves.specs.Window.{part, splice}
use Rattle.moves.specs.Settle.{accepted_move}
use Rattle.relocate.specs.declared.Machine.{Machine}
use Rattle.relocate.specs.Limits.{register_count}
use Rattle.relocate.specs.Restore.{Restore}
use Rattle.relocate.specs.Stopped.{Stopped}
use Rattle.relocate.specs.Plan.{image_right}
use Rattle.linked.specs.Linked.{Map, cut, ask_maps}
use Rattle.linked.specs.Find.{MapEntry, all_with_address}
use Rattle.thread.specs.Thread.{Thread, frames_most, frame_numbers, stopped_at, apart}
use Rattle.thread.specs.Code.{Gathered, hits_at, Sited}
use Rattle.linked_moves.specs.Thread.{records_over, allowed_new, moved_registers_over, extent_over, judged_over, pointers_over, final_over, final_registers_over, thread_over, thread_image_over, thread_registers_over}

-- the maps of a section, none where it is refused
unfoldable pub maps_in : List ℕ → List Map
maps_in s = ask_maps (λ n p. []) (λ ms. ms) (cut s)

-- Of each record that is found first, its map: two numbers a place, the map's first byte and its length.
abbrev pub site_numbers : ℕ
site_numbers = 2

-- The arrays answer the question by address over all maps, for all addresses that are looked for. A record's first byte is counted from its
-- map's. Of equal addresses the first stands for all.
pub record FirstIs (hits sites : List ℕ) (i : ℕ) (x : MapEntry) : Type 0 where
  pub index_is : (hits_at hits i).index ≡ x.entry.number
  pub function_is : (hits_at hits i).function ≡ x.entry.owner.number
  pub first_is : (hits_at hits i).first ≡ x.entry.first
  pub map_is : get_or sites (site_numbers * i) 0 ≡ x.map.first
  pub length_is : get_or sites (site_numbers * i + 1) 0 ≡ length x.map.content

pub record SoughtIn (ms : List Map) (keys : List ℕ) (n : ℕ) (hits sites : List ℕ) : Type 0 where
  pub sharing_is : (i : ℕ) → i < n → LowerBound keys n (get_or keys i 0) i
      → (hits_at hits i).sharing ≡ length (all_with_address (get_or keys i 0) 0 ms)
  pub first_is : (i : ℕ) → i < n → LowerBound keys n (get_or keys i 0) i → (x : MapEntry) (xs : List MapEntry)
      → all_with_address (get_or keys i 0) 0 ms ≡ x ∷ xs → FirstIs hits sites i x

-- a map is accepted, of version 3, and a part of the section
pub record Standing (s : List ℕ) (m : Map) : Type 0 where
  pub accepted : Accepted m.content
  pub new : is_old m.content ≡ false
  pub inside : m.first + length m.content ≤ length s
  pub content_is : m.content ≡ part s m.first (length m.content)

pub record AllStanding (s : List ℕ) (ms : List Map) : Type 0 where
  pub each : (m : Map) → Memᴰ m ms → Standing s m

-- The maps are right, and the records of the first `count` frames are found.
pub record LookedIn (s : List ℕ) (ms : List Map) (ns : List ℕ) (count : ℕ) (keys hits sites : List ℕ) : Type 0 where
  pub standing : AllStanding s ms
  pub room : frame_numbers * count ≤ length ns
  pub most : count ≤ frames_most
  pub gathered : Gathered ns keys count
  pub found : SoughtIn ms keys count hits sites

-- All that a frame's move relies on: 33, 13, 14 and 25 have passed too, of an image of `long` bytes and `wide` registers.
pub record ReadyIn (R : Restore) (ms : List Map) (machine : Machine) (long wide : ℕ) (ns : List ℕ) (count : ℕ) (keys hits sites : List ℕ) : Type 0 where
  pub looked : LookedIn R.section ms ns count keys hits sites
  pub allowed_right : allowed_new R machine ≡ true
  pub most_right : R.settings.most ≤ pairs_most
  pub image_right : image_right R.first long ≡ true
  pub table_right : table_right R.olds R.news ≡ true
  pub registers_right : wide ≡ register_count * count

-- the frame has one record over all maps, and its extent is known in its own map
pub record SitedIn (ms : List Map) (f : Stopped) : Type 0 where
  pub entry : MapEntry
  pub only : records_over ms f ≡ entry ∷ []
  pub sited : Sited entry.map.content f

pub record EachSitedIn (ms : List Map) (t : Thread) (count : ℕ) : Type 0 where
  pub at : (k : ℕ) → k < count → SitedIn ms (stopped_at t k)

-- the thread's registers after the frame at the position k is moved
abbrev pub registers_after : Restore → List Map → List ℕ → Thread → ℕ → List ℕ
registers_after R ms im t k = splice t.registers (register_count * k) register_count (moved_registers_over R ms im (stopped_at t k))

-- what is left to do once the list is right: the frames, then 26
unfoldable pub frames_answer_over : Restore → List Map → List ℕ → List Stopped → Move
frames_answer_over R ms im fs =
    judged_over R ms im 0 fs (apart 0 [] (map (extent_over ms) fs) (accepted_move (pointers_over R ms im fs)))

-- an answer, and the image and the registers that are left, are those of the frames
pub record FramedOver (R : Restore) (ms : List Map) (im : List ℕ) (fs : List Stopped) (rs : List ℕ) (r : Move) (after registers : List ℕ) : Type 0 where
  pub answer_is : r ≡ frames_answer_over R ms im fs
  pub image_is : after ≡ cond (eqb (frames_answer_over R ms im fs).number 0) (final_over R ms fs im) im
  pub registers_is : registers ≡ cond (eqb (frames_answer_over R ms im fs).number 0) (flatten (final_registers_over R ms fs im)) rs

-- those of the call, once the section is cut into these maps
pub record ThreadsOver (R : Restore) (ms : List Map) (im : List ℕ) (t : Thread) (r : Move) (after registers : List ℕ) : Type 0 where
  pub answer_is : r ≡ thread_over R ms im t
  pub image_is : after ≡ thread_image_over R ms im t
  pub registers_is : registers ≡ thread_registers_over R ms im t
