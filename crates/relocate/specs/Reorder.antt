-- Another order of pairs moves whole pairs within their own statepoint of an accepted section and changes nothing else in it.
use Rattle.std.specs.Prelude.{ℕ, ◌<◌, ◌≡◌, ◌⊎◌, true, take}
use mathlib.Core.List.{List, [], ◌∷◌, ◌++◌, Permᴰ}
use Rattle.wire.specs.Word.{Bytes}
use Rattle.stackmap.specs.Section.{Location, Record, encode_section, read_section}
use Rattle.stackmap.specs.Check.{Accepted}
use Rattle.relocate.specs.Restore.{Restore}
use Rattle.relocate.specs.Stopped.{Stopped}
use Rattle.relocate.specs.Statepoint.{pairs_at, is_statepoint, Pair, pairs}
use Rattle.relocate.specs.Relocation.{answer, moved, moved_registers}

-- the locations of pairs, base first
unfoldable pub unpair : List Pair → List Location
unpair [] = []
unpair (p ∷ ps) = p.base ∷ p.derived ∷ unpair ps

-- r' is the statepoint r with its pairs in another order
pub record Reordered (r r' : Record) : Type 0 where
  pub statepoint : is_statepoint r ≡ true
  pub order : List Pair
  pub another_order : Permᴰ (pairs r) order
  pub nothing_else :
      r' ≡ record { id = r.id; offset = r.offset; locations = take (pairs_at r) r.locations ++ unpair order; live_outs = r.live_outs }

-- each record is the same, or reordered
abbrev pub EachReordered : List Record → List Record → Type 0
EachReordered [] [] = Unit {0}
EachReordered [] (r ∷ rs) = ⊥
EachReordered (r ∷ rs) [] = ⊥
EachReordered (r ∷ rs) (r' ∷ rs') = ((r' ≡ r) ⊎ Reordered r r') × EachReordered rs rs'

-- s' is the accepted section s with another order of pairs
pub record OtherOrder (s s' : List ℕ) : Type 0 where
  pub accepted : Accepted s
  pub records : List Record
  pub reordered : EachReordered (read_section s).records records
  pub encoded : s' ≡ encode_section (record { old = (read_section s).old; functions = (read_section s).functions; constants = (read_section s).constants; records = records })

-- the same restore with another section
abbrev pub with_section : Restore → List ℕ → Restore
with_section R s = record { section = s; olds = R.olds; news = R.news; first = R.first; settings = R.settings }

-- s' is accepted; a move's number, its count, and the image and registers it leaves stay the same; only the place of 18 to 21 may differ
pub record SameMoves (R R' : Restore) : Type 0 where
  pub accepted : Accepted R'.section
  pub number : (im : List ℕ) (f : Stopped) → (answer R' im f).number ≡ (answer R im f).number
  pub count : (im : List ℕ) (f : Stopped) → (answer R' im f).count ≡ (answer R im f).count
  pub image : (im : List ℕ) (f : Stopped) → moved R' im f ≡ moved R im f
  pub registers : (im : List ℕ) (f : Stopped) → moved_registers R' im f ≡ moved_registers R im f
  pub place : (im : List ℕ) (f : Stopped) → (answer R im f).number < 18 → (answer R' im f).place ≡ (answer R im f).place

-- Demand 3, of the order of pairs: whatever order a statepoint of an accepted section lists its pairs in, a move gives the same
-- refusal number, the same count, and the same image and registers.
abbrev pub PairOrder : Type 0
PairOrder = (R : Restore) (s' : List ℕ) → Bytes R.section → OtherOrder R.section s' → SameMoves R (with_section R s')
