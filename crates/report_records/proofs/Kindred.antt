-- The locations of a record by kind: one step of the count.
use Prim.Native.Nat.{ℕ, ◌+◌, ◌*◌, ◌-◌, ◌≤◌, ◌<◌}
use mathlib.Core.Path.{◌≡◌, sym, ◌∙◌}
use mathlib.Core.Bool.{Bool, true, false}
use mathlib.Core.List.{List}
use native.Mathlib.Omega.{arith}
use lib.Dec.{eqb}
use lib.ListN.{length, get_or}
use Rattle.wire.specs.Word.{word}
use Rattle.stackmap.specs.Layout.{location_size}
use Rattle.stackmap.specs.Fields.{many}
use Rattle.stackmap.specs.Section.{Location, read_location}
use Rattle.stackmap.proofs.Steps.{mul_step, many_step, fewer, next_place}
use Rattle.report.specs.declared.Kinds.{Kinds}
use Rattle.report.specs.Totals.{no_kinds, plus_kinds, one, of_kind, kinds_of}
use Rattle.report.specs.Bounds.{KindsMost}
use Rattle.report.proofs.Plus.{kinds-none, kinds-start, kinds_assoc, kinds-most}

-- the first byte of a location is its kind
kind-here : (old : Bool) (s : List ℕ) (p : ℕ) → (read_location old s p).kind ≡ get_or s p 0
unfolding read_location word
kind-here true s p = omega arith
kind-here false s p = omega arith

one-most : (b : Bool) → one b ≤ 1
one-most true = omega arith
one-most false = omega arith

one-kind : (k : ℕ) → KindsMost 1 (of_kind k)
unfolding of_kind
one-kind k = record { register = one-most (eqb k 1); direct = one-most (eqb k 2); indirect = one-most (eqb k 3); constant = one-most (eqb k 4); pool = one-most (eqb k 5) }

abbrev locations : Bool → ℕ → List ℕ → ℕ → List Location
locations old n s p = many (read_location old) (location_size old) n s p

-- So many locations are left, from p on, of those that are counted.
pub record Counting (old : Bool) (s : List ℕ) (count p left : ℕ) (kinds : Kinds) : Type 0 where
  pub all : kinds_of (locations old count s 16) ≡ plus_kinds kinds (kinds_of (locations old left s p))
  pub most : KindsMost (count - left) kinds
  pub inside : p + location_size old * left ≤ length s
  pub few : left ≤ count

no_kinds_lem : (n : ℕ) → KindsMost n no_kinds
no_kinds_lem n = record { register = omega arith; direct = omega arith; indirect = omega arith; constant = omega arith; pool = omega arith }

module _ (old : Bool) (s : List ℕ) (count : ℕ) where
  pub count-start : 16 + location_size old * count ≤ length s → Counting old s count 16 count no_kinds
  count-start h = record { all = sym (kinds-start _); most = no_kinds_lem _; inside = h; few = omega arith }

  pub count_on : (p left : ℕ) (kinds kinds' : Kinds) → Counting old s count p left kinds → 0 < left → kinds' ≡ plus_kinds kinds (of_kind (get_or s p 0))
      → Counting old s count (p + location_size old) (left - 1) kinds'
  unfolding kinds_of
  count_on p left kinds kinds' h l e =
      let n : count - (left - 1) ≡ count - left + 1 = omega (arith, h.few) in
      record {
        all = h.all ∙ rw (many_step (read_location old) (location_size old) left s p l, kind-here old s p, e) (sym (kinds_assoc _ _ _));
        most = rw (n, e) (kinds-most _ _ _ _ h.most (one-kind _));
        inside = let k = mul_step (location_size old) left l in omega (arith, h.inside);
        few = omega (arith, h.few);
      }

  -- the same for a loop that counts up: location number i of them
  pub count_turn : (i : ℕ) (kinds kinds' : Kinds) → Counting old s count (16 + location_size old * i) (count - i) kinds → i < count
      → kinds' ≡ plus_kinds kinds (of_kind (get_or s (16 + location_size old * i) 0))
      → Counting old s count (16 + location_size old * (i + 1)) (count - (i + 1)) kinds'
  count_turn i kinds kinds' h l e = rw (← next_place (location_size old) 16 i, ← fewer count i) (count_on _ _ kinds kinds' h (omega arith) e)

  pub count-end : (p left : ℕ) (kinds : Kinds) → Counting old s count p left kinds → left ≡ 0 → (kinds ≡ kinds_of (locations old count s 16)) × KindsMost count kinds
  unfolding kinds_of many
  count-end p left kinds h z =
      let n : count - 0 ≡ count = omega arith in
      (sym (rw (z, kinds-none) at h.all), rw (z, n) at h.most)
