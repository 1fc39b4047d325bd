-- What stands in a section and in a record, by its number.
use Prim.Native.Nat.{ℕ, zero, suc, ◌+◌, ◌*◌, ◌≤◌, ◌<◌}
use mathlib.Core.Path.{◌≡◌, refl}
use mathlib.Core.Bool.{Bool, true, false}
use mathlib.Core.Option.{none, some}
use mathlib.Core.List.{List, [], ◌∷◌}
use native.Mathlib.Omega.{arith}
use native.Mathlib.Nat.{mul-suc}
use lib.ListN.{length, get_or, get_elem?}
use Rattle.wire.specs.Word.{word}
use Rattle.stackmap.specs.Layout.{function_size, location_size}
use Rattle.stackmap.specs.Fields.{many}
use Rattle.stackmap.specs.Section.{num_functions, is_old, read_function, read_functions, read_section, no_function, read_location, read_live_out, num_locations, num_live_outs, live_outs_at, read_record}
use Rattle.stackmap.specs.Walk.{function_at, function_number}
use Rattle.stackmap.proofs.Fields.{length-many}

-- the j-th of n items of one size
pub many-some : {A : Type 0} (read : List ℕ → ℕ → A) (step n : ℕ) (s : List ℕ) (at j : ℕ) → j < n
    → get_elem? (many read step n s at) j ≡ some (read s (at + step * j))
unfolding many
many-some read step zero s at j h = absurd (omega arith)
many-some read step (suc n) s at zero h = let z : at + step * 0 ≡ at = omega arith in rw z
many-some read step (suc n) s at (suc j) h =
    let m = mul-suc step j in
    let e : at + step * suc j ≡ at + step + step * j = omega arith in
    rw e (many-some read step n s (at + step) j (omega arith))

pub many-none : {A : Type 0} (read : List ℕ → ℕ → A) (step n : ℕ) (s : List ℕ) (at j : ℕ) → n ≤ j → get_elem? (many read step n s at) j ≡ none
unfolding many
many-none read step zero s at j h = refl
many-none read step (suc n) s at zero h = absurd (omega arith)
many-none read step (suc n) s at (suc j) h = many-none read step n s (at + step) j (omega arith)

-- an element by its number, or else d
pub get_d_some : {A : Type 0} (d : A) (xs : List A) (j : ℕ) (v : A) → get_elem? xs j ≡ some v → get_or xs j d ≡ v
get_d_some d [] j v h = absurd (let z : ◌≡◌ {A = ℕ} 0 1 = cc in omega arith)
get_d_some d (x ∷ xs) zero v h = cc
get_d_some d (x ∷ xs) (suc j) v h = get_d_some d xs j v h

pub get_elem_some : {A : Type 0} (d : A) (xs : List A) (j : ℕ) → j < length xs → get_elem? xs j ≡ some (get_or xs j d)
get_elem_some d [] j h = absurd (omega arith)
get_elem_some d (x ∷ xs) zero h = refl
get_elem_some d (x ∷ xs) (suc j) h = get_elem_some d xs j (omega arith)

-- the functions of a section

module _ (s : List ℕ) (i : ℕ) where
  pub function-there : i < num_functions s → get_elem? (read_section s).functions i ≡ some (read_function (is_old s) s (function_at (is_old s) i))
  unfolding read_section read_functions
  function-there h = many-some (read_function (is_old s)) (function_size (is_old s)) (num_functions s) s 16 i h

  pub function-absent : num_functions s ≤ i → get_elem? (read_section s).functions i ≡ none
  unfolding read_section read_functions
  function-absent h = many-none (read_function (is_old s)) (function_size (is_old s)) (num_functions s) s 16 i h

  pub function-number : i < num_functions s → function_number s i ≡ read_function (is_old s) s (function_at (is_old s) i)
  unfolding function_number
  function-number h = get_d_some no_function (read_section s).functions i _ (function-there h)

stack_size-read : (old : Bool) (s : List ℕ) (at : ℕ) → (read_function old s at).stack_size ≡ word 8 s (at + 8)
unfolding read_function
stack_size-read true s at = refl
stack_size-read false s at = refl

pub function-size : (s : List ℕ) (i : ℕ) → i < num_functions s → (function_number s i).stack_size ≡ word 8 s (function_at (is_old s) i + 8)
function-size s i h = rw (function-number s i h) (stack_size-read (is_old s) s (function_at (is_old s) i))

-- function number i of n, up to the end of its stack size
pub function_in : (old : Bool) (i n : ℕ) → i < n → function_size old * i + 16 ≤ function_size old * n
function_in true i n h = omega arith
function_in false i n h = omega arith

-- how many locations and live-outs a record has

module _ (old : Bool) (s : List ℕ) where
  pub count-locations : length (read_record old s).locations ≡ num_locations s
  unfolding read_record
  count-locations = length-many (read_location old) (location_size old) (num_locations s) s 16

  pub count-live_outs : length (read_record old s).live_outs ≡ num_live_outs old s
  unfolding read_record
  count-live_outs = length-many read_live_out 4 (num_live_outs old s) s (live_outs_at old s)
