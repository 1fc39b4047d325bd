-- A question that is refused, that asks for what is not there, and that is answered.
use Prim.Native.Nat.{ℕ, ◌+◌, ◌*◌, ◌≤◌, ◌<◌}
use mathlib.Core.Path.{◌≡◌, refl, sym, ◌∙◌}
use mathlib.Core.List.{List}
use native.Mathlib.Omega.{arith}
use borrow.Author.Tests.{lt-ltb, le-ltb}
use native.Mathlib.Decide.{ℕ_discrete}
use native.Mathlib.Nat.{mul-le-mul_left, mul-suc}
use lib.ListN.{length, get_or}
use Rattle.wire.specs.Word.{word}
use Rattle.flat_check.specs.Check.{flat_check, Accepted}
use Rattle.flat_check.proofs.Accept.{accepted_arranged}
use Rattle.flat_check.proofs.Chain.{ask-refused, ask-accepted}
use Rattle.flat_read.specs.Read.{asked}
use Rattle.flat_read.specs.Code.{count_of, start_of, size_of, missing_of, Missed}
use Rattle.flat_read.specs.declared.Array.{Array}
use Rattle.flat_read.specs.declared.Array.TheVariants.{Constants, Frames, Registers, Records, Locations, LiveOuts}

module _ {A : Type 0} (s : List ℕ) (refused : ℕ → A) (missing n : ℕ) (item : A) (k r : ℕ) (e : r ≡ flat_check s) where
  pub asked-refused : (r ≡ 0 → ⊥) → refused r ≡ asked s refused missing n item k
  unfolding asked
  asked-refused h = ask-refused refused _ r (flat_check s) e h

  pub asked_missing : r ≡ 0 → n ≤ k → refused missing ≡ asked s refused missing n item k
  unfolding asked
  asked_missing h l = rw (le-ltb k n l) (ask-accepted refused (refused missing) r (flat_check s) e h)

  pub asked-there : r ≡ 0 → k < n → item ≡ asked s refused missing n item k
  unfolding asked
  asked-there h l = rw (lt-ltb k n l) (ask-accepted refused item r (flat_check s) e h)

-- an array is inside
array-inside : (a : Array) (s : List ℕ) → Accepted s → start_of a s + size_of a * count_of a s ≤ length s
array-inside Constants s h = let r = accepted_arranged s h in omega arith
array-inside Frames s h = let r = accepted_arranged s h in omega arith
array-inside Registers s h = let r = accepted_arranged s h in omega arith
array-inside Records s h = let r = accepted_arranged s h in omega arith
array-inside Locations s h = let r = accepted_arranged s h in omega arith
array-inside LiveOuts s h = let r = accepted_arranged s h in omega arith

-- so is each of its items
pub item_inside : (a : Array) (s : List ℕ) (k : ℕ) → Accepted s → k < count_of a s → start_of a s + size_of a * k + size_of a ≤ length s
item_inside a s k h l = let i = array-inside a s h in omega (arith, mul-le-mul_left (size_of a) l, mul-suc (size_of a) k)

pub asked-missed : {A : Type 0} (a : Array) (s : List ℕ) (k n : ℕ) (refused : ℕ → A) (item : A) → Missed a s k n
    → refused n ≡ asked s refused (missing_of a) (count_of a s) item k
asked-missed a s k n refused item m = go (ℕ_discrete (flat_check s) 0)
  where
    go : Dec (flat_check s ≡ 0) → refused n ≡ asked s refused (missing_of a) (count_of a s) item k
    go (yes e) = let (l, q) = m.then e in rw q (asked_missing s refused (missing_of a) (count_of a s) item k 0 (sym e) refl l)
    go (no f) = asked-refused s refused (missing_of a) (count_of a s) item k n (m.first f) (λ z. f (sym (m.first f) ∙ z))

-- a byte as a number of one byte
pub byte_word : (s : List ℕ) (p : ℕ) → word 1 s p ≡ get_or s p 0
unfolding word
byte_word s p = omega arith
