-- What is read at a place, written again, is what stands there: for a number, a padding, each item, and an array of items.
use Prim.Native.Nat.{ℕ, zero, suc, ◌+◌, ◌*◌, ◌≤◌, ◌<◌}
use mathlib.Core.Path.{◌≡◌, refl, ap}
use mathlib.Core.Bool.{true}
use mathlib.Core.List.{List, ◌++◌, append_assoc}
use native.Mathlib.Omega.{arith}
use borrow.Author.Tests.{ltb-true}
use lib.Dec.{ltb}
use lib.ListN.{length, get_or, drop}
use Rattle.wire.specs.Word.{Bytes, word, bytes}
use Rattle.wire.proofs.Laws.{word_reads}
use Rattle.flat.specs.Places.{clear}
use Rattle.flat_check.proofs.Accept.{along-told}
use Rattle.flat_data.specs.Data.{read_constant, read_frame, read_register, read_record}
use Rattle.flat_data.specs.Data.{read_location, read_live_out, many, constant_bytes, frame_bytes, register_bytes, record_bytes}
use Rattle.flat_data.specs.Data.{location_bytes, live_out_bytes, all}

module _ (s : List ℕ) (w : Bytes s) where
  -- a number of n bytes from a, up to b
  pub front : (n a b : ℕ) → b ≡ a + n → b ≤ length s → bytes n (word n s a) ++ drop b s ≡ drop a s
  front n a b e l = rw e (word_reads n s a w (omega arith))

  -- n zero bytes
  pub zero_front : (n a b : ℕ) → word n s a ≡ 0 → b ≡ a + n → b ≤ length s → bytes n 0 ++ drop b s ≡ drop a s
  zero_front n a b z e l = rw z at (front n a b e l)

  zero_word : (n a : ℕ) → ((i : ℕ) → i < n → get_or s (a + i) 0 ≡ 0) → word n s a ≡ 0
  unfolding word
  zero_word zero a h = refl
  zero_word (suc n) a h =
      let f : get_or s (a + 0) 0 ≡ 0 = h 0 (omega arith) in
      let z : a + 0 ≡ a = omega arith in
      let g : get_or s a 0 ≡ 0 = rw z at f in
      let r : word n s (a + 1) ≡ 0 = zero_word n (a + 1) (λ i l. let p : a + suc i ≡ a + 1 + i = omega arith in rw p at (h (suc i) (omega arith))) in
      omega arith

  -- a byte below 1, at a step
  byte_zero : (at step n : ℕ) → clear s 1 at step n ≡ true → (i : ℕ) → i < n → get_or s (at + step * i) 0 ≡ 0
  byte_zero at step n h i l =
      let g : get_or s (at + step * i) 0 < 1 = ltb-true _ _ (along-told (λ p. ltb (get_or s p 0) 1) at step n h i l) in
      omega arith

  -- padding that is clear
  pub padding : (at n : ℕ) → clear s 1 at 1 n ≡ true → word n s at ≡ 0
  padding at n h =
      zero_word n at (λ i l. let p : at + 1 * i ≡ at + i = omega arith in rw p at (byte_zero at 1 n h i l))

  -- a reserved byte of item i
  pub reserved : (at step n : ℕ) → clear s 1 at step n ≡ true → (i : ℕ) → i < n → word 1 s (at + step * i) ≡ 0
  unfolding word
  reserved at step n h i l = let g = byte_zero at step n h i l in omega arith

  -- The items.

  pub constant_front : (a : ℕ) → a + 8 ≤ length s → constant_bytes (read_constant s a) ++ drop (a + 8) s ≡ drop a s
  unfolding constant_bytes read_constant
  constant_front a l = front 8 a (a + 8) (omega arith) l

  pub frame_front : (a : ℕ) → a + 28 ≤ length s → frame_bytes (read_frame s a) ++ drop (a + 28) s ≡ drop a s
  unfolding frame_bytes read_frame
  frame_front a l =
      simp append_assoc
      (rw (
        front 2 (a + 26) (a + 28) (omega arith) l,
        front 2 (a + 24) (a + 26) (omega arith) (omega arith),
        front 2 (a + 22) (a + 24) (omega arith) (omega arith),
        front 2 (a + 20) (a + 22) (omega arith) (omega arith),
        front 2 (a + 18) (a + 20) (omega arith) (omega arith),
        front 2 (a + 16) (a + 18) (omega arith) (omega arith),
        front 4 (a + 12) (a + 16) (omega arith) (omega arith),
        front 4 (a + 8) (a + 12) (omega arith) (omega arith),
        front 8 a (a + 8) (omega arith) (omega arith),
      ))

  pub register_front : (a : ℕ) → a + 6 ≤ length s → register_bytes (read_register s a) ++ drop (a + 6) s ≡ drop a s
  unfolding register_bytes read_register
  register_front a l =
      simp append_assoc
      (rw (
        front 1 (a + 5) (a + 6) (omega arith) l,
        front 1 (a + 4) (a + 5) (omega arith) (omega arith),
        front 2 (a + 2) (a + 4) (omega arith) (omega arith),
        front 2 a (a + 2) (omega arith) (omega arith),
      ))

  pub record_front : (a : ℕ) → a + 22 ≤ length s → record_bytes (read_record s a) ++ drop (a + 22) s ≡ drop a s
  unfolding record_bytes read_record
  record_front a l =
      simp append_assoc
      (rw (
        front 2 (a + 20) (a + 22) (omega arith) l,
        front 2 (a + 18) (a + 20) (omega arith) (omega arith),
        front 2 (a + 16) (a + 18) (omega arith) (omega arith),
        front 2 (a + 14) (a + 16) (omega arith) (omega arith),
        front 1 (a + 13) (a + 14) (omega arith) (omega arith),
        front 1 (a + 12) (a + 13) (omega arith) (omega arith),
        front 4 (a + 8) (a + 12) (omega arith) (omega arith),
        front 8 a (a + 8) (omega arith) (omega arith),
      ))

  pub location_front : (a : ℕ) → word 1 s (a + 1) ≡ 0 → a + 8 ≤ length s → location_bytes (read_location s a) ++ drop (a + 8) s ≡ drop a s
  unfolding location_bytes read_location
  location_front a z l =
      simp append_assoc
      (rw (
        front 4 (a + 4) (a + 8) (omega arith) l,
        front 2 (a + 2) (a + 4) (omega arith) (omega arith),
        zero_front 1 (a + 1) (a + 2) z (omega arith) (omega arith),
        front 1 a (a + 1) (omega arith) (omega arith),
      ))

  pub live_out_front : (a : ℕ) → word 1 s (a + 2) ≡ 0 → a + 4 ≤ length s → live_out_bytes (read_live_out s a) ++ drop (a + 4) s ≡ drop a s
  unfolding live_out_bytes read_live_out
  live_out_front a z l =
      simp append_assoc
      (rw (
        front 1 (a + 3) (a + 4) (omega arith) l,
        zero_front 1 (a + 2) (a + 3) z (omega arith) (omega arith),
        front 2 a (a + 2) (omega arith) (omega arith),
      ))

  -- An array of n items, each of which is written again.

  pub all_front : {A : Type 0} (read : List ℕ → ℕ → A) (show : A → List ℕ) (size n at stop : ℕ) → stop ≡ at + size * n → stop ≤ length s
      → ((i : ℕ) → i < n → at + size * i + size ≤ length s → show (read s (at + size * i)) ++ drop (at + size * i + size) s ≡ drop (at + size * i) s)
      → all show (many read size n s at) ++ drop stop s ≡ drop at s
  unfolding all many
  all_front read show size zero at stop e l h =
      let p : stop ≡ at = omega arith in
      rw p
  all_front read show size (suc n) at stop e l h =
      let z : at + size * 0 ≡ at = omega arith in
      let f = rw z at (h 0 (omega arith)) in
      let rest : all show (many read size n s (at + size)) ++ drop stop s ≡ drop (at + size) s =
      all_front read show size n (at + size) stop (omega arith) l (λ i m. let p : at + size * suc i ≡ at + size + size * i = omega arith in rw p at (h (suc i) (omega arith))) in
      rw (append_assoc, rest) (f (omega arith))

pub length-many : {A : Type 0} (read : List ℕ → ℕ → A) (size n : ℕ) (s : List ℕ) (at : ℕ) → length (many read size n s at) ≡ n
unfolding many
length-many read size zero s at = refl
length-many read size (suc n) s at = ap suc (length-many read size n s (at + size))
