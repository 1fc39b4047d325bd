-- Numbers in the slots of a list of bytes: by the bytes that stand there, in a part, and in two lists that agree.
use Prim.Native.Nat.{ℕ, zero, suc, ◌+◌, ◌-◌, ◌/◌, ◌%◌, ◌^◌, ◌≤◌, ◌<◌}
use mathlib.Core.Path.{◌≡◌, refl, sym, ap, ◌∙◌}
use mathlib.Core.List.{List}
use native.Mathlib.Omega.{arith}
use native.Mathlib.Nat.{pow-suc, one-le-pow, mod-one, add_assoc}
use lib.Arith.{mod-mul}
use lib.ListN.{get_or}
use Rattle.wire.specs.Word.{word, bytes}
use Rattle.moves.specs.Window.{In, part}
use Rattle.moves.specs.Slots.{Slot, memory, register, read, state}
use Rattle.moves.proofs.Splice.{part_at}
use Rattle.moves.proofs.Cells.{SlotIn}

-- k bytes that are those of v are v modulo 256 ^ k
word-from : (k : ℕ) (w : List ℕ) (s v : ℕ) → ((j : ℕ) → j < k → get_or w (s + j) 0 ≡ get_or (bytes k v) j 0) → word k w s ≡ v % 256 ^ k
unfolding word bytes
word-from zero w s v h = sym (mod-one v)
word-from (suc k) w s v h =
    let a : get_or w s 0 ≡ v % 256 = ap (λ (i : ℕ). get_or w i 0) (omega arith) ∙ h 0 (omega arith) in
    let b : word k w (s + 1) ≡ v / 256 % 256 ^ k =
    word-from k w (s + 1) (v / 256) (λ j q. ap (λ (i : ℕ). get_or w i 0) (omega arith) ∙ h (suc j) (omega arith)) in
    rw (a, b, pow-suc 256 k, mod-mul v {m = 256 ^ k} {c = 256} (one-le-pow k 256 (omega arith)) (omega arith)) (omega arith)

pub word_of : (k : ℕ) (w : List ℕ) (s v : ℕ) → ((i : ℕ) → In s k i → get_or w i 0 ≡ get_or (bytes k v) (i - s) 0) → word k w s ≡ v % 256 ^ k
word_of k w s v h = word-from k w s v (λ j q.
    let e : s + j - s ≡ j = omega arith in
    h (s + j) (record { low = omega arith; high = omega arith }) ∙ ap (λ (k₁ : ℕ). get_or (bytes k v) k₁ 0) e)

-- lists that agree on a slot have one number there
pub word_local : (k : ℕ) (w v : List ℕ) (s : ℕ) → ((i : ℕ) → In s k i → get_or w i 0 ≡ get_or v i 0) → word k w s ≡ word k v s
unfolding word
word_local zero w v s h = refl
word_local (suc k) w v s h =
    rw (
      h s (record { low = omega arith; high = omega arith }),
      word_local k w v (s + 1) (λ i q. h i (record { low = omega arith; high = omega arith })),
    )

-- a number in a part of an image is one of the image
pub word-part : (k : ℕ) (im : List ℕ) (off n a : ℕ) → a + k ≤ n → word k (part im off n) a ≡ word k im (off + a)
unfolding word
word-part zero im off n a h = refl
word-part (suc k) im off n a h =
    rw (part_at im off n a (omega arith), word-part k im off n (a + 1) (omega arith), ← add_assoc off a 1)

-- a slot of a window that begins at `off`, as one of the whole image
abbrev pub from_image : ℕ → Slot → Slot
from_image off (memory x) = memory (off + x)
from_image off (register r) = register r

pub read-part : (im rs : List ℕ) (off n m : ℕ) (s : Slot) → SlotIn n m s → read (state (part im off n) rs) s ≡ read (state im rs) (from_image off s)
read-part im rs off n m (memory x) h = word-part 8 im off n x h
read-part im rs off n m (register r) h = refl

-- derived minus base, modulo 2^64, is kept where both move by the same distance
pub kept : (D B N : ℕ) → B ≤ 2 ^ 64 → ((D + N + (2 ^ 64 - B)) % 2 ^ 64 + (2 ^ 64 - (B + N + (2 ^ 64 - B)) % 2 ^ 64)) % 2 ^ 64 ≡ (D + (2 ^ 64 - B)) % 2 ^ 64
kept D B N h = omega arith
