-- What a low number tells of the locations whose words it has.
use Rattle.std.proofs.Common.{◌≡◌, ℕ, zero, suc, ◌+◌, ◌-◌, ◌*◌, ◌/◌, ◌%◌, ◌^◌, ◌<◌, ◌≤◌, Bool, true, false, List, get_or, refl, true≢false, arith}
use native.Mathlib.Decide.{dec_lt}
use lib.Bits.{bit_or, or_add_and, and_le_l, and_le_r, or_mod}
use Rattle.wire.specs.Word.{Bytes, word}
use Rattle.wire.proofs.Laws.{word-add, word_bound}
use Rattle.glance.specs.Look.{size, Right, Rights, Outs, less, width, Low, together, less_four}

-- Places: that of a location that is inside, and that of four.

pub inside : (old : Bool) (at i k n l : ℕ) → i + k ≤ n → at + size old * n ≤ l → at + size old * i + size old * k ≤ l
inside true at i k n l h e = omega arith
inside false at i k n l h e = omega arith

-- the eight bytes of a location are inside
pub eight : (old : Bool) (at i n l : ℕ) → i < n → at + size old * n ≤ l → at + size old * i + 8 ≤ l
eight true at i n l h e = omega arith
eight false at i n l h e = omega arith

pub least : (old : Bool) → 8 ≤ size old
least true = omega arith
least false = omega arith

pub most : (old : Bool) → size old ≤ 12
most true = omega arith
most false = omega arith

-- Bits: where numbers together are low, each of them is.

or_left : (x y : ℕ) → x ≤ bit_or x y
or_left x y = let a = or_add_and x y in let b = and_le_r x y in omega arith

or_right : (x y : ℕ) → y ≤ bit_or x y
or_right x y = let a = or_add_and x y in let b = and_le_l x y in omega arith

pub low-left : (old : Bool) (x y : ℕ) → Low old (bit_or x y) → Low old x
low-left true x y h =
    let e = or_mod x y 8 in
    let f = or_left (x % 2 ^ 8) (y % 2 ^ 8) in
    let j = h.low in
    record { high = λ q. absurd (true≢false q); low = omega arith }
low-left false x y h =
    let e = or_mod x y 16 in
    let f = or_left (x % 2 ^ 16) (y % 2 ^ 16) in
    let g = or_left x y in
    let i = h.high refl in
    let j = h.low in
    record { high = λ q. omega arith; low = omega arith }

pub low-right : (old : Bool) (x y : ℕ) → Low old (bit_or x y) → Low old y
low-right true x y h =
    let e = or_mod x y 8 in
    let f = or_right (x % 2 ^ 8) (y % 2 ^ 8) in
    let j = h.low in
    record { high = λ q. absurd (true≢false q); low = omega arith }
low-right false x y h =
    let e = or_mod x y 16 in
    let f = or_right (x % 2 ^ 16) (y % 2 ^ 16) in
    let g = or_right x y in
    let i = h.high refl in
    let j = h.low in
    record { high = λ q. omega arith; low = omega arith }

pub low-each : (old : Bool) (a b c d : ℕ) → Low old (together a b c d) → Low old a × Low old b × Low old c × Low old d
low-each old a b c d h =
    let l = low-left old (bit_or a b) (bit_or c d) h in
    let r = low-right old (bit_or a b) (bit_or c d) h in
    (low-left old a b l, low-right old a b l, low-left old c d r, low-right old c d r)

-- One location.

module _ (s : List ℕ) (at : ℕ) (b : Bytes s) where
  one_byte : less s at % 2 ^ 8 < 5 → word 1 s at ≡ less s at % 2 ^ 8 + 1
  one_byte h = omega (arith, word-add 1 7 s at, word_bound 1 s at b, word_bound 8 s at b)

  two_bytes : less s at % 2 ^ 16 < 5 → word 2 s at ≡ less s at % 2 ^ 16 + 1
  two_bytes h = omega (arith, word-add 2 6 s at, word_bound 2 s at b, word_bound 8 s at b)

  last_two : less s at % 2 ^ 16 < 5 → less s at < 2 ^ 48 → word 2 s (at + 6) ≡ 0
  last_two h k = omega (arith, word-add 6 2 s at, word_bound 6 s at b, word_bound 8 s at b)

  -- a kind of 1 to 5, which is one more than what is left of it here
  of_kind_lem : (old : Bool) (limit : ℕ) → less s at % width old < 5 → (old ≡ false → less s at < 2 ^ 48)
      → (less s at % width old ≡ 4 → word 4 s (at + size old - 4) < limit) → Right old s limit at
  of_kind_lem true limit h k p =
      let e = one_byte h in
      record { least = omega arith; most = omega arith; zeros = λ q. absurd (true≢false q); pool = λ q. p (omega arith) }
  of_kind_lem false limit h k p =
      let e = two_bytes h in
      record { least = omega arith; most = omega arith; zeros = λ q. last_two h (k refl); pool = λ q. p (omega arith) }

  pub of_low : (old : Bool) → Low old (less s at) → (limit : ℕ) → Right old s limit at
  of_low true l limit = let j = l.low in of_kind_lem true limit (omega arith) (λ q. absurd (true≢false q)) (λ q. absurd (omega arith))
  of_low false l limit = let j = l.low in of_kind_lem false limit (omega arith) l.high (λ q. absurd (omega arith))

  -- a ConstIndex
  pub of_index : (old : Bool) (limit : ℕ) → less s at % 256 ≡ 4 → word 4 s (at + size old - 4) < limit → Low old (less s at - 1) → Right old s limit at
  of_index true limit e p l = of_kind_lem true limit (omega arith) (λ q. absurd (true≢false q)) (λ q. p)
  of_index false limit e p l =
      let i = l.high refl in
      let j = l.low in
      of_kind_lem false limit (omega arith) (λ q. omega arith) (λ q. p)

-- Many locations.

alone_each : (old : Bool) (s : List ℕ) (limit at : ℕ) → Right old s limit at → (i : ℕ) → i < 1 → Right old s limit (at + size old * i)
alone_each old s limit at r zero h = let e : at + size old * 0 ≡ at = omega arith in rw e r
alone_each old s limit at r (suc i) h = absurd (omega arith)

alone : (old : Bool) (s : List ℕ) (limit at : ℕ) → Right old s limit at → Rights old s limit at 1
alone old s limit at r = record { each = alone_each old s limit at r }

module _ (old : Bool) (s : List ℕ) (limit at : ℕ) where
  pub none : Rights old s limit at 0
  none = record { each = λ i h. absurd (omega arith) }

  -- some from the first on, and some that begin among them or right after
  pub join : (a b m : ℕ) → b ≤ a → Rights old s limit at a → Rights old s limit (at + size old * b) m → Rights old s limit at (b + m)
  join a b m h x y = record { each = λ i k. go i k (dec_lt i a) }
    where
      go : (i : ℕ) → i < b + m → Dec (i < a) → Right old s limit (at + size old * i)
      go i k (yes l) = x.each i l
      go i k (no l) =
          let g : a ≤ i = omega arith in
          let e : b + (i - b) ≡ i = omega arith in
          let p : at + size old * b + size old * (i - b) ≡ at + size old * (b + (i - b)) = omega arith in
          let q : at + size old * b + size old * (i - b) ≡ at + size old * i = rw e at p in
          rw q at (y.each (i - b) (omega arith))

  pub more : (n : ℕ) → Rights old s limit at n → Right old s limit (at + size old * n) → Rights old s limit at (n + 1)
  more n x r = join n n 1 (omega arith) x (alone old s limit (at + size old * n) r)

  four_each : Right old s limit at → Right old s limit (at + size old * 1) → Right old s limit (at + size old * 2) → Right old s limit (at + size old * 3)
      → (i : ℕ) → i < 4 → Right old s limit (at + size old * i)
  four_each a b c d zero h = let e : at + size old * 0 ≡ at = omega arith in rw e a
  four_each a b c d (suc zero) h = b
  four_each a b c d (suc (suc zero)) h = c
  four_each a b c d (suc (suc (suc zero))) h = d
  four_each a b c d (suc (suc (suc (suc i)))) h = absurd (omega arith)

  pub four : Right old s limit at → Right old s limit (at + size old * 1) → Right old s limit (at + size old * 2) → Right old s limit (at + size old * 3)
      → Rights old s limit at 4
  four a b c d = record { each = four_each a b c d }

  -- one to three: the first, the middle and the last
  pub three_cover : (n : ℕ) → 0 < n → n < 4 → Right old s limit at → Right old s limit (at + size old * (n / 2)) → Right old s limit (at + size old * (n - 1))
      → Rights old s limit at n
  three_cover zero h k x y z = absurd (omega arith)
  three_cover (suc zero) h k x y z = alone old s limit at x
  three_cover (suc (suc zero)) h k x y z = more 1 (alone old s limit at x) z
  three_cover (suc (suc (suc zero))) h k x y z = more 2 (more 1 (alone old s limit at x) y) z
  three_cover (suc (suc (suc (suc n)))) h k x y z = absurd (omega arith)

  -- three to fifteen, by threes
  pub cover_threes : (n : ℕ) → 3 ≤ n → n ≤ 15 → Rights old s limit at 3 → Rights old s limit (at + size old * (3 - (6 - n))) 3
      → Rights old s limit (at + size old * (6 - (9 - n))) 3 → Rights old s limit (at + size old * (n - 6)) 3 → Rights old s limit (at + size old * (n - 3)) 3
      → Rights old s limit at n
  cover_threes n h k v w x y z =
      let e : n - 3 + 3 ≡ n = omega arith in
      let vw = join 3 (3 - (6 - n)) 3 (omega arith) v w in
      let vwx = join (3 - (6 - n) + 3) (6 - (9 - n)) 3 (omega arith) vw x in
      let vwxy = join (6 - (9 - n) + 3) (n - 6) 3 (omega arith) vwx y in
      rw e at (join (n - 6 + 3) (n - 3) 3 (omega arith) vwxy z)

  -- four to sixteen, by fours
  pub cover : (n : ℕ) → 4 ≤ n → n ≤ 16 → Rights old s limit at 4 → Rights old s limit (at + size old * (4 - (8 - n))) 4
      → Rights old s limit (at + size old * (n - 8)) 4 → Rights old s limit (at + size old * (n - 4)) 4 → Rights old s limit at n
  cover n h k x y z w =
      let e : n - 4 + 4 ≡ n = omega arith in
      let xy = join 4 (4 - (8 - n)) 4 (omega arith) x y in
      let xyz = join (4 - (8 - n) + 4) (n - 8) 4 (omega arith) xy z in
      rw e at (join (n - 8 + 4) (n - 4) 4 (omega arith) xyz w)

pub low_three : (old : Bool) (s : List ℕ) (at : ℕ) → Bytes s → Low old (bit_or (bit_or (less s at) (less s (at + size old * 1))) (less s (at + size old * 2)))
    → (limit : ℕ) → Rights old s limit at 3
low_three old s at b h limit =
    let l = low-left old (bit_or (less s at) (less s (at + size old * 1))) (less s (at + size old * 2)) h in
    three_cover old s limit at 3 (omega arith) (omega arith) (of_low s at b old (low-left old (less s at) (less s (at + size old * 1)) l) limit)
    (of_low s (at + size old * 1) b old (low-right old (less s at) (less s (at + size old * 1)) l) limit)
    (of_low s (at + size old * 2) b old (low-right old (bit_or (less s at) (less s (at + size old * 1))) (less s (at + size old * 2)) h) limit)

pub low_four : (old : Bool) (s : List ℕ) (at : ℕ) → Bytes s → Low old (less_four old s at) → (limit : ℕ) → Rights old s limit at 4
low_four old s at b h limit =
    let l = low-each old (less s at) (less s (at + size old * 1)) (less s (at + size old * 2)) (less s (at + size old * 3)) h in
    four old s limit at (of_low s at b old l.0 limit) (of_low s (at + size old * 1) b old l.1 limit)
    (of_low s (at + size old * 2) b old l.2 limit) (of_low s (at + size old * 3) b old l.3 limit)

-- Live-outs.

pub outs-none : (s : List ℕ) (at : ℕ) → Outs s at 0
outs-none s at = record { each = λ i h. absurd (omega arith) }

pub outs-more : (s : List ℕ) (at n : ℕ) → Outs s at n → get_or s (at + 4 * n + 2) 0 ≡ 0 → Outs s at (n + 1)
outs-more s at n x z = record { each = λ i h. go i h (dec_lt i n) }
  where
    go : (i : ℕ) → i < n + 1 → Dec (i < n) → get_or s (at + 4 * i + 2) 0 ≡ 0
    go i h (yes l) = x.each i l
    go i h (no l) = let e : i ≡ n = omega arith in rw e z

-- What four looks at four tell together.

pub covered : (old : Bool) (s : List ℕ) (limit at n a b c d : ℕ) → 4 ≤ n → n ≤ 16 → Low old (together a b c d)
    → (Low old a → Rights old s limit at 4) → (Low old b → Rights old s limit (at + size old * (4 - (8 - n))) 4)
    → (Low old c → Rights old s limit (at + size old * (n - 8)) 4) → (Low old d → Rights old s limit (at + size old * (n - 4)) 4)
    → Rights old s limit at n
covered old s limit at n a b c d h k l x y z w =
    let each = low-each old a b c d l in
    cover old s limit at n h k (x each.0) (y each.1) (z each.2) (w each.3)

-- What five looks at three tell together.

pub covered_by_threes : (old : Bool) (s : List ℕ) (limit at n a b c d e : ℕ) → 3 ≤ n → n ≤ 15 → Low old (bit_or (together a b c d) e)
    → (Low old a → Rights old s limit at 3) → (Low old b → Rights old s limit (at + size old * (3 - (6 - n))) 3)
    → (Low old c → Rights old s limit (at + size old * (6 - (9 - n))) 3) → (Low old d → Rights old s limit (at + size old * (n - 6)) 3)
    → (Low old e → Rights old s limit (at + size old * (n - 3)) 3) → Rights old s limit at n
covered_by_threes old s limit at n a b c d e h k l v w x y z =
    let each = low-each old a b c d (low-left old (together a b c d) e l) in
    cover_threes old s limit at n h k (v each.0) (w each.1) (x each.2) (y each.3) (z (low-right old (together a b c d) e l))

-- Up to eight zero bytes together.

pub or_none : (x y : ℕ) → bit_or x y ≡ 0 → (x ≡ 0) × (y ≡ 0)
or_none x y h = let a = or_left x y in let b = or_right x y in (omega arith, omega arith)

pub eight_none : (a b c d e f g h : ℕ) → bit_or (bit_or (bit_or a b) (bit_or c d)) (bit_or (bit_or e f) (bit_or g h)) ≡ 0
    → (a ≡ 0) × (b ≡ 0) × (c ≡ 0) × (d ≡ 0) × (e ≡ 0) × (f ≡ 0) × (g ≡ 0) × (h ≡ 0)
eight_none a b c d e f g h k =
    let x = or_none _ _ k in
    let y = or_none _ _ x.0 in
    let z = or_none _ _ x.1 in
    let ab = or_none a b y.0 in
    let cd = or_none c d y.1 in
    let ef = or_none e f z.0 in
    let gh = or_none g h z.1 in
    (ab.0, ab.1, cd.0, cd.1, ef.0, ef.1, gh.0, gh.1)

pub eight_each : (s : List ℕ) (at last : ℕ) → last < 8 → (0 ≤ last → get_or s (at + 4 * 0 + 2) 0 ≡ 0) → (1 ≤ last → get_or s (at + 4 * 1 + 2) 0 ≡ 0)
    → (2 ≤ last → get_or s (at + 4 * 2 + 2) 0 ≡ 0) → (3 ≤ last → get_or s (at + 4 * 3 + 2) 0 ≡ 0) → (4 ≤ last → get_or s (at + 4 * 4 + 2) 0 ≡ 0)
    → (5 ≤ last → get_or s (at + 4 * 5 + 2) 0 ≡ 0) → (6 ≤ last → get_or s (at + 4 * 6 + 2) 0 ≡ 0) → (7 ≤ last → get_or s (at + 4 * 7 + 2) 0 ≡ 0)
    → Outs s at (last + 1)
eight_each s at last m x₀ x₁ x₂ x₃ x₄ x₅ x₆ x₇ = record { each = go }
  where
    go : (i : ℕ) → i < last + 1 → get_or s (at + 4 * i + 2) 0 ≡ 0
    go zero h = x₀ (omega arith)
    go (suc zero) h = x₁ (omega arith)
    go (suc (suc zero)) h = x₂ (omega arith)
    go (suc (suc (suc zero))) h = x₃ (omega arith)
    go (suc (suc (suc (suc zero)))) h = x₄ (omega arith)
    go (suc (suc (suc (suc (suc zero))))) h = x₅ (omega arith)
    go (suc (suc (suc (suc (suc (suc zero)))))) h = x₆ (omega arith)
    go (suc (suc (suc (suc (suc (suc (suc zero))))))) h = x₇ (omega arith)
    go (suc (suc (suc (suc (suc (suc (suc (suc i)))))))) h = absurd (omega arith)
