-- Fields put one after the other into an output.
use Prim.Native.Nat.{ℕ, zero, suc, ◌+◌, ◌*◌, ◌%◌, ◌-◌, ◌≤◌, ◌<◌, ◌^◌}
use mathlib.Core.Path.{◌≡◌, refl, sym, ◌∙◌}
use mathlib.Core.Bool.{true, false}
use mathlib.Core.List.{List, [], ◌∷◌, ◌++◌, append_assoc}
use native.Mathlib.Omega.{arith}
use native.Mathlib.Nat.{add-zero, add_assoc, mul-le-mul_left}
use lib.ListN.{length, get_or, set, replicate, take, drop, length-drop}
use lib.Seq.{sets, length-sets}
use Rattle.std.proofs.lemmas.List.Edits.{sets-eq, paste_all}
use Rattle.std.proofs.lemmas.Slice.{put_mid-paste}
use Rattle.std.proofs.Common.{length-take-le}
use borrow.Rule.Slice.PartMut.{put_mid}
use Rattle.wire.specs.Word.{Bytes, word, bytes}
use Rattle.wire.proofs.Laws.{word-add, word_bound, bytes_split, length-bytes, sets-append}
use Rattle.stackmap.specs.Fields.{Field, ◌of◌, bytes_of, size, all, many}
use Rattle.stackmap.specs.Section.{function_fields, constant_fields, location_fields, live_out_fields}
use Rattle.stackmap.proofs.Fields.{length-bytes_of, bytes_of-append}
use Rattle.stackmap.proofs.Items.{byte_word}
use Rattle.stackmap.proofs.Steps.{many_step}
use Rattle.builder_items.specs.Run.{fields_of}
use Rattle.listing.specs.Listing.{listed_function, listed_constant, listed_location, listed_live_out}

-- Fields.

-- some fields and then others
pub then_put : (fs gs : List Field) (out : List ℕ) (t p : ℕ) → p ≡ t + size fs → sets (sets out t (bytes_of fs)) p (bytes_of gs) ≡ sets out t (bytes_of (fs ++ gs))
then_put fs gs out t p e = rw (bytes_of-append, sets-append, length-bytes_of, e)

-- fields put from the place a + o on, one by one
abbrev pub puts : List ℕ → ℕ → ℕ → List Field → List ℕ
puts out a o [] = out
puts out a o (f ∷ fs) = puts (sets out (a + o) (bytes f.width f.value)) a (o + f.width) fs

puts-from : (fs : List Field) (out : List ℕ) (a o : ℕ) → puts out a o fs ≡ sets out (a + o) (bytes_of fs)
unfolding bytes_of
puts-from [] out a o = refl
puts-from (f ∷ fs) out a o =
    rw (puts-from fs (sets out (a + o) (bytes f.width f.value)) a (o + f.width), ← add_assoc, sets-append, length-bytes)

pub puts-all : (fs : List Field) (out : List ℕ) (a : ℕ) → puts out a 0 fs ≡ sets out a (bytes_of fs)
puts-all fs out a = rw add-zero at (puts-from fs out a 0)

-- Bytes.

pub zero_bytes : (n : ℕ) → bytes n 0 ≡ replicate n 0
unfolding bytes
zero_bytes zero = refl
zero_bytes (suc n) = rw (zero_bytes n)

-- after a write to `out[a..e]`, whose part holds ys now
pub part-sets : (a e : ℕ) (out ys vs : List ℕ) → ys ≡ vs → a + length vs ≡ e → e ≤ length out → put_mid a (e - a) out ys ≡ sets out a vs
part-sets a e out ys vs p l h =
    let k : length vs ≡ e - a = omega arith in
    let r : a + length vs ≤ length out = omega arith in
    put_mid-paste a (e - a) out ys vs (length vs) p k refl ∙ paste_all out a vs (length vs) refl ∙ sym (sets-eq vs out a r ∙ append_assoc (take a out) vs _)

pub zeros-put : (a n : ℕ) (out ys : List ℕ) → a + n ≤ length out → ys ≡ replicate (length (take (a + n - a) (drop a out))) 0
    → put_mid a (a + n - a) out ys ≡ sets out a (bytes n 0)
zeros-put a n out ys h e =
    let d : a + n - a ≤ length (drop a out) = rw length-drop (omega arith) in
    let k : length (take (a + n - a) (drop a out)) ≡ n = length-take-le (a + n - a) (drop a out) d ∙ omega arith in
    part-sets a (a + n) out ys (bytes n 0) (rw (k, ← zero_bytes) at e) (rw length-bytes) h

-- Items.

module _ (l : List ℕ) (at : ℕ) (out : List ℕ) (to : ℕ) where
  pub old_function_put :
      sets (sets out to (bytes 8 (word 8 l (at + 1)))) (to + 8) (bytes 8 (word 8 l (at + 9)))
      ≡ sets out to (bytes_of (function_fields true (listed_function l at)))
  unfolding function_fields listed_function
  old_function_put = rw add-zero at (puts-all (function_fields true (listed_function l at)) out to)

  pub function-put :
      sets (sets (sets out to (bytes 8 (word 8 l (at + 1)))) (to + 8) (bytes 8 (word 8 l (at + 9)))) (to + 16) (bytes 8 (word 8 l (at + 17)))
      ≡ sets out to (bytes_of (function_fields false (listed_function l at)))
  unfolding function_fields listed_function
  function-put = rw add-zero at (puts-all (function_fields false (listed_function l at)) out to)

  pub constant-put : sets out to (bytes 8 (word 8 l (at + 1))) ≡ sets out to (bytes_of (constant_fields (listed_constant l at)))
  unfolding constant_fields listed_constant
  constant-put = rw add-zero at (puts-all (constant_fields (listed_constant l at)) out to)

  module _ (w : Bytes l) where
    -- two numbers side by side are one
    side_by_side : (n m a b : ℕ) → b ≡ a + n → bytes (n + m) (word (n + m) l a) ≡ bytes n (word n l a) ++ bytes m (word m l b)
    side_by_side n m a b e = rw (e, word-add n m l a, bytes_split n m _ _ (word_bound n l a w))

    -- a byte and a zero
    byte_zero : (a : ℕ) → bytes 2 (get_or l a 0) ≡ bytes 1 (word 1 l a) ++ bytes 1 0
    byte_zero a =
        let h = w.below a in
        let z : get_or l a 0 + 256 ^ 1 * 0 ≡ get_or l a 0 = omega arith in
        rw (byte_word, ← bytes_split 1 1 (get_or l a 0) 0 h, z)

    -- the low byte of two
    low_byte : (a : ℕ) → bytes 1 (word 1 l a) ≡ bytes 1 (word 2 l a)
    unfolding bytes
    low_byte a =
        let h = w.below a in
        let z : word 1 l a % 256 ≡ word 2 l a % 256 = unfold word in omega arith in
        rw z

    abbrev old_location_words : List Field
    old_location_words = (2 of word 2 l (at + 1)) ∷ (2 of word 2 l (at + 4)) ∷ (4 of word 4 l (at + 6)) ∷ []

    old_location_words_lem : bytes_of old_location_words ≡ bytes_of (location_fields true (listed_location l at))
    unfolding bytes_of location_fields listed_location
    old_location_words_lem = rw (side_by_side 1 1 (at + 1) (at + 2) (omega arith), append_assoc (bytes 1 (word 1 l (at + 1))), low_byte (at + 2))

    pub old_location_put :
        sets (sets (sets out to (bytes 2 (word 2 l (at + 1)))) (to + 2) (bytes 2 (word 2 l (at + 4)))) (to + 4) (bytes 4 (word 4 l (at + 6)))
        ≡ sets out to (bytes_of (location_fields true (listed_location l at)))
    old_location_put = rw (← old_location_words_lem) (rw add-zero at (puts-all old_location_words out to))

    abbrev location_words : List Field
    location_words = (2 of get_or l (at + 1) 0) ∷ (4 of word 4 l (at + 2)) ∷ (2 of 0) ∷ (4 of word 4 l (at + 6)) ∷ []

    location_words_lem : bytes_of location_words ≡ bytes_of (location_fields false (listed_location l at))
    unfolding bytes_of location_fields listed_location
    location_words_lem = rw (byte_zero (at + 1), side_by_side 2 2 (at + 2) (at + 4) (omega arith), append_assoc (bytes 1 (word 1 l (at + 1))), append_assoc (bytes 2 (word 2 l (at + 2))))

    pub location_put :
        sets (sets (sets (sets out to (bytes 2 (get_or l (at + 1) 0))) (to + 2) (bytes 4 (word 4 l (at + 2)))) (to + 6) (bytes 2 0)) (to + 8) (bytes 4 (word 4 l (at + 6)))
        ≡ sets out to (bytes_of (location_fields false (listed_location l at)))
    location_put = rw (← location_words_lem) (rw add-zero at (puts-all location_words out to))

    pub live_out_put :
        set (set (sets out to (bytes 2 (word 2 l (at + 1)))) (to + 2) 0) (to + 3) (get_or l (at + 3) 0)
        ≡ sets out to (bytes_of (live_out_fields (listed_live_out l at)))
    unfolding live_out_fields listed_live_out bytes
    live_out_put =
        let h = w.below (at + 3) in
        let z : word 1 l (at + 3) % 256 ≡ get_or l (at + 3) 0 = rw byte_word (omega arith) in
        rw (add-zero, z) at (puts-all (live_out_fields (listed_live_out l at)) out to)

-- Items of one kind, one after the other.

-- what n items are read as, by their fields
pub all_fields : {A : Type 0} (fields : A → List Field) (read : List ℕ → ℕ → A) (step n : ℕ) (l : List ℕ) (at : ℕ)
    → fields_of (λ l at. fields (read l at)) step n l at ≡ all fields (many read step n l at)
unfolding all many
all_fields fields read step zero l at = refl
all_fields fields read step (suc n) l at = rw (all_fields fields read step n l (at + step))

module _ (fields : List ℕ → ℕ → List Field) (step long : ℕ) (l : List ℕ) (at n : ℕ) (out₀ : List ℕ) (to : ℕ) where
  -- the first i of the items from `at` are put
  pub record Putting (out : List ℕ) (i : ℕ) : Type 0 where
    pub most : i ≤ n
    pub inside : at + step * n ≤ length l
    pub room : to + long * n ≤ length out
    pub long_lem : length out ≡ length out₀
    pub same : sets out₀ to (bytes_of (fields_of fields step n l at)) ≡ sets out (to + long * i) (bytes_of (fields_of fields step (n - i) l (at + step * i)))

module _ {fields : List ℕ → ℕ → List Field} {step long : ℕ} {l : List ℕ} {at n : ℕ} {out₀ : List ℕ} {to : ℕ} where
  pub put-start : at + step * n ≤ length l → to + long * n ≤ length out₀ → Putting fields step long l at n out₀ to out₀ 0
  put-start i r =
      let a : at + step * 0 ≡ at = omega arith in
      let b : to + long * 0 ≡ to = omega arith in
      let c : n - 0 ≡ n = omega arith in
      record { most = omega arith; inside = i; room = r; long_lem = refl; same = rw (a, b, c) }

  module _ {out : List ℕ} {i : ℕ} (w : Putting fields step long l at n out₀ to out i) where
    -- the next item is inside, and there is room for it
    pub put_here : i < n → (at + step * i + step ≤ length l) × (to + long * i + long ≤ length out)
    put_here h =
        let k = w.inside in
        let r = w.room in
        let f : i + 1 ≤ n = omega arith in
        (omega (arith, mul-le-mul_left step f), omega (arith, mul-le-mul_left long f))

    -- one item is put
    pub put_on : (out' : List ℕ) → ((l : List ℕ) (at : ℕ) → size (fields l at) ≡ long) → i < n
        → out' ≡ sets out (to + long * i) (bytes_of (fields l (at + step * i))) → Putting fields step long l at n out₀ to out' (i + 1)
    put_on out' even h e =
        let g = w.long_lem in
        let r = w.room in
        let z : length out' ≡ length out = rw (e, length-sets) in
        let a : at + step * (i + 1) ≡ at + step * i + step = omega arith in
        let b : to + long * (i + 1) ≡ to + long * i + long = omega arith in
        let c : n - (i + 1) ≡ n - i - 1 = omega arith in
        record {
          most = omega arith;
          inside = w.inside;
          room = omega arith;
          long_lem = omega arith;
          same = w.same ∙ rw (many_step fields step (n - i) l (at + step * i) (omega arith), e, a, b, c)
              (unfold all in sym (then_put (fields l (at + step * i)) (fields_of fields step (n - i - 1) l (at + step * i + step)) out (to + long * i) (to + long * i + long) (rw (even l (at + step * i)))));
        }

    -- all are put
    pub put-end : i ≡ n → out ≡ sets out₀ to (bytes_of (fields_of fields step n l at))
    unfolding many all bytes_of
    put-end z = let c : n - i ≡ 0 = omega arith in sym (w.same ∙ rw c)
