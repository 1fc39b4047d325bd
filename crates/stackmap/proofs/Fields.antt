-- Numbers that stand in a list of bytes, both ways.
use Prim.Native.Nat.{ℕ, zero, suc, ◌+◌, ◌*◌, ◌≤◌}
use mathlib.Core.Path.{◌≡◌, refl, ap, ◌∙◌}
use mathlib.Core.List.{List, [], ◌∷◌, ◌++◌, append_assoc, map, map-id, Memᴰ}
use native.Mathlib.Omega.{arith}
use native.Mathlib.Nat.{add-zero, zero-add, add_assoc, mul-suc}
use lib.ListN.{length, drop, length-append}
use lib.Seq.{drop-drop, drop-append_seam}
use Rattle.wire.specs.Word.{Bytes, word, bytes}
use Rattle.wire.proofs.Laws.{word_bound, word_reads, word_back, length-bytes}
use Rattle.stackmap.specs.Fields.{Field, bytes_of, size, Fit, all, many}

-- from the place a + o on the list has these numbers
abbrev pub HasFrom : List ℕ → ℕ → ℕ → List Field → Type 0
HasFrom s a o [] = Unit {0}
HasFrom s a o (f ∷ fs) = (word f.width s (a + o) ≡ f.value) × HasFrom s a (o + f.width) fs

abbrev pub Has : List ℕ → ℕ → List Field → Type 0
Has s a fs = HasFrom s a 0 fs

pub length-bytes_of : (fs : List Field) → length (bytes_of fs) ≡ size fs
unfolding bytes_of size
length-bytes_of [] = refl
length-bytes_of (f ∷ fs) = rw (length-append, length-bytes, length-bytes_of fs)

pub size-append : (fs gs : List Field) → size (fs ++ gs) ≡ size fs + size gs
unfolding size
size-append [] gs = rw zero-add
size-append (f ∷ fs) gs = rw (size-append fs gs, add_assoc)

pub bytes_of-append : (fs gs : List Field) → bytes_of (fs ++ gs) ≡ bytes_of fs ++ bytes_of gs
unfolding bytes_of
bytes_of-append [] gs = refl
bytes_of-append (f ∷ fs) gs = rw (bytes_of-append fs gs, append_assoc)

pub size-all : {A : Type 0} (fields : A → List Field) (k : ℕ) → ((x : A) → size (fields x) ≡ k) → (xs : List A) → size (all fields xs) ≡ k * length xs
unfolding all size
size-all fields k h [] = omega arith
size-all fields k h (x ∷ xs) = rw (size-append, h x, size-all fields k h xs, mul-suc) (omega arith)

-- numbers that are read are the bytes that stand there
pub has-bytes : (s : List ℕ) (a o : ℕ) (fs : List Field) → Bytes s → HasFrom s a o fs → a + o + size fs ≤ length s
    → bytes_of fs ++ drop (a + o + size fs) s ≡ drop (a + o) s
unfolding bytes_of size
has-bytes s a o [] w h l = rw add-zero
has-bytes s a o (f ∷ fs) w h l =
    let e : a + o + (f.width + size fs) ≡ a + (o + f.width) + size fs = omega arith in
    let d : a + (o + f.width) ≡ a + o + f.width = omega arith in
    rw (append_assoc, e, has-bytes s a (o + f.width) fs w h.1 (omega arith), d, ← h.0, word_reads f.width s (a + o) w (omega arith))

pub has_fit : (s : List ℕ) (a o : ℕ) (fs : List Field) → Bytes s → HasFrom s a o fs → Fit fs
has_fit s a o [] w h = tt
has_fit s a o (f ∷ fs) w h = (rw (← h.0) (word_bound f.width s (a + o) w), has_fit s a (o + f.width) fs w h.1)

-- bytes that stand there are read as numbers

drop_at_seam : (l x y : List ℕ) (n : ℕ) → length x ≡ n → l ≡ x ++ y → drop n l ≡ y
drop_at_seam l x y n h e = rw (e, ← h) (drop-append_seam x y)

pub fields_back : (s : List ℕ) (a o : ℕ) (fs : List Field) (xs : List ℕ) → Fit fs → drop (a + o) s ≡ bytes_of fs ++ xs → HasFrom s a o fs
unfolding bytes_of
fields_back s a o [] xs v r = tt
fields_back s a o (f ∷ fs) xs v r =
    let q : drop (a + o) s ≡ bytes f.width f.value ++ (bytes_of fs ++ xs) = rw append_assoc at r in
    let l = length-bytes f.width f.value in
    let t : drop (a + (o + f.width)) s ≡ bytes_of fs ++ xs =
    rw (← add_assoc a o f.width, ← drop-drop f.width (a + o) s)
    (drop_at_seam (drop (a + o) s) (bytes f.width f.value) (bytes_of fs ++ xs) f.width l q) in
    (word_back s (a + o) f.width f.value _ v.0 q, fields_back s a (o + f.width) fs xs v.1 t)

-- the numbers of a run of two parts
has-at : (s : List ℕ) (a o b p : ℕ) (fs : List Field) → a + o ≡ b + p → HasFrom s a o fs → HasFrom s b p fs
has-at s a o b p [] e h = tt
has-at s a o b p (f ∷ fs) e h = (rw (← e) h.0, has-at s a (o + f.width) b (p + f.width) fs (omega arith) h.1)

has_first : (s : List ℕ) (a o : ℕ) (fs gs : List Field) → HasFrom s a o (fs ++ gs) → HasFrom s a o fs
has_first s a o [] gs h = tt
has_first s a o (f ∷ fs) gs h = (h.0, has_first s a (o + f.width) fs gs h.1)

has-second : (s : List ℕ) (a o b : ℕ) (fs gs : List Field) → b ≡ a + o + size fs → HasFrom s a o (fs ++ gs) → Has s b gs
unfolding size
has-second s a o b [] gs e h = has-at s a o b 0 gs (omega arith) h
has-second s a o b (f ∷ fs) gs e h = has-second s a (o + f.width) b fs gs (omega arith) h.1

pub split : (s : List ℕ) (a b : ℕ) (fs gs : List Field) → b ≡ a + size fs → Has s a (fs ++ gs) → Has s a fs × Has s b gs
split s a b fs gs e h = (has_first s a 0 fs gs h, has-second s a 0 b fs gs (omega arith) h)

has_join : (s : List ℕ) (a o b : ℕ) (fs gs : List Field) → b ≡ a + o + size fs → HasFrom s a o fs → Has s b gs → HasFrom s a o (fs ++ gs)
unfolding size
has_join s a o b [] gs e h k = has-at s b 0 a o gs (omega arith) k
has_join s a o b (f ∷ fs) gs e h k = (h.0, has_join s a (o + f.width) b fs gs (omega arith) h.1 k)

pub join : (s : List ℕ) (a b : ℕ) (fs gs : List Field) → b ≡ a + size fs → Has s a fs → Has s b gs → Has s a (fs ++ gs)
join s a b fs gs e h k = has_join s a 0 b fs gs (omega arith) h k

-- numbers that fit

pub fit_join : (fs gs : List Field) → Fit fs → Fit gs → Fit (fs ++ gs)
fit_join [] gs h k = k
fit_join (f ∷ fs) gs h k = (h.0, fit_join fs gs h.1 k)

pub fit_first : (fs gs : List Field) → Fit (fs ++ gs) → Fit fs
fit_first [] gs h = tt
fit_first (f ∷ fs) gs h = (h.0, fit_first fs gs h.1)

pub fit_second : (fs gs : List Field) → Fit (fs ++ gs) → Fit gs
fit_second [] gs h = h
fit_second (f ∷ fs) gs h = fit_second fs gs h.1

-- each item's numbers fit
pub fit_each : {A : Type 0} (f : A → List Field) (xs : List A) → ((x : A) → Memᴰ x xs → Fit (f x)) → Fit (all f xs)
unfolding all
fit_each f [] h = tt
fit_each f (x ∷ xs) h = fit_join (f x) (all f xs) (h x (Memᴰ.head refl)) (fit_each f xs (λ y m. h y (Memᴰ.tail m)))

pub each_fit : {A : Type 0} (f : A → List Field) {x : A} {xs : List A} → Fit (all f xs) → Memᴰ x xs → Fit (f x)
unfolding all
each_fit f {x} h (Memᴰ.head {x = y} {xs = ys} e) = rw e (fit_first (f y) (all f ys) h)
each_fit f {x} h (Memᴰ.tail {x = y} {xs = ys} m) = each_fit f (fit_second (f y) (all f ys) h) m

-- items of one size, one after the other

pub length-many : {A : Type 0} (read : List ℕ → ℕ → A) (step n : ℕ) (s : List ℕ) (at : ℕ) → length (many read step n s at) ≡ n
unfolding many
length-many read step zero s at = refl
length-many read step (suc n) s at = ap suc (length-many read step n s (at + step))

pub size-many : {A : Type 0} (fields : A → List Field) (read : List ℕ → ℕ → A) (step k : ℕ) → ((x : A) → size (fields x) ≡ k) → (n : ℕ) (s : List ℕ) (at : ℕ)
    → size (all fields (many read step n s at)) ≡ k * n
size-many fields read step k even n s at = size-all fields k even (many read step n s at) ∙ rw length-many

module _ {A : Type 0} (fields : A → List Field) (read : List ℕ → ℕ → A) (step : ℕ) (even : (x : A) → size (fields x) ≡ step) where
  -- what is read of an item is g of it
  pub many_read : (s : List ℕ) (g : A → A) → ((x : A) (at : ℕ) → Has s at (fields x) → read s at ≡ g x)
      → (xs : List A) (at : ℕ) → Has s at (all fields xs) → many read step (length xs) s at ≡ map g xs
  unfolding many all
  many_read s g back [] at h = refl
  many_read s g back (x ∷ xs) at h =
      let k = split s at (at + step) (fields x) (all fields xs) (rw (even x)) h in
      rw (back x at k.0, many_read s g back xs (at + step) k.1)

  pub many-back : (s : List ℕ) → ((x : A) (at : ℕ) → Has s at (fields x) → read s at ≡ x)
      → (xs : List A) (at : ℕ) → Has s at (all fields xs) → many read step (length xs) s at ≡ xs
  many-back s back xs at h = many_read s (λ x. x) back xs at h ∙ map-id xs

  pub many-has : (s : List ℕ) → ((at : ℕ) → Has s at (fields (read s at))) → (n at : ℕ) → Has s at (all fields (many read step n s at))
  unfolding many all
  many-has s has zero at = tt
  many-has s has (suc n) at =
      join s at (at + step) (fields (read s at)) (all fields (many read step n s (at + step))) (rw (even (read s at))) (has at) (many-has s has n (at + step))
