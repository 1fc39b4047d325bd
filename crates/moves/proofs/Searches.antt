-- A search for the lowest bad index finds none exactly if no index is bad; and what that says of a list's members, in any order.
use Prim.Native.Nat.{ℕ, zero, suc, ◌+◌, ◌-◌, ◌≤◌, ◌<◌}
use mathlib.Core.Path.{◌≡◌, refl, sym, ap, ◌∙◌}
use mathlib.Core.Bool.{Bool, true, false, cond, ◌||◌, true≢false}
use mathlib.Core.List.Permᴰ
use mathlib.Core.List.{List, [], ◌∷◌, Memᴰ, Permᴰ}
use native.Mathlib.Omega.{arith}
use native.Mathlib.Decide.{dec_lt, dec_le}
use native.Mathlib.Nat.{not-suc-le-zero, le_of_suc-le-suc}
use lib.ListN.{length, get_or}
use Rattle.moves.specs.Search.{lowest_from, lowest, any_below}

pub or_no : (a b : Bool) → (a || b) ≡ false → (a ≡ false) × (b ≡ false)
or_no true b e = absurd (true≢false e)
or_no false b e = (refl, e)

pub perm_mem : {A : Type 0} {a : A} {l₁ l₂ : List A} → Permᴰ l₁ l₂ → Memᴰ a l₁ → Memᴰ a l₂
perm_mem Permᴰ.nil m = m
perm_mem (Permᴰ.cons e p) (Memᴰ.head q) = Memᴰ.head (q ∙ e)
perm_mem (Permᴰ.cons e p) (Memᴰ.tail m) = Memᴰ.tail (perm_mem p m)
perm_mem (Permᴰ.swap e₁ e₂) (Memᴰ.head q) = Memᴰ.tail (Memᴰ.head (q ∙ e₁))
perm_mem (Permᴰ.swap e₁ e₂) (Memᴰ.tail (Memᴰ.head q)) = Memᴰ.head (q ∙ e₂)
perm_mem (Permᴰ.swap e₁ e₂) (Memᴰ.tail (Memᴰ.tail m)) = Memᴰ.tail (Memᴰ.tail m)
perm_mem (Permᴰ.trans p q) m = perm_mem q (perm_mem p m)

pub perm_length : {A : Type 0} {l₁ l₂ : List A} → Permᴰ l₁ l₂ → length l₁ ≡ length l₂
perm_length Permᴰ.nil = refl
perm_length (Permᴰ.cons e p) = ap suc (perm_length p)
perm_length (Permᴰ.swap e₁ e₂) = refl
perm_length (Permᴰ.trans p q) = perm_length p ∙ perm_length q

-- a member is at some index, and what is at an index is a member
pub mem_index : {A : Type 0} (d : A) {a : A} {l : List A} → Memᴰ a l → (k : ℕ) × (k < length l) × (get_or l k d ≡ a)
mem_index d (Memᴰ.head e) = (0, omega arith, sym e)
mem_index d (Memᴰ.tail m) = let o = mem_index d m in (suc o.0, omega arith, o.2)

pub index_mem : {A : Type 0} (d : A) (l : List A) (k : ℕ) → k < length l → Memᴰ (get_or l k d) l
index_mem d [] k h = absurd (not-suc-le-zero h)
index_mem d (x ∷ xs) zero h = Memᴰ.head refl
index_mem d (x ∷ xs) (suc k) h = Memᴰ.tail (index_mem d xs k (le_of_suc-le-suc h))

-- any below
pub any_no : (f : ℕ → Bool) (n : ℕ) → any_below f n ≡ false → (k : ℕ) → k < n → f k ≡ false
any_no f zero e k h = absurd (not-suc-le-zero h)
any_no f (suc n) e k h = go (any_no f n o.1 k) (dec_lt k n)
  where
    o : (f n ≡ false) × (any_below f n ≡ false)
    o = or_no (f n) (any_below f n) e

    go : (k < n → f k ≡ false) → Dec (k < n) → f k ≡ false
    go below (yes l) = below l
    go below (no l) = let q : k ≡ n = omega arith in rw q o.0

-- one that holds makes the test true
pub any_yes : (f : ℕ → Bool) (n k : ℕ) → k < n → f k ≡ true → any_below f n ≡ true
any_yes f n k h t = go (any_below f n) refl
  where
    go : (b : Bool) → any_below f n ≡ b → any_below f n ≡ true
    go true e = e
    go false e = absurd (true≢false (sym t ∙ any_no f n e k h))

pub no_any : (f : ℕ → Bool) (n : ℕ) → ((k : ℕ) → k < n → f k ≡ false) → any_below f n ≡ false
no_any f zero h = refl
no_any f (suc n) h = rw (h n (omega arith)) (no_any f n (λ k l. h k (omega arith)))

-- the lowest
pub no_lowest : (bad : ℕ → Bool) (k i : ℕ) → ((j : ℕ) → i ≤ j → j < i + k → bad j ≡ false) → lowest_from bad k i ≡ i + k
no_lowest bad zero i h = omega arith
no_lowest bad (suc k) i h = rw (h i (omega arith) (omega arith)) (no_lowest bad k (suc i) (λ j a b. h j (omega arith) (omega arith)) ∙ omega arith)

step : (t : Bool) (i k r : ℕ) → i + suc k ≤ cond t i r → (t ≡ false) × (suc i + k ≤ r)
step true i k r e = absurd (omega arith)
step false i k r e = (refl, omega arith)

pub lowest_no : (bad : ℕ → Bool) (k i : ℕ) → i + k ≤ lowest_from bad k i → (j : ℕ) → i ≤ j → j < i + k → bad j ≡ false
lowest_no bad zero i e j a b = absurd (omega arith)
lowest_no bad (suc k) i e j a b = go (lowest_no bad k (suc i) o.1 j) (dec_lt i j)
  where
    o : (bad i ≡ false) × (suc i + k ≤ lowest_from bad k (suc i))
    o = step (bad i) i k (lowest_from bad k (suc i)) e

    go : (i < j → j < suc i + k → bad j ≡ false) → Dec (i < j) → bad j ≡ false
    go below (yes l) = below l (omega arith)
    go below (no l) = let q : j ≡ i = omega arith in rw q o.0

-- no index below n is bad
unfoldable pub Fine : (ℕ → Bool) → ℕ → Type 0
Fine bad n = (k : ℕ) → k < n → bad k ≡ false

pub fine_lowest : (bad : ℕ → Bool) (n : ℕ) → Fine bad n → n ≤ lowest bad n
unfolding Fine lowest
fine_lowest bad n h = omega (arith, no_lowest bad n 0 (λ j a b. h j (omega arith)))

pub lowest_fine : (bad : ℕ → Bool) (n : ℕ) → n ≤ lowest bad n → Fine bad n
unfolding Fine lowest
lowest_fine bad n e k h = lowest_no bad n 0 (omega arith) k (omega arith) (omega arith)

-- none is bad
pub lowest-all : (bad : ℕ → Bool) (n : ℕ) → n ≤ lowest bad n → (k : ℕ) → k < n → bad k ≡ false
unfolding Fine
lowest-all bad n h = lowest_fine bad n h

-- a test of each member; a symmetric test of each two members: finding none does not depend on the order
module _ {A : Type 0} (d : A) where
  module _ (u : A → Bool) where
    pub each_no : (xs : List A) → length xs ≤ lowest (λ p. u (get_or xs p d)) (length xs) → (x : A) → Memᴰ x xs → u x ≡ false
    unfolding Fine
    each_no xs e x m =
        let o : (k : ℕ) × (k < length xs) × (get_or xs k d ≡ x) = mem_index d m in
        rw o.2 at (lowest_fine (λ p. u (get_or xs p d)) (length xs) e o.0 o.1)

    pub each_perm : {xs ys : List A} → Permᴰ xs ys
        → length xs ≤ lowest (λ p. u (get_or xs p d)) (length xs) → length ys ≤ lowest (λ p. u (get_or ys p d)) (length ys)
    unfolding Fine
    each_perm {xs} {ys} p e =
        fine_lowest (λ p. u (get_or ys p d)) (length ys) (λ k h. each_no xs e (get_or ys k d) (perm_mem (Permᴰ.symm p) (index_mem d ys k h)))

  module _ (r : A → A → Bool) (r-sym : (x y : A) → r x y ≡ r y x) where
    abbrev bad : List A → ℕ → Bool
    bad xs p = any_below (λ q. r (get_or xs p d) (get_or xs q d)) (suc p)

    pub pairwise_no : (xs : List A) → length xs ≤ lowest (bad xs) (length xs) → (x y : A) → Memᴰ x xs → Memᴰ y xs → r x y ≡ false
    unfolding Fine
    pairwise_no xs e x y m n = go (dec_le j.0 i.0)
      where
        i : (k : ℕ) × (k < length xs) × (get_or xs k d ≡ x)
        i = mem_index d m

        j : (k : ℕ) × (k < length xs) × (get_or xs k d ≡ y)
        j = mem_index d n

        at : (p q : ℕ) → p < length xs → q ≤ p → r (get_or xs p d) (get_or xs q d) ≡ false
        at p q a b = any_no (λ q. r (get_or xs p d) (get_or xs q d)) (suc p) (lowest_fine (bad xs) (length xs) e p a) q (omega arith)

        go : Dec (j.0 ≤ i.0) → r x y ≡ false
        go (yes l) = rw (← i.2, ← j.2) (at i.0 j.0 i.1 l)
        go (no l) = rw (r-sym x y, ← i.2, ← j.2) (at j.0 i.0 j.1 (omega arith))

    pub pairwise_perm : {xs ys : List A} → Permᴰ xs ys → length xs ≤ lowest (bad xs) (length xs) → length ys ≤ lowest (bad ys) (length ys)
    unfolding Fine
    pairwise_perm {xs} {ys} p e =
        fine_lowest (bad ys) (length ys)
        (λ k h. no_any (λ q. r (get_or ys k d) (get_or ys q d)) (suc k)
        (λ q l. pairwise_no xs e (get_or ys k d) (get_or ys q d)
        (perm_mem (Permᴰ.symm p) (index_mem d ys k h)) (perm_mem (Permᴰ.symm p) (index_mem d ys q (omega arith)))))

-- a loop that goes up: what is left to search gives what the whole gives
module _ (f : ℕ → Bool) (n p : ℕ) where
  pub low_end : n ≤ p → lowest_from f (n - p) p ≡ p
  low_end h = let e : n - p ≡ 0 = omega arith in rw e

  pub low-hit : p < n → f p ≡ true → lowest_from f (n - p) p ≡ p
  low-hit h t = let e : n - p ≡ suc (n - (p + 1)) = omega arith in rw (e, t)

  pub low_step : p < n → f p ≡ false → lowest_from f (n - p) p ≡ lowest_from f (n - (p + 1)) (p + 1)
  low_step h t =
      let e : n - p ≡ suc (n - suc p) = omega arith in
      let g : p + 1 ≡ suc p = omega arith in
      rw (e, t, g)

pub low-start : (f : ℕ → Bool) (n : ℕ) → lowest_from f (n - 0) 0 ≡ lowest f n
unfolding lowest
low-start f n = let e : n - 0 ≡ n = omega arith in rw e

pub below_false : (f : ℕ → Bool) (i : ℕ) → ((k : ℕ) → k < i → f k ≡ false) → f i ≡ false → (k : ℕ) → k < i + 1 → f k ≡ false
below_false f i h e k l = go (dec_lt k i)
  where
    go : Dec (k < i) → f k ≡ false
    go (yes a) = h k a
    go (no a) = let q : k ≡ i = omega arith in rw q e

-- two tests that agree
low_ext : (f g : ℕ → Bool) (k i : ℕ) → ((j : ℕ) → i ≤ j → j < i + k → f j ≡ g j) → lowest_from f k i ≡ lowest_from g k i
low_ext f g zero i h = refl
low_ext f g (suc k) i h =
    rw (h i (omega arith) (omega arith), low_ext f g k (suc i) (λ j a b. h j (omega arith) (omega arith)))

pub lowest_ext : (f g : ℕ → Bool) (n : ℕ) → ((j : ℕ) → j < n → f j ≡ g j) → lowest f n ≡ lowest g n
unfolding lowest
lowest_ext f g n h = low_ext f g n 0 (λ j a b. h j (omega arith))

pub any_ext : (f g : ℕ → Bool) (n : ℕ) → ((j : ℕ) → j < n → f j ≡ g j) → any_below f n ≡ any_below g n
any_ext f g zero h = refl
any_ext f g (suc n) h = rw (h n (omega arith), any_ext f g n (λ j b. h j (omega arith)))
