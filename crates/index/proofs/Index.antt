-- The right index is the only list of entries that is ordered, of the right length, and has every row.
use Prim.Native.Nat.{ℕ, zero, suc, ◌+◌, ◌*◌, ◌-◌, ◌≤◌, ◌<◌}
use mathlib.Core.Path.{◌≡◌, refl, sym, ap, ◌∙◌}
use mathlib.Core.Bool.{Bool, true, false, cond, ◌&&◌, ◌||◌}
use mathlib.Core.Logic.{◌⊎◌, inl, inr, ⊎_elim}
use mathlib.Core.List.Memᴰ
use mathlib.Core.List.Permᴰ
use mathlib.Core.List.{List, [], ◌∷◌, Memᴰ, Permᴰ}
use native.Mathlib.Omega.{arith}
use native.Mathlib.Decide.{dec_lt}
use borrow.Author.Tests.{lt-ltb, le-ltb, eq-eqb, ne_eqb}
use lib.Dec.{ltb, eqb}
use lib.ListN.{length, get_or, drop, length-drop}
use lib.Seq.{get_or-drop}
use Rattle.sorted_pairs.specs.Pairs.{first_at, second_at, rank_at, Stepped}
use Rattle.index.specs.Rows.{Row, precedes, place, ordered, flat}
use Rattle.index.specs.Numbered.{rows_of, Numbered}
use Rattle.sorted_pairs.proofs.All.{Different, perm_mem, all_found, different_perm}

-- the order as one number
abbrev pub rank : Row → ℕ
rank x = x.address * 18446744073709551616 + x.number

-- Lists that rise.

-- each row is below all after it
abbrev pub Rises : List Row → Type 0
Rises [] = Unit {0}
Rises (x ∷ xs) = ((y : Row) → Memᴰ y xs → rank x < rank y) × Rises xs

-- two such lists with the same rows are one
pub one_list : (xs ys : List Row) → Rises xs → Rises ys → ((x : Row) → Memᴰ x xs → Memᴰ x ys) → ((x : Row) → Memᴰ x ys → Memᴰ x xs) → xs ≡ ys
one_list [] [] u v a b = refl
one_list [] (y ∷ ys) u v a b = absurd (Memᴰ.not-nil (b y (Memᴰ.head refl)))
one_list (x ∷ xs) [] u v a b = absurd (Memᴰ.not-nil (a x (Memᴰ.head refl)))
one_list (x ∷ xs) (y ∷ ys) u v a b = rw (heads, one_list xs ys u.1 v.1 into back)
  where
    heads : x ≡ y
    heads =
        ⊎_elim (λ e. e)
        (λ m. ⊎_elim (λ e. sym e) (λ k. absurd (omega (arith, v.0 x m, u.0 y k))) (Memᴰ.cases_cons (b y (Memᴰ.head refl))))
        (Memᴰ.cases_cons (a x (Memᴰ.head refl)))

    into : (z : Row) → Memᴰ z xs → Memᴰ z ys
    into z m = ⊎_elim (λ e. absurd (let q : rank z ≡ rank x = ap rank (e ∙ sym heads) in omega (arith, u.0 z m))) (λ k. k) (Memᴰ.cases_cons (a z (Memᴰ.tail m)))

    back : (z : Row) → Memᴰ z ys → Memᴰ z xs
    back z m = ⊎_elim (λ e. absurd (let q : rank z ≡ rank y = ap rank (e ∙ heads) in omega (arith, v.0 z m))) (λ k. k) (Memᴰ.cases_cons (b z (Memᴰ.tail m)))

-- The rows in order.

pub before_true : (x y : Row) → x.number < 18446744073709551616 → y.number < 18446744073709551616 → rank x < rank y → precedes x y ≡ true
unfolding precedes
before_true x y n m l = go (dec_lt x.address y.address)
  where
    go : Dec (x.address < y.address) → (ltb x.address y.address || (eqb x.address y.address && ltb x.number y.number)) ≡ true
    go (yes h) = rw (lt-ltb _ _ h)
    go (no h) =
        let e : x.address ≡ y.address = omega arith in
        let k : x.number < y.number = omega arith in
        rw (le-ltb x.address y.address (omega arith), eq-eqb _ _ e, lt-ltb _ _ k)

pub before_false : (x y : Row) → x.number < 18446744073709551616 → y.number < 18446744073709551616 → rank y ≤ rank x → precedes x y ≡ false
unfolding precedes
before_false x y n m l = go (dec_lt y.address x.address)
  where
    go : Dec (y.address < x.address) → (ltb x.address y.address || (eqb x.address y.address && ltb x.number y.number)) ≡ false
    go (yes h) = rw (le-ltb x.address y.address (omega arith), ne_eqb x.address y.address (λ z. omega arith))
    go (no h) =
        let e : x.address ≡ y.address = omega arith in
        let k : y.number ≤ x.number = omega arith in
        rw (le-ltb x.address y.address (omega arith), eq-eqb _ _ e, le-ltb _ _ k)

-- numbers below 2^64, so that the rank is the order
abbrev pub Small : List Row → Type 0
Small xs = (x : Row) → Memᴰ x xs → x.number < 18446744073709551616

place_mem : (x z : Row) (ys : List Row) → Memᴰ z (place x ys) → Memᴰ z (x ∷ ys)
unfolding place
place_mem x z [] m = m
place_mem x z (y ∷ ys) m = go (place_mem x z ys) (precedes x y) refl
  where
    go : (Memᴰ z (place x ys) → Memᴰ z (x ∷ ys)) → (b : Bool) → precedes x y ≡ b → Memᴰ z (x ∷ y ∷ ys)
    go rest true e = rw e at m
    go rest false e =
        ⊎_elim (λ q. Memᴰ.tail (Memᴰ.head q))
        (λ k. ⊎_elim (λ q. Memᴰ.head q) (λ j. Memᴰ.tail (Memᴰ.tail j)) (Memᴰ.cases_cons (rest k)))
        (Memᴰ.cases_cons (rw e at m))

place-has : (x z : Row) (ys : List Row) → Memᴰ z (x ∷ ys) → Memᴰ z (place x ys)
unfolding place
place-has x z [] m = m
place-has x z (y ∷ ys) m = go (place-has x z ys) (precedes x y) refl
  where
    go : (Memᴰ z (x ∷ ys) → Memᴰ z (place x ys)) → (b : Bool) → precedes x y ≡ b → Memᴰ z (cond (precedes x y) (x ∷ y ∷ ys) (y ∷ place x ys))
    go rest true e = rw e m
    go rest false e =
        rw e
        (⊎_elim (λ q. Memᴰ.tail (rest (Memᴰ.head q)))
        (λ k. ⊎_elim (λ q. Memᴰ.head q) (λ j. Memᴰ.tail (rest (Memᴰ.tail j))) (Memᴰ.cases_cons k))
        (Memᴰ.cases_cons m))

place-rises : (x : Row) (ys : List Row) → x.number < 18446744073709551616 → Small ys → ((y : Row) → Memᴰ y ys → rank x ≡ rank y → ⊥) → Rises ys → Rises (place x ys)
unfolding place
place-rises x [] n s d u = ((λ y m. absurd (Memᴰ.not-nil m)), tt)
place-rises x (y ∷ ys) n s d u = go (place-rises x ys n (λ z m. s z (Memᴰ.tail m)) (λ z m. d z (Memᴰ.tail m)) u.1) (dec_lt (rank x) (rank y))
  where
    first : rank x < rank y → (z : Row) → Memᴰ z (y ∷ ys) → rank x < rank z
    first l z m = ⊎_elim (λ e. let q : rank z ≡ rank y = ap rank e in omega arith) (λ k. omega (arith, u.0 z k)) (Memᴰ.cases_cons m)

    above : (rank x < rank y → ⊥) → Dec (rank y < rank x) → rank y < rank x
    above l (yes h) = h
    above l (no h) = absurd (d y (Memᴰ.head refl) (omega arith))

    later : rank y < rank x → (z : Row) → Memᴰ z (place x ys) → rank y < rank z
    later l z m = ⊎_elim (λ e. let q : rank z ≡ rank x = ap rank e in omega arith) (λ k. u.0 z k) (Memᴰ.cases_cons (place_mem x z ys m))

    go : Rises (place x ys) → Dec (rank x < rank y) → Rises (cond (precedes x y) (x ∷ y ∷ ys) (y ∷ place x ys))
    go rest (yes l) = rw (before_true x y n (s y (Memᴰ.head refl)) l) (first l, u)
    go rest (no l) =
        rw (before_false x y n (s y (Memᴰ.head refl)) (omega arith))
        (later (above l (dec_lt (rank y) (rank x))), rest)

pub ordered_mem : (z : Row) (xs : List Row) → Memᴰ z (ordered xs) → Memᴰ z xs
unfolding ordered
ordered_mem z [] m = m
ordered_mem z (x ∷ xs) m = ⊎_elim (λ e. Memᴰ.head e) (λ k. Memᴰ.tail (ordered_mem z xs k)) (Memᴰ.cases_cons (place_mem x z (ordered xs) m))

pub ordered-has : (z : Row) (xs : List Row) → Memᴰ z xs → Memᴰ z (ordered xs)
unfolding ordered
ordered-has z [] m = m
ordered-has z (x ∷ xs) m =
    place-has x z (ordered xs) (⊎_elim (λ e. Memᴰ.head e) (λ k. Memᴰ.tail (ordered-has z xs k)) (Memᴰ.cases_cons m))

-- Rows in section order.

numbered-above : (k : ℕ) (xs : List Row) → Numbered k xs → (x : Row) → Memᴰ x xs → k ≤ x.number
numbered-above k [] h x m = absurd (Memᴰ.not-nil m)
numbered-above k (y ∷ ys) h x m =
    ⊎_elim (λ e. let q : x.number ≡ y.number = ap (λ (r : Row). r.number) e in omega (arith, h.0)) (λ j. let q = numbered-above _ ys h.2 x j in omega (arith, h.0))
    (Memᴰ.cases_cons m)

pub numbered-small : (k : ℕ) (xs : List Row) → Numbered k xs → Small xs
numbered-small k [] h x m = absurd (Memᴰ.not-nil m)
numbered-small k (y ∷ ys) h x m =
    ⊎_elim (λ e. let q : x.number ≡ y.number = ap (λ (r : Row). r.number) e in omega (arith, h.1)) (λ j. numbered-small _ ys h.2 x j) (Memᴰ.cases_cons m)

-- a row's number is below those after it
pub numbered_later : (k : ℕ) (x : Row) (xs : List Row) → Numbered k (x ∷ xs) → (y : Row) → Memᴰ y xs → x.number < y.number
numbered_later k x xs h y m = numbered-above _ xs h.2 y m

pub numbered_different : (k : ℕ) (xs : List Row) → Numbered k xs → Different xs
numbered_different k [] h = tt
numbered_different k (x ∷ xs) h = ((λ m. let q = numbered_later k x xs h x m in absurd (omega arith)), numbered_different _ xs h.2)

-- rows of equal rank are one
pub numbered_rank : (k : ℕ) (xs : List Row) → Numbered k xs → (x y : Row) → Memᴰ x xs → Memᴰ y xs → rank x ≡ rank y → x ≡ y
numbered_rank k xs h x y a b e =
    let n = numbered-small k xs h x a in
    let m = numbered-small k xs h y b in
    let p : x.address ≡ y.address = omega arith in
    let q : x.number ≡ y.number = omega arith in
    λ i. record { address = p i; number = q i }

pub ordered-rises : (k : ℕ) (xs : List Row) → Numbered k xs → Rises (ordered xs)
unfolding ordered
ordered-rises k [] h = tt
ordered-rises k (x ∷ xs) h =
    place-rises x (ordered xs) h.1 (λ z m. numbered-small _ xs h.2 z (ordered_mem z xs m))
    (λ y m e. let q = numbered_later k x xs h y (ordered_mem y xs m) in let s = numbered-small _ xs h.2 y (ordered_mem y xs m) in omega (arith, h.1))
    (ordered-rises _ xs h.2)

-- Rows in a list of entries.

pub rows-length : (n : ℕ) (xs : List ℕ) → length (rows_of n xs) ≡ n
unfolding rows_of
rows-length zero xs = refl
rows-length (suc n) xs = ap suc (rows-length n (drop 2 xs))

unfoldable pub row_at : List ℕ → ℕ → Row
row_at xs i = record { address = first_at xs i; number = second_at xs i }

pub next_row : (xs : List ℕ) (i : ℕ) → row_at (drop 2 xs) i ≡ row_at xs (suc i)
unfolding row_at
next_row xs i =
    let p : 2 + 2 * i ≡ 2 * suc i = omega arith in
    let q : 2 + (2 * i + 1) ≡ 2 * suc i + 1 = omega arith in
    let a : first_at (drop 2 xs) i ≡ first_at xs (suc i) = get_or-drop 2 xs (2 * i) 0 ∙ ap (λ (k : ℕ). get_or xs k 0) p in
    let b : second_at (drop 2 xs) i ≡ second_at xs (suc i) = get_or-drop 2 xs (2 * i + 1) 0 ∙ ap (λ (k : ℕ). get_or xs k 0) q in
    λ k. record { address = a k; number = b k }

pub rows-has : (n : ℕ) (xs : List ℕ) (i : ℕ) → i < n → Memᴰ (row_at xs i) (rows_of n xs)
unfolding rows_of row_at
rows-has zero xs i l = absurd (omega arith)
rows-has (suc n) xs zero l = Memᴰ.head refl
rows-has (suc n) xs (suc i) l = Memᴰ.tail (rw (next_row xs i) at (rows-has n (drop 2 xs) i (omega arith)))

pub rows-place : (n : ℕ) (xs : List ℕ) (x : Row) → Memᴰ x (rows_of n xs) → (i : ℕ) × (i < n) × (x ≡ row_at xs i)
unfolding rows_of row_at
rows-place zero xs x m = absurd (Memᴰ.not-nil m)
rows-place (suc n) xs x m = go (rows-place n (drop 2 xs) x) (Memᴰ.cases_cons m)
  where
    go : (Memᴰ x (rows_of n (drop 2 xs)) → (i : ℕ) × (i < n) × (x ≡ row_at (drop 2 xs) i)) → (x ≡ record { address = get_or xs 0 0; number = get_or xs 1 0 }) ⊎ Memᴰ x (rows_of n (drop 2 xs))
        → (i : ℕ) × (i < suc n) × (x ≡ row_at xs i)
    go rest (inl e) = (0, omega arith, e)
    go rest (inr k) = let r = rest k in (suc r.0, omega (arith, r.1), r.2 ∙ next_row xs r.0)

flat_rows : (n : ℕ) (xs : List ℕ) → length xs ≡ 2 * n → flat (rows_of n xs) ≡ xs
unfolding flat rows_of
flat_rows zero [] l = refl
flat_rows zero (x ∷ xs) l = absurd (omega arith)
flat_rows (suc n) [] l = absurd (omega arith)
flat_rows (suc n) (x ∷ []) l = absurd (omega arith)
flat_rows (suc n) (x ∷ y ∷ xs) l = rw (flat_rows n xs (omega arith))

-- in order: each row is at most all after it
abbrev Climbs : List Row → Type 0
Climbs [] = Unit {0}
Climbs (x ∷ xs) = ((y : Row) → Memᴰ y xs → rank x ≤ rank y) × Climbs xs

steps_climb : (xs : List ℕ) (n : ℕ) → Stepped xs 1 n → (i d : ℕ) → i + d < n → rank_at xs i ≤ rank_at xs (i + d)
steps_climb xs n s i zero l = let z : i + 0 ≡ i = omega arith in rw z (omega arith)
steps_climb xs n s i (suc d) l =
    let h = steps_climb xs n s i d (omega arith) in
    let k = s.order (i + d) (omega arith) in
    let z : i + d + 1 ≡ i + suc d = omega arith in
    rw (← z) (omega arith)

stepped_next : (xs : List ℕ) (n : ℕ) → Stepped xs 1 (suc n) → Stepped (drop 2 xs) 1 n
unfolding row_at
stepped_next xs n s = record { order = λ i l. go i l }
  where
    same : (i : ℕ) → rank_at (drop 2 xs) i ≡ rank_at xs (suc i)
    same i = ap rank (next_row xs i)

    go : (i : ℕ) → i + 1 < n → rank_at (drop 2 xs) i ≤ rank_at (drop 2 xs) (i + 1)
    go i l = let a = same i in let b = same (i + 1) in let z : suc i + 1 ≡ suc (i + 1) = omega arith in omega (arith, rw z at (s.order (suc i) (omega arith)))

stepped_climbs : (n : ℕ) (xs : List ℕ) → Stepped xs 1 n → Climbs (rows_of n xs)
unfolding rows_of row_at
stepped_climbs zero xs s = tt
stepped_climbs (suc n) xs s = ((λ y m. go y (rows-place n (drop 2 xs) y m)), stepped_climbs n (drop 2 xs) (stepped_next xs n s))
  where
    go : (y : Row) → (i : ℕ) × (i < n) × (y ≡ row_at (drop 2 xs) i) → get_or xs 0 0 * 18446744073709551616 + get_or xs 1 0 ≤ rank y
    go y r =
        let e : rank y ≡ rank_at xs (suc r.0) = ap rank (r.2 ∙ next_row xs r.0) in
        let z : 0 + suc r.0 ≡ suc r.0 = omega arith in
        let h = rw z at (steps_climb xs (suc n) s 0 (suc r.0) (omega (arith, r.1))) in
        omega arith

climbs_rises : (xs : List Row) → Climbs xs → Different xs → ((x y : Row) → Memᴰ x xs → Memᴰ y xs → rank x ≡ rank y → x ≡ y) → Rises xs
climbs_rises [] c d i = tt
climbs_rises (x ∷ xs) c d i = ((λ y m. go y m (dec_lt (rank x) (rank y))), climbs_rises xs c.1 d.1 (λ y z a b. i y z (Memᴰ.tail a) (Memᴰ.tail b)))
  where
    go : (y : Row) → Memᴰ y xs → Dec (rank x < rank y) → rank x < rank y
    go y m (yes l) = l
    go y m (no l) = absurd (d.0 (rw (sym (i x y (Memᴰ.head refl) (Memᴰ.tail m) (omega (arith, c.0 y m)))) at m))

-- The law: ordered entries of the right length, among which every row is found, are the index.
pub exactly : (rows : List Row) (xs : List ℕ) → Numbered 0 rows → length xs ≡ 2 * length rows → Stepped xs 1 (length rows)
    → ((x : Row) → Memᴰ x rows → Memᴰ x (rows_of (length rows) xs)) → xs ≡ flat (ordered rows)
exactly rows xs n l s h =
    let there = rows_of (length rows) xs in
    let p = all_found rows there (numbered_different 0 rows n) h (rows-length (length rows) xs) in
    let back : (x : Row) → Memᴰ x there → Memᴰ x rows = λ x m. perm_mem (Permᴰ.symm p) m in
    let r : Rises there = climbs_rises there (stepped_climbs (length rows) xs s) (different_perm p (numbered_different 0 rows n)) (λ x y a b e. numbered_rank 0 rows n x y (back x a) (back y b) e) in
    sym (flat_rows (length rows) xs l)
    ∙ ap flat (one_list there (ordered rows) r (ordered-rises 0 rows n) (λ x m. ordered-has x rows (back x m)) (λ x m. h x (ordered_mem x rows m)))

-- The other way: the index is in order, has the right length, and has every row.

place-length : (x : Row) (ys : List Row) → length (place x ys) ≡ suc (length ys)
unfolding place
place-length x [] = refl
place-length x (y ∷ ys) = go (place-length x ys) (precedes x y)
  where
    go : length (place x ys) ≡ suc (length ys) → (b : Bool) → length (cond b (x ∷ y ∷ ys) (y ∷ place x ys)) ≡ suc (suc (length ys))
    go rest true = refl
    go rest false = ap suc rest

pub ordered-length : (xs : List Row) → length (ordered xs) ≡ length xs
unfolding ordered
ordered-length [] = refl
ordered-length (x ∷ xs) = place-length x (ordered xs) ∙ ap suc (ordered-length xs)

pub flat-length : (xs : List Row) → length (flat xs) ≡ 2 * length xs
unfolding flat
flat-length [] = refl
flat-length (x ∷ xs) = let h = flat-length xs in omega arith

pub index-length : (rows : List Row) → length (flat (ordered rows)) ≡ 2 * length rows
index-length rows = flat-length (ordered rows) ∙ ap (λ (n : ℕ). 2 * n) (ordered-length rows)

pub rows-flat : (xs : List Row) → rows_of (length xs) (flat xs) ≡ xs
unfolding rows_of flat
rows-flat [] = refl
rows-flat (x ∷ xs) = rw (rows-flat xs)

pub index-has : (rows : List Row) (x : Row) → Memᴰ x rows → Memᴰ x (rows_of (length rows) (flat (ordered rows)))
index-has rows x m = rw (← ordered-length rows, rows-flat (ordered rows)) (ordered-has x rows m)

-- strictly: the rank rises from place to place
climbing : (xs : List Row) → Rises xs → (i : ℕ) → i + 1 < length xs → rank_at (flat xs) i < rank_at (flat xs) (i + 1)
unfolding flat row_at
climbing [] u i l = absurd (omega arith)
climbing (x ∷ []) u i l = absurd (omega arith)
climbing (x ∷ y ∷ xs) u zero l = u.0 y (Memᴰ.head refl)
climbing (x ∷ y ∷ xs) u (suc i) l =
    let h = climbing (y ∷ xs) u.1 i (omega arith) in
    let a : rank_at (flat (y ∷ xs)) i ≡ rank_at (flat (x ∷ y ∷ xs)) (suc i) = ap rank (next_row (flat (x ∷ y ∷ xs)) i) in
    let b : rank_at (flat (y ∷ xs)) (i + 1) ≡ rank_at (flat (x ∷ y ∷ xs)) (suc (i + 1)) = ap rank (next_row (flat (x ∷ y ∷ xs)) (i + 1)) in
    let z : suc i + 1 ≡ suc (i + 1) = omega arith in
    rw z (omega arith)

pub index-rises : (rows : List Row) → Numbered 0 rows → (i : ℕ) → i + 1 < length rows → rank_at (flat (ordered rows)) i < rank_at (flat (ordered rows)) (i + 1)
index-rises rows n i l = climbing (ordered rows) (ordered-rises 0 rows n) i (rw (ordered-length rows) l)

-- a list that is in order and has every row is a permutation of them
pub perm_there : (rows : List Row) (xs : List ℕ) → Numbered 0 rows → ((x : Row) → Memᴰ x rows → Memᴰ x (rows_of (length rows) xs)) → Permᴰ rows (rows_of (length rows) xs)
perm_there rows xs n h = all_found rows (rows_of (length rows) xs) (numbered_different 0 rows n) h (rows-length (length rows) xs)
