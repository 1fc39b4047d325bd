-- Whether a row is in a list of rows, and whether a pair has a place.
use Prim.Native.Nat.{ℕ, ◌+◌, ◌<◌}
use mathlib.Core.Path.{◌≡◌, refl, sym, ap, ◌∙◌}
use mathlib.Core.Bool.{Bool, true, false, ◌&&◌, ◌||◌, true≢false}
use mathlib.Core.Logic.{⊎_elim}
use mathlib.Core.List.Memᴰ
use mathlib.Core.List.{List, [], ◌∷◌, Memᴰ}
use native.Mathlib.Omega.{arith}
use native.Mathlib.Decide.{dec_lt}
use borrow.Author.Tests.{eq-eqb, eqb-true, le-leb, lt-leb}
use lib.Dec.{eqb, leb}
use Rattle.sorted_pairs.specs.Pairs.{Placed}
use Rattle.index.specs.Rows.{Row}
use Rattle.index.specs.Numbered.{rows_of}
use Rattle.index.proofs.Index.{row_at, rows-has, rows-place}
use Rattle.index_follow.specs.Seen.{is_in}

-- A row in a list of rows.

pub and_first : (a b : Bool) → (a && b) ≡ true → a ≡ true
and_first true b h = refl
and_first false b h = h

pub and_rest : (a b : Bool) → (a && b) ≡ true → b ≡ true
and_rest true b h = h
and_rest false b h = absurd (true≢false (sym h))

one_row : (x y : Row) → (eqb y.address x.address && eqb y.number x.number) ≡ true → x ≡ y
one_row x y h =
    let a = eqb-true y.address x.address (and_first (eqb y.address x.address) (eqb y.number x.number) h) in
    let n = eqb-true y.number x.number (and_rest (eqb y.address x.address) (eqb y.number x.number) h) in
    λ i. record { address = sym a i; number = sym n i }

pub in_mem : (x : Row) (ys : List Row) → is_in x ys ≡ true → Memᴰ x ys
unfolding is_in
in_mem x [] h = absurd (true≢false (sym h))
in_mem x (y ∷ ys) h = go (in_mem x ys) (eqb y.address x.address && eqb y.number x.number) refl
  where
    go : (is_in x ys ≡ true → Memᴰ x ys) → (b : Bool) → (eqb y.address x.address && eqb y.number x.number) ≡ b → Memᴰ x (y ∷ ys)
    go rest true e = Memᴰ.head (one_row x y e)
    go rest false e = Memᴰ.tail (rest (rw e at h))

or_true : (b : Bool) → (b || true) ≡ true
or_true true = refl
or_true false = refl

pub mem_in : (x : Row) (ys : List Row) → Memᴰ x ys → is_in x ys ≡ true
unfolding is_in
mem_in x [] m = absurd (Memᴰ.not-nil m)
mem_in x (y ∷ ys) m =
    ⊎_elim
    (λ e. let a : y.address ≡ x.address = ap (λ (r : Row). r.address) (sym e) in let n : y.number ≡ x.number = ap (λ (r : Row). r.number) (sym e) in rw (eq-eqb _ _ a, eq-eqb _ _ n))
    (λ k. rw (mem_in x ys k) (or_true (eqb y.address x.address && eqb y.number x.number)))
    (Memᴰ.cases_cons m)

not_in : (x : Row) (ys : List Row) → (Memᴰ x ys → ⊥) → is_in x ys ≡ false
not_in x ys h = go (is_in x ys) refl
  where
    go : (b : Bool) → is_in x ys ≡ b → is_in x ys ≡ false
    go true e = absurd (h (in_mem x ys e))
    go false e = e

-- a row is in the list exactly if its place is below n
pub placed_in : (xs : List ℕ) (n r : ℕ) (x : Row) → Placed xs n x.address x.number r → leb (r + 1) n ≡ is_in x (rows_of n xs)
unfolding row_at
placed_in xs n r x p = go (dec_lt r n)
  where
    go : Dec (r < n) → leb (r + 1) n ≡ is_in x (rows_of n xs)
    go (yes l) =
        let h = p.here l in
        let e : row_at xs r ≡ x = λ i. record { address = h.0 i; number = h.1 i } in
        le-leb (r + 1) n (omega arith) ∙ sym (mem_in x (rows_of n xs) (rw e at (rows-has n xs r l)))
    go (no l) =
        let z : r ≡ n = omega (arith, p.most) in
        lt-leb (r + 1) n (omega arith)
        ∙ sym (not_in x (rows_of n xs) (λ m. let q = rows-place n xs x m in p.none z q.0 q.1 (sym (ap (λ (w : Row). w.address) q.2)) (sym (ap (λ (w : Row). w.number) q.2))))
