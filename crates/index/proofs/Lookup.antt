-- Two halvings in the index give how many rows have an address: those below its successor, less those below it.
use Prim.Native.Nat.{ℕ, zero, suc, ◌+◌, ◌*◌, ◌-◌, ◌≤◌, ◌<◌}
use mathlib.Core.Path.{◌≡◌, refl, sym, ap, ◌∙◌}
use mathlib.Core.Bool.{Bool, true, false, cond}
use mathlib.Core.Logic.{⊎_elim}
use mathlib.Core.List.{List, [], ◌∷◌, Memᴰ, Permᴰ}
use native.Mathlib.Omega.{arith}
use native.Mathlib.Decide.{dec_lt, ℕ_discrete}
use borrow.Author.Tests.{lt-ltb, le-ltb, eq-eqb, ne_eqb}
use lib.Dec.{ltb, eqb}
use lib.ListN.{length, get_or, drop}
use Rattle.sorted_pairs.specs.Pairs.{first_at, second_at, rank_at, LowerBy}
use Rattle.index.specs.Rows.{Row}
use Rattle.index.specs.Numbered.{rows_of, Numbered}
use Rattle.index.proofs.Index.{rank, Small, row_at, next_row, numbered-small}

-- how many rows rank below x
unfoldable pub below : ℕ → List Row → ℕ
below x [] = 0
below x (r ∷ rs) = cond (ltb (rank r) x) (suc (below x rs)) (below x rs)

-- the rows with an address, in their order
unfoldable pub with_address : ℕ → List Row → List Row
with_address a [] = []
with_address a (r ∷ rs) = cond (eqb r.address a) (r ∷ with_address a rs) (with_address a rs)

swap_counts : (s t : Bool) (n : ℕ) → cond s (suc (cond t (suc n) n)) (cond t (suc n) n) ≡ cond t (suc (cond s (suc n) n)) (cond s (suc n) n)
swap_counts true true n = refl
swap_counts true false n = refl
swap_counts false true n = refl
swap_counts false false n = refl

below_perm : (x : ℕ) {rs qs : List Row} → Permᴰ rs qs → below x rs ≡ below x qs
unfolding below
below_perm x Permᴰ.nil = refl
below_perm x (Permᴰ.cons e p) = rw (e, below_perm x p)
below_perm x (Permᴰ.swap {a' = a'} {b' = b'} {l = l} e₁ e₂) = rw (e₁, e₂) (swap_counts (ltb (rank b') x) (ltb (rank a') x) (below x l))
below_perm x (Permᴰ.trans p q) = below_perm x p ∙ below_perm x q

-- a lower bound counts the rows below
lower-below : (n : ℕ) (zs : List ℕ) (x r : ℕ) → LowerBy (rank_at zs) n x r → r ≡ below x (rows_of n zs)
unfolding below rows_of row_at
lower-below zero zs x r l = omega (arith, l.most)
lower-below (suc n) zs x r l = go (λ q. lower-below n (drop 2 zs) x q) r l (dec_lt (rank_at zs 0) x)
  where
    shift : (k : ℕ) → rank_at (drop 2 zs) k ≡ rank_at zs (suc k)
    shift k = ap rank (next_row zs k)

    go : ((q : ℕ) → LowerBy (rank_at (drop 2 zs)) n x q → q ≡ below x (rows_of n (drop 2 zs))) → (r : ℕ) → LowerBy (rank_at zs) (suc n) x r → Dec (rank_at zs 0 < x)
        → r ≡ cond (ltb (get_or zs 0 0 * 18446744073709551616 + get_or zs 1 0) x) (suc (below x (rows_of n (drop 2 zs)))) (below x (rows_of n (drop 2 zs)))
    go rest zero l (yes h) = absurd (omega (arith, l.above 0 (omega arith) (omega arith)))
    go rest (suc r) l (yes h) =
        rw (lt-ltb (get_or zs 0 0 * 18446744073709551616 + get_or zs 1 0) x h)
        (ap suc (rest r
        (record {
          most = omega (arith, l.most);
          below = λ k m. let e = shift k in omega (arith, l.below (suc k) (omega arith));
          above = λ k m q. let e = shift k in omega (arith, l.above (suc k) (omega arith) (omega arith));
        })))
    go rest zero l (no h) =
        rw (le-ltb (get_or zs 0 0 * 18446744073709551616 + get_or zs 1 0) x (omega arith))
        (rest 0
        (record { most = omega arith; below = λ k m. absurd (omega arith); above = λ k m q. let e = shift k in omega (arith, l.above (suc k) (omega arith) (omega arith)) }))
    go rest (suc r) l (no h) = absurd (omega (arith, l.below 0 (omega arith)))

-- those below the next address are those below this one, and those with it
split : (a : ℕ) (rs : List Row) → Small rs → below ((a + 1) * 18446744073709551616) rs ≡ below (a * 18446744073709551616) rs + length (with_address a rs)
unfolding below with_address
split a [] s = refl
split a (r ∷ rs) s = go (split a rs (λ x m. s x (Memᴰ.tail m))) (s r (Memᴰ.head refl)) (dec_lt r.address a) (ℕ_discrete r.address a)
  where
    go : below ((a + 1) * 18446744073709551616) rs ≡ below (a * 18446744073709551616) rs + length (with_address a rs) → r.number < 18446744073709551616 → Dec (r.address < a) → Dec (r.address ≡ a)
        → cond (ltb (rank r) ((a + 1) * 18446744073709551616)) (suc (below ((a + 1) * 18446744073709551616) rs)) (below ((a + 1) * 18446744073709551616) rs)
        ≡ cond (ltb (rank r) (a * 18446744073709551616)) (suc (below (a * 18446744073709551616) rs)) (below (a * 18446744073709551616) rs) + length (cond (eqb r.address a) (r ∷ with_address a rs) (with_address a rs))
    go rest m (yes l) (yes e) = absurd (omega arith)
    go rest m (yes l) (no e) =
        rw (lt-ltb (rank r) ((a + 1) * 18446744073709551616) (omega arith), lt-ltb (rank r) (a * 18446744073709551616) (omega arith), ne_eqb _ _ e) (omega arith)
    go rest m (no l) (yes e) =
        rw (lt-ltb (rank r) ((a + 1) * 18446744073709551616) (omega arith), le-ltb (rank r) (a * 18446744073709551616) (omega arith), eq-eqb _ _ e) (omega arith)
    go rest m (no l) (no e) =
        rw (le-ltb (rank r) ((a + 1) * 18446744073709551616) (omega arith), le-ltb (rank r) (a * 18446744073709551616) (omega arith), ne_eqb _ _ e) (omega arith)

-- how many records share an address
pub sharing : (rows : List Row) (zs : List ℕ) (a low high : ℕ) → Numbered 0 rows → Permᴰ rows (rows_of (length rows) zs)
    → LowerBy (rank_at zs) (length rows) (a * 18446744073709551616) low → LowerBy (rank_at zs) (length rows) ((a + 1) * 18446744073709551616) high
    → high ≡ low + length (with_address a rows)
sharing rows zs a low high n p l h =
    lower-below (length rows) zs _ high h ∙ sym (below_perm _ p) ∙ split a rows (numbered-small 0 rows n)
    ∙ ap (λ (k : ℕ). k + length (with_address a rows)) (below_perm _ p ∙ sym (lower-below (length rows) zs _ low l))
