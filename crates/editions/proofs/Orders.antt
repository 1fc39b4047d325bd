-- Lists of editions in another order: what is found, how many there are, and what is left without one.
use Prim.Native.Nat.{ℕ, suc}
use mathlib.Core.Path.{◌≡◌, refl, sym, ap, ◌∙◌}
use mathlib.Core.Bool.{Bool, true, false, cond}
use mathlib.Core.Logic.{⊎_elim}
use mathlib.Core.Option.{some}
use mathlib.Core.List.Memᴰ
use mathlib.Core.List.Permᴰ
use mathlib.Core.List.{List, [], ◌∷◌, Memᴰ, Permᴰ}
use borrow.Author.Tests.{eqb-true}
use lib.Dec.{eqb}
use lib.ListN.{length}
use Rattle.editions.specs.declared.Edition.{Edition}
use Rattle.editions.specs.History.{but_not, find}

perm_mem : {a : Edition} {xs ys : List Edition} → Permᴰ xs ys → Memᴰ a xs → Memᴰ a ys
perm_mem Permᴰ.nil m = m
perm_mem (Permᴰ.cons e p) (Memᴰ.head q) = Memᴰ.head (q ∙ e)
perm_mem (Permᴰ.cons e p) (Memᴰ.tail m) = Memᴰ.tail (perm_mem p m)
perm_mem (Permᴰ.swap e₁ e₂) (Memᴰ.head q) = Memᴰ.tail (Memᴰ.head (q ∙ e₁))
perm_mem (Permᴰ.swap e₁ e₂) (Memᴰ.tail (Memᴰ.head q)) = Memᴰ.head (q ∙ e₂)
perm_mem (Permᴰ.swap e₁ e₂) (Memᴰ.tail (Memᴰ.tail m)) = Memᴰ.tail (Memᴰ.tail m)
perm_mem (Permᴰ.trans p q) m = perm_mem q (perm_mem p m)

pub perm_length : {xs ys : List Edition} → Permᴰ xs ys → length xs ≡ length ys
perm_length Permᴰ.nil = refl
perm_length (Permᴰ.cons e p) = ap suc (perm_length p)
perm_length (Permᴰ.swap e₁ e₂) = refl
perm_length (Permᴰ.trans p q) = perm_length p ∙ perm_length q

-- no two have one number
abbrev pub Apart : List Edition → Type 0
Apart [] = Unit {0}
Apart (x ∷ xs) = ((y : Edition) → Memᴰ y xs → x.number ≡ y.number → ⊥) × Apart xs

abbrev pub num : Edition → ℕ
num x = x.number

pub apart_perm : {xs ys : List Edition} → Permᴰ xs ys → Apart xs → Apart ys
apart_perm Permᴰ.nil d = d
apart_perm (Permᴰ.cons e p) d = ((λ y m z. d.0 y (perm_mem (Permᴰ.symm p) m) (ap num e ∙ z)), apart_perm p d.1)
apart_perm (Permᴰ.swap e₁ e₂) d = (
  (λ y m z. ⊎_elim (λ q. d.0 _ (Memᴰ.head refl) (ap num (e₁ ∙ sym q) ∙ sym z ∙ sym (ap num e₂))) (λ k. d.1.0 y k (ap num e₂ ∙ z)) (Memᴰ.cases_cons m)),
  ((λ y m z. d.0 y (Memᴰ.tail m) (ap num e₁ ∙ z)), d.1.1),
)
apart_perm (Permᴰ.trans p q) d = apart_perm q (apart_perm p d)

-- a search in another order
swap_found : {A : Type 0} (s t : Bool) (x y z : A) → (s ≡ true → t ≡ true → ⊥) → cond s x (cond t y z) ≡ cond t y (cond s x z)
swap_found true true x y z n = absurd (n refl refl)
swap_found true false x y z n = refl
swap_found false true x y z n = refl
swap_found false false x y z n = refl

pub find_perm : (e : ℕ) {xs ys : List Edition} → Permᴰ xs ys → Apart xs → find e xs ≡ find e ys
unfolding find
find_perm e Permᴰ.nil d = refl
find_perm e (Permᴰ.cons q p) d = rw (q, find_perm e p d.1)
find_perm e (Permᴰ.swap {a} {b} {a'} {b'} {l} e₁ e₂) d =
    rw (e₁, e₂)
    (swap_found (eqb b'.number e) (eqb a'.number e) (some b'.settings) (some a'.settings) (find e l)
    (λ s t. d.0 b (Memᴰ.head refl) (ap num e₁ ∙ eqb-true _ _ s ∙ sym (eqb-true _ _ t) ∙ sym (ap num e₂))))
find_perm e (Permᴰ.trans p q) d = find_perm e p d ∙ find_perm e q (apart_perm p d)

but_cons : (t : Bool) (x : Edition) {xs ys : List Edition} → Permᴰ xs ys → Permᴰ (cond t xs (x ∷ xs)) (cond t ys (x ∷ ys))
but_cons true x p = p
but_cons false x p = Permᴰ.cons refl p

but_swap : (s t : Bool) (x y : Edition) (l : List Edition)
    → Permᴰ (cond s (cond t l (y ∷ l)) (x ∷ cond t l (y ∷ l))) (cond t (cond s l (x ∷ l)) (y ∷ cond s l (x ∷ l)))
but_swap true true x y l = Permᴰ.refl l
but_swap true false x y l = Permᴰ.refl (y ∷ l)
but_swap false true x y l = Permᴰ.refl (x ∷ l)
but_swap false false x y l = Permᴰ.swap refl refl

pub but_perm : (e : ℕ) {xs ys : List Edition} → Permᴰ xs ys → Permᴰ (but_not e xs) (but_not e ys)
unfolding but_not
but_perm e Permᴰ.nil = Permᴰ.nil
but_perm e (Permᴰ.cons {b = b} q p) = rw q (but_cons (eqb b.number e) b (but_perm e p))
but_perm e (Permᴰ.swap {a' = a'} {b' = b'} {l = l} e₁ e₂) = rw (e₁, e₂) (but_swap (eqb b'.number e) (eqb a'.number e) b' a' (but_not e l))
but_perm e (Permᴰ.trans p q) = Permᴰ.trans (but_perm e p) (but_perm e q)

pub but_mem : (e : ℕ) (xs : List Edition) (x : Edition) → Memᴰ x (but_not e xs) → Memᴰ x xs
unfolding but_not
but_mem e [] x m = m
but_mem e (y ∷ ys) x m = go (but_mem e ys x) (eqb y.number e) m
  where
    go : (Memᴰ x (but_not e ys) → Memᴰ x ys) → (t : Bool) → Memᴰ x (cond t (but_not e ys) (y ∷ but_not e ys)) → Memᴰ x (y ∷ ys)
    go rest true k = Memᴰ.tail (rest k)
    go rest false k = ⊎_elim (λ q. Memᴰ.head q) (λ j. Memᴰ.tail (rest j)) (Memᴰ.cases_cons k)

pub but_apart : (e : ℕ) (xs : List Edition) → Apart xs → Apart (but_not e xs)
unfolding but_not
but_apart e [] d = tt
but_apart e (y ∷ ys) d = go (but_apart e ys d.1) (eqb y.number e)
  where
    go : Apart (but_not e ys) → (t : Bool) → Apart (cond t (but_not e ys) (y ∷ but_not e ys))
    go rest true = rest
    go rest false = ((λ x m. d.0 x (but_mem e ys x m)), rest)
