-- A search place by place, and what a store's definitions say at the place that it finds.
use Prim.Native.Nat.{ℕ, zero, suc, ◌+◌, ◌≤◌, ◌<◌}
use mathlib.Core.Path.{◌≡◌, refl, sym, ap, ◌∙◌}
use mathlib.Core.Bool.{Bool, true, false, cond, ◌||◌, true≢false}
use native.Mathlib.Numerals.{one-add}
use Rattle.std.specs.Option.{is_some}
use mathlib.Core.Option.{none, some}
use mathlib.Core.List.{List, [], ◌∷◌}
use native.Mathlib.Omega.{arith}
use borrow.Author.Tests.{lt-ltb, le-ltb, ltb-true, ltb-false}
use Rattle.std.specs.Prelude.{Option, Some, None, MatchOption, MatchResult, position, ok_or}
use Rattle.std.proofs.lemmas.List.Recursion.{is_position_or_len}
use lib.Dec.{ltb, leb-suc-suc}
use lib.ListN.{length, get_or, set}
use Rattle.editions.specs.declared.Settings.{Settings}
use Rattle.editions.specs.declared.Edition.{Edition}
use Rattle.editions.specs.declared.Store.{Store}
use Rattle.editions.specs.Calls.{number_most, settings_right, refuse}
use Rattle.editions.specs.Store.{free, holds, look, without, room, kept, make_in}
use Rattle.editions_store.specs.Places.{is_free, first, clear, clear_up_to, made_at}

-- The search.

-- what `position` answers, said of the first such place
pub place-is : (p : Edition → Bool) (xs : List Edition) (r : Option ℕ) → r ≡ position p xs
    → MatchOption r (length xs ≤ first p xs) (λ i. (i ≡ first p xs) × (i < length xs))
unfolding first
place-is p xs r e = rw (e, ← is_position_or_len (first p) p refl (λ x ys. rw (one-add (first p ys))) xs) (go (ltb (first p xs) (length xs)) refl)
  where
    go : (b : Bool) → ltb (first p xs) (length xs) ≡ b
        → MatchOption (cond b (Some (first p xs)) None) (length xs ≤ first p xs) (λ i. (i ≡ first p xs) × (i < length xs))
    go true h = (refl, ltb-true _ _ h)
    go false h = ltb-false _ _ h

-- A free place.

room-first : (xs : List Edition) → room xs ≡ ltb (first is_free xs) (length xs)
unfolding room first
room-first [] = refl
room-first (x ∷ xs) = go (room-first xs) (is_free x)
  where
    go : room xs ≡ ltb (first is_free xs) (length xs) → (t : Bool) → (t || room xs) ≡ ltb (cond t 0 (suc (first is_free xs))) (suc (length xs))
    go rest true = sym (lt-ltb 0 (suc (length xs)) (omega arith))
    go rest false = rest ∙ sym (leb-suc-suc (suc (first is_free xs)) (length xs))

pub has_room : (xs : List Edition) → first is_free xs < length xs → room xs ≡ true
has_room xs l = room-first xs ∙ lt-ltb (first is_free xs) (length xs) l

pub no_room : (xs : List Edition) → length xs ≤ first is_free xs → room xs ≡ false
no_room xs l = room-first xs ∙ le-ltb (first is_free xs) (length xs) l

pub kept-first : (y : Edition) (xs : List Edition) → kept y xs ≡ set xs (first is_free xs) y
unfolding kept first
kept-first y [] = refl
kept-first y (x ∷ xs) = go (kept-first y xs) (is_free x)
  where
    go : kept y xs ≡ set xs (first is_free xs) y → (t : Bool) → cond t (y ∷ xs) (x ∷ kept y xs) ≡ set (x ∷ xs) (cond t 0 (suc (first is_free xs))) y
    go rest true = refl
    go rest false = ap (λ (r : List Edition). x ∷ r) rest

-- where a new edition is kept, as the search for a free place tells it
pub place-for : (st : Store) (s : Settings) (r : Option ℕ) → settings_right s ≡ true → st.greatest < number_most → r ≡ position is_free st.slots
    → MatchResult (ok_or {E = ℕ} r 30) (λ i. (i < length st.slots) × (st.greatest < number_most) × (make_in st s ≡ made_at st s i)) (λ n. make_in st s ≡ refuse n st)
unfolding make_in
place-for st s None a b e = let l = place-is is_free st.slots None e in rw (a, lt-ltb st.greatest number_most b, no_room st.slots l)
place-for st s (Some i) a b e =
    let (k, l) = place-is is_free st.slots (Some i) e in
    let n : first is_free st.slots < length st.slots = omega arith in
    (l, b, rw (a, lt-ltb st.greatest number_most b, has_room st.slots n, kept-first (record { number = st.greatest + 1; settings = s }) st.slots, k))

-- A place with an edition.

pub look_none : (e : ℕ) (xs : List Edition) → length xs ≤ first (holds e) xs → look e xs ≡ none
unfolding look first
look_none e [] l = refl
look_none e (x ∷ xs) l = go (look_none e xs) (holds e x) l
  where
    go : (length xs ≤ first (holds e) xs → look e xs ≡ none) → (t : Bool) → suc (length xs) ≤ cond t 0 (suc (first (holds e) xs))
        → cond t (some x.settings) (look e xs) ≡ none
    go rest true k = absurd (omega arith)
    go rest false k = rest (omega arith)

pub look-some : (e : ℕ) (xs : List Edition) (d : Edition) → first (holds e) xs < length xs → look e xs ≡ some (get_or xs (first (holds e) xs) d).settings
unfolding look first
look-some e [] d l = absurd (omega arith)
look-some e (x ∷ xs) d l = go (look-some e xs d) (holds e x) l
  where
    go : (first (holds e) xs < length xs → look e xs ≡ some (get_or xs (first (holds e) xs) d).settings) → (t : Bool)
        → cond t 0 (suc (first (holds e) xs)) < suc (length xs)
        → cond t (some x.settings) (look e xs) ≡ some (get_or (x ∷ xs) (cond t 0 (suc (first (holds e) xs))) d).settings
    go rest true k = refl
    go rest false k = rest (omega arith)

-- what the search for it tells of an edition
pub look-is : (e : ℕ) (xs : List Edition) (r : Option ℕ) → r ≡ position (holds e) xs
    → MatchOption r (look e xs ≡ none) (λ i. (i < length xs) × ((d : Edition) → look e xs ≡ some (get_or xs i d).settings))
look-is e xs None h = look_none e xs (place-is (holds e) xs None h)
look-is e xs (Some i) h =
    let (k, l) = place-is (holds e) xs (Some i) h in
    (l, λ d. rw k (look-some e xs d (omega arith)))

pub look-missing : (e : ℕ) (xs : List Edition) (r : Option ℕ) → r ≡ position (holds e) xs → is_some r ≡ false → look e xs ≡ none
look-missing e xs None h n = look-is e xs None h
look-missing e xs (Some i) h n = absurd (true≢false n)

pub look-there : (e : ℕ) (xs : List Edition) (r : Option ℕ) → r ≡ position (holds e) xs → is_some r ≡ true → (s : Settings) × (look e xs ≡ some s)
look-there e xs None h n = absurd (true≢false (sym n))
look-there e xs (Some i) h n = (_, (look-is e xs (Some i) h).1 free)

-- A retirement, place by place.

pub clear_step : (e i : ℕ) (xs : List Edition) → clear_up_to e (i + 1) xs ≡ set (clear_up_to e i xs) i (clear e (get_or (clear_up_to e i xs) i free))
unfolding clear_up_to
clear_step e i xs = let k : i + 1 ≡ suc i = omega arith in rw k

clear_cons : (e i : ℕ) (x : Edition) (xs : List Edition) → clear_up_to e (suc i) (x ∷ xs) ≡ clear e x ∷ clear_up_to e i xs
unfolding clear_up_to
clear_cons e zero x xs = refl
clear_cons e (suc i) x xs = ap (λ (l : List Edition). set l (suc i) (clear e (get_or l (suc i) free))) (clear_cons e i x xs)

cleared_all : (e : ℕ) (xs : List Edition) → clear_up_to e (length xs) xs ≡ without e xs
unfolding clear_up_to without
cleared_all e [] = refl
cleared_all e (x ∷ xs) = clear_cons e (length xs) x xs ∙ ap (λ (l : List Edition). clear e x ∷ l) (cleared_all e xs)

pub all_cleared : (e i : ℕ) (xs : List Edition) → i ≡ length xs → clear_up_to e i xs ≡ without e xs
all_cleared e i xs k = ap (λ (j : ℕ). clear_up_to e j xs) k ∙ cleared_all e xs

pub start : (e : ℕ) (xs : List Edition) → xs ≡ clear_up_to e 0 xs
unfolding clear_up_to
start e xs = refl
