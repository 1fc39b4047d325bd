-- What was found of an address, with the records of one more map.
use Prim.Native.Nat.{ℕ, suc, ◌+◌}
use mathlib.Core.Path.{◌≡◌, refl, sym, ap, ◌∙◌}
use mathlib.Core.Bool.{Bool, true, false, cond}
use mathlib.Core.List.{List, [], ◌∷◌, ◌++◌, append-nil, append_assoc, Memᴰ}
use native.Mathlib.Omega.{arith}
use borrow.Author.Tests.{eq-eqb, ne_eqb}
use lib.Dec.{eqb}
use lib.ListN.{length, length-append}
use lib.Seq.{append_snoc}
use Rattle.stackmap.specs.Section.{Entry, address, entries}
use Rattle.stackmap.proofs.OneWalk.{fold}
use Rattle.questions.specs.declared.Hits.{Hits}
use Rattle.questions.specs.Kept.{noted}
use Rattle.questions.specs.Questions.{with_address}
use Rattle.questions.proofs.Kept.{passed, again, fresh}
use Rattle.linked.specs.Linked.{Map}
use Rattle.linked.specs.Find.{MapEntry, of_map, all_with_address}
use Rattle.thread_marks.specs.From.{entry_from, noted_one}
use Rattle.thread_marks.proofs.Marks.{address-from}
use Rattle.linked_search.specs.Found.{Like}

abbrev pub one_of : ℕ → Map → Entry → MapEntry
one_of i m e = record { number = i; map = m; entry = e }

-- the records of one more map come last
pub all_with_more : (a i : ℕ) (ms : List Map) (m : Map) → all_with_address a i (ms ++ m ∷ []) ≡ all_with_address a i ms ++ of_map (i + length ms) m (with_address a (entries m.content))
unfolding all_with_address
all_with_more a i [] m = let z : i + 0 ≡ i = omega arith in rw (z, append-nil)
all_with_more a i (n ∷ ms) m =
    let z : suc i + length ms ≡ i + suc (length ms) = omega arith in
    rw (all_with_more a (suc i) ms m, z) (sym (append_assoc (of_map i n (with_address a (entries n.content))) (all_with_address a (suc i) ms) (of_map (i + suc (length ms)) m (with_address a (entries m.content)))))

module _ (F : MapEntry → ℕ → Type 0) (a base i : ℕ) (m : Map) where
  like_one : (e : Entry) (xs : List MapEntry) (h : Hits) → eqb (address e) a ≡ true → F (one_of i m e) (base + e.first) → Like F xs h
      → Like F (xs ++ one_of i m e ∷ []) (noted a (entry_from base e) h)
  like_one e [] h q f l =
      rw (fresh a (entry_from base e) h (ap (λ (x : ℕ). eqb x a) (address-from base e) ∙ q) (eq-eqb _ _ l.by))
      (record { by = record { index_is = refl; function_is = refl; sharing_is = refl; placed = f } })
  like_one e (x ∷ xs) h q f l =
      let k : length (xs ++ one_of i m e ∷ []) ≡ length xs + 1 = length-append xs (one_of i m e ∷ []) in
      let s : h.sharing ≡ suc (length xs) = l.by.sharing_is in
      let n : eqb h.sharing 0 ≡ false = ne_eqb h.sharing 0 (λ (z : h.sharing ≡ 0). omega arith) in
      rw (again a (entry_from base e) h (ap (λ (x : ℕ). eqb x a) (address-from base e) ∙ q) n)
      (record { by = record { index_is = l.by.index_is; function_is = l.by.function_is; sharing_is = omega arith; placed = l.by.placed } })

  pub like_on : (es : List Entry) (xs : List MapEntry) (h : Hits) → ((e : Entry) → Memᴰ e es → F (one_of i m e) (base + e.first)) → Like F xs h
      → Like F (xs ++ of_map i m (with_address a es)) (fold (noted_one base a) es h)
  unfolding with_address of_map
  like_on [] xs h f l = rw (append-nil xs) l
  like_on (e ∷ es) xs h f l = go (λ ys g. like_on es ys g (λ d n. f d (Memᴰ.tail n))) (eqb (address e) a) refl
    where
      go : ((ys : List MapEntry) (g : Hits) → Like F ys g → Like F (ys ++ of_map i m (with_address a es)) (fold (noted_one base a) es g)) → (b : Bool) → eqb (address e) a ≡ b
          → Like F (xs ++ of_map i m (cond (eqb (address e) a) (e ∷ with_address a es) (with_address a es))) (fold (noted_one base a) es (noted a (entry_from base e) h))
      go rest true q =
          rw (q, ← append_snoc xs (one_of i m e) (of_map i m (with_address a es)))
          (rest (xs ++ one_of i m e ∷ []) (noted a (entry_from base e) h) (like_one e xs h q (f e (Memᴰ.head refl)) l))
      go rest false q =
          rw (q, passed a (entry_from base e) h (ap (λ (x : ℕ). eqb x a) (address-from base e) ∙ q))
          (rest xs h l)

-- the same numbers at another place
pub like_same : {F G : MapEntry → ℕ → Type 0} (xs : List MapEntry) (g h : Hits) → h.index ≡ g.index → h.function ≡ g.function → h.sharing ≡ g.sharing
    → ((x : MapEntry) → F x g.first → G x h.first) → Like F xs g → Like G xs h
like_same [] g h a b d f l = record { by = d ∙ l.by }
like_same (x ∷ xs) g h a b d f l =
    record { by = record { index_is = a ∙ l.by.index_is; function_is = b ∙ l.by.function_is; sharing_is = d ∙ l.by.sharing_is; placed = f x l.by.placed } }
