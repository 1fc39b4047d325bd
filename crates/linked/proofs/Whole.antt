-- What cutting into maps tells of them, and that joined maps are cut again.
use Prim.Native.Nat.{ℕ, zero, suc, ◌+◌, ◌*◌, ◌≤◌, ◌<◌}
use mathlib.Core.Path.{◌≡◌, refl, sym, ap, ◌∙◌}
use mathlib.Core.List.Memᴰ
use mathlib.Core.List.{List, [], ◌∷◌, ◌++◌, append-nil, append_assoc, Memᴰ}
use mathlib.Core.Logic.{⊎_elim}
use native.Mathlib.Omega.{arith}
use native.Mathlib.Nat.{add-zero, zero-add}
use lib.ListN.{length, take, drop, length-drop, length-append, take-append-drop}
use lib.Seq.{take-append_seam, drop-append_seam}
use Rattle.stackmap.specs.Verdict.{Refused}
use Rattle.stackmap.specs.Check.{section_check, Accepted}
use Rattle.linked.specs.Linked.{Map, map_at, Cut, maps, refusal, before, cut_from, cut}
use Rattle.linked.specs.Laws.{EachAccepted, joined, laid, contents, Joined, BoundSuffices}
use Rattle.linked.proofs.Prefix.{prefix, extension, walked_least, accepted_walked}
use Rattle.linked.proofs.Cutting.{Looked, last, more, wrong, looked, cut-last, cut-more, cut_wrong, bounds_same}

pub bound_suffices : BoundSuffices
unfolding cut
bound_suffices s bound h = bounds_same bound (suc (length s)) 0 s h (omega arith)

pub none-there : {n p : ℕ} {ms : List Map} {A : Type 0} → ◌≡◌ {A = Cut} (refusal n p) (maps ms) → A
none-there h = absurd (let z : ◌≡◌ {A = ℕ} 0 1 = cc in omega arith)

pub before-maps : (m : Map) (c : Cut) (ms : List Map) → before m c ≡ maps ms → (ns : List Map) × (c ≡ maps ns) × (ms ≡ m ∷ ns)
before-maps m (maps ns) ms h = (ns, refl, cc)
before-maps m (refusal n p) ms h = none-there h

accepted-least : (s : List ℕ) → Accepted s → 16 ≤ length s
accepted-least s k = let l = walked_least s (length s) (accepted_walked s k) in omega arith

-- what cutting into maps tells of them: each is accepted, they stand one after the other, and are all bytes
record Whole (at : ℕ) (s : List ℕ) (ms : List Map) : Type 0 where
  accepted : (m : Map) → Memᴰ m ms → Accepted m.content
  all : joined (contents ms) ≡ s
  stand : ms ≡ laid at (contents ms)
  most : 16 * length ms ≤ length s

whole-last : (at : ℕ) (s : List ℕ) → Accepted s → Whole at s (map_at at s ∷ [])
unfolding joined contents laid
whole-last at s k =
    record {
      accepted = λ m i. ⊎_elim (λ e. rw e k) (λ j. absurd (Memᴰ.not-nil j)) (Memᴰ.cases_cons i);
      all = append-nil s;
      stand = refl;
      most = let l = accepted-least s k in omega arith;
    }

whole-more : (at p : ℕ) (s : List ℕ) (ms : List Map) → section_check s ≡ Refused 9 p → Whole (at + p) (drop p s) ms → Whole at s (map_at at (take p s) ∷ ms)
unfolding joined contents laid
whole-more at p s ms e w =
    let f = prefix s p e in
    let l = f.least in
    let i = f.inside in
    let n = w.most in
    let z = length-drop p s in
    record {
      accepted = λ m i. ⊎_elim (λ q. rw q f.accepted) (λ j. w.accepted m j) (Memᴰ.cases_cons i);
      all = rw w.all (take-append-drop p s);
      stand = rw f.long (ap (λ (ns : List Map). map_at at (take p s) ∷ ns) w.stand);
      most = omega arith;
    }

whole : (b at : ℕ) (s : List ℕ) (ms : List Map) → cut_from b at s ≡ maps ms → Whole at s ms
whole zero at s ms h = unfold cut_from in none-there h
whole (suc b) at s ms h = go (λ p ns. whole b (at + p) (drop p s) ns) (looked s)
  where
    go : ((p : ℕ) (ns : List Map) → cut_from b (at + p) (drop p s) ≡ maps ns → Whole (at + p) (drop p s) ns) → Looked s → Whole at s ms
    go rest (last k) =
        let e = sym (cut-last b at s k) ∙ h in
        let d : ms ≡ map_at at s ∷ [] = cc in
        rw d (whole-last at s k)
    go rest (wrong n p e o) = none-there (sym (cut_wrong b at s n p e o) ∙ h)
    go rest (more p e) =
        let d = before-maps (map_at at (take p s)) _ ms (sym (cut-more b at s p e) ∙ h) in
        rw d.2 (whole-more at p s d.0 e (rest p d.0 d.1))

cut-whole : (s : List ℕ) (ms : List Map) → cut s ≡ maps ms → Whole 0 s ms
unfolding cut
cut-whole s ms h = whole (suc (length s)) 0 s ms h

-- no map has fewer than 16 bytes
pub maps-most : (s : List ℕ) (ms : List Map) → cut s ≡ maps ms → 16 * length ms ≤ length s
maps-most s ms h = (cut-whole s ms h).most

pub each_accepted : EachAccepted
each_accepted s ms h = (cut-whole s ms h).accepted

-- Joined maps.

cut_again : (b at : ℕ) (c : List ℕ) (cs : List (List ℕ)) → ((x : List ℕ) → Memᴰ x (c ∷ cs) → Accepted x) → length (joined (c ∷ cs)) ≤ 16777216 → length (joined (c ∷ cs)) < b
    → cut_from b at (joined (c ∷ cs)) ≡ maps (laid at (c ∷ cs))
unfolding joined laid
cut_again zero at c cs k l h = absurd (omega arith)
cut_again (suc b) at c [] k l h = rw (append-nil c) (cut-last b at c (k c (Memᴰ.head refl)))
cut_again (suc b) at c (d ∷ cs) k l h =
    let a = k c (Memᴰ.head refl) in
    let i = accepted-least c a in
    let j = accepted-least d (k d (Memᴰ.tail (Memᴰ.head refl))) in
    let m = length-append c (d ++ joined cs) in
    let n = length-append d (joined cs) in
    let e = extension c (d ++ joined cs) a (omega arith) l in
    let ih = cut_again b (at + length c) d cs (λ x i. k x (Memᴰ.tail i)) (omega arith) (omega arith) in
    cut-more b at (c ++ (d ++ joined cs)) (length c) e
    ∙ rw (take-append_seam c (d ++ joined cs), drop-append_seam c (d ++ joined cs), ih)

joined-cut : (c : List ℕ) (cs : List (List ℕ)) → ((x : List ℕ) → Memᴰ x (c ∷ cs) → Accepted x) → length (joined (c ∷ cs)) ≤ 16777216
    → cut (joined (c ∷ cs)) ≡ maps (laid 0 (c ∷ cs))
unfolding cut
joined-cut c cs k l = cut_again (suc (length (joined (c ∷ cs)))) 0 c cs k l (omega arith)

after : (b at : ℕ) (cs : List (List ℕ)) (r : List ℕ) (n p : ℕ) → ((x : List ℕ) → Memᴰ x cs → Accepted x) → 0 < length r → length (joined cs ++ r) ≤ 16777216
    → length (joined cs ++ r) < b → section_check r ≡ Refused n p → (n ≡ 9 → ⊥) → cut_from b at (joined cs ++ r) ≡ refusal n (at + length (joined cs) + p)
unfolding joined
after zero at cs r n p k z l h e o = absurd (omega arith)
after (suc b) at [] r n p k z l h e o = rw add-zero (cut_wrong b at r n p e o)
after (suc b) at (c ∷ cs) r n p k z l h e o =
    let a = k c (Memᴰ.head refl) in
    let i = accepted-least c a in
    let s = append_assoc c (joined cs) r in
    let m = length-append c (joined cs ++ r) in
    let q = length-append (joined cs) r in
    let l₂ : length (c ++ (joined cs ++ r)) ≤ 16777216 = rw s at l in
    let h₂ : length (c ++ (joined cs ++ r)) < suc b = rw s at h in
    let x = extension c (joined cs ++ r) a (omega arith) l₂ in
    let ih = after b (at + length c) cs r n p (λ y j. k y (Memᴰ.tail j)) z (omega arith) (omega arith) e o in
    let w = length-append c (joined cs) in
    let d : at + length c + length (joined cs) + p ≡ at + length (c ++ joined cs) + p = omega arith in
    ap (cut_from (suc b) at) s ∙ cut-more b at (c ++ (joined cs ++ r)) (length c) x
    ∙ rw (drop-append_seam c (joined cs ++ r), ih) (ap (refusal n) d)

after-all : (cs : List (List ℕ)) (r : List ℕ) (n p : ℕ) → ((x : List ℕ) → Memᴰ x cs → Accepted x) → 0 < length r → length (joined cs ++ r) ≤ 16777216
    → section_check r ≡ Refused n p → (n ≡ 9 → ⊥) → cut (joined cs ++ r) ≡ refusal n (length (joined cs) + p)
unfolding cut
after-all cs r n p k z l e o = rw zero-add at (after (suc (length (joined cs ++ r))) 0 cs r n p k z l (omega arith) e o)

pub joined-whole : Joined
joined-whole =
    record {
      whole = λ s ms h. (cut-whole s ms h).all;
      placed = λ s ms h. (cut-whole s ms h).stand;
      cut_again = joined-cut;
      refused_after = after-all;
    }
