-- A list of moves, over any tasks: moves that share no byte do not see each other.
use Prim.Native.Nat.{ℕ, ◌+◌, ◌-◌, ◌≤◌}
use mathlib.Core.Path.{◌≡◌, refl, ap, ◌∙◌}
use mathlib.Core.List.Memᴰ
use mathlib.Core.List.{List, [], ◌∷◌, map, map-map, Memᴰ}
use lib.ListN.{length, get_or}
use Rattle.moves.specs.Window.{part, splice, In}
use Rattle.moves.proofs.Splice.{part_length, splice-length, splice_in, splice_out, splice-part}

-- What one frame does to an image: it reads and writes the `size` bytes from `off`, and nothing else.
-- A frame that is refused before its window is known has size 0.
pub record Task (R : Type 0) : Type 0 where
  pub off : ℕ
  pub size : ℕ
  pub answer : List ℕ → R
  pub bytes : List ℕ → List ℕ

pub record Good {R : Type 0} (n : ℕ) (t : Task R) : Type 0 where
  pub fits : t.off + t.size ≤ n
  pub keeps : (w : List ℕ) → length (t.bytes w) ≡ length w

abbrev pub Apart : {R : Type 0} → Task R → Task R → Type 0
Apart t u = (i : ℕ) → In t.off t.size i → In u.off u.size i → ⊥

-- one move
abbrev pub answer_in : {R : Type 0} → List ℕ → Task R → R
answer_in im t = t.answer (part im t.off t.size)

abbrev pub new_part : {R : Type 0} → List ℕ → Task R → List ℕ
new_part im t = t.bytes (part im t.off t.size)

unfoldable pub after : {R : Type 0} → List ℕ → Task R → List ℕ
after im t = splice im t.off t.size (new_part im t)

-- a list of moves, one after the other: the answers, and the image that is left
abbrev pub answers : {R : Type 0} → List (Task R) → List ℕ → List R
answers [] im = []
answers (t ∷ ts) im = answer_in im t ∷ answers ts (after im t)

abbrev pub left : {R : Type 0} → List (Task R) → List ℕ → List ℕ
left [] im = im
left (t ∷ ts) im = left ts (after im t)

-- each task is good, and no two share a byte
abbrev pub AllApart : {R : Type 0} → Task R → List (Task R) → Type 0
AllApart t [] = Unit {0}
AllApart t (u ∷ us) = Apart t u × AllApart t us

abbrev pub Separate : {R : Type 0} → ℕ → List (Task R) → Type 0
Separate n [] = Unit {0}
Separate n (t ∷ ts) = Good n t × AllApart t ts × Separate n ts

-- the same for frames: each is planned by the length of the image that its move finds
module _ {F R : Type 0} (plan : ℕ → F → Task R) where
  abbrev pub run_answers : List F → List ℕ → List R
  run_answers [] im = []
  run_answers (f ∷ fs) im = answer_in im (plan (length im) f) ∷ run_answers fs (after im (plan (length im) f))

  abbrev pub run_left : List F → List ℕ → List ℕ
  run_left [] im = im
  run_left (f ∷ fs) im = run_left fs (after im (plan (length im) f))

module _ {R : Type 0} where
  new-length : (im : List ℕ) (t : Task R) → Good (length im) t → length (new_part im t) ≡ t.size
  new-length im t g = g.keeps (part im t.off t.size) ∙ part_length im t.off t.size g.fits

  pub after-length : (im : List ℕ) (t : Task R) → Good (length im) t → length (after im t) ≡ length im
  unfolding after
  after-length im t g = splice-length im t.off t.size (new_part im t) g.fits (new-length im t g)

  pub after_in : (im : List ℕ) (t : Task R) → Good (length im) t → (i : ℕ) → In t.off t.size i → get_or (after im t) i 0 ≡ get_or (new_part im t) (i - t.off) 0
  unfolding after
  after_in im t g = splice_in im t.off t.size (new_part im t) g.fits (new-length im t g)

  pub after_out : (im : List ℕ) (t : Task R) → Good (length im) t → (i : ℕ) → (In t.off t.size i → ⊥) → get_or (after im t) i 0 ≡ get_or im i 0
  unfolding after
  after_out im t g = splice_out im t.off t.size (new_part im t) g.fits (new-length im t g)

  pub after-part : (im : List ℕ) (t u : Task R) → Good (length im) t → Good (length im) u → Apart t u
      → part (after im t) u.off u.size ≡ part im u.off u.size
  unfolding after
  after-part im t u g h = splice-part im t.off t.size (new_part im t) g.fits (new-length im t g) u.off u.size h.fits

  -- the image may be replaced by one that has the same length and the same parts
  keep : (im : List ℕ) (t : Task R) (ts : List (Task R)) → Good (length im) t → Separate (length im) ts → Separate (length (after im t)) ts
  keep im t ts g s = rw (after-length im t g) s

  -- (a) each answer is the one on the starting image
  same-answers : (im : List ℕ) (t : Task R) (ts : List (Task R)) → Good (length im) t → AllApart t ts → Separate (length im) ts
      → map (answer_in (after im t)) ts ≡ map (answer_in im) ts
  same-answers im t [] g a s = refl
  same-answers im t (u ∷ us) g a s =
      λ k. u.answer (after-part im t u g s.0 a.0 k) ∷ same-answers im t us g a.1 s.2 k

  pub answers-plain : (ts : List (Task R)) (im : List ℕ) → Separate (length im) ts → answers ts im ≡ map (answer_in im) ts
  answers-plain [] im s = refl
  answers-plain (t ∷ ts) im s =
      rw (answers-plain ts (after im t) (keep im t ts s.0 s.2), same-answers im t ts s.0 s.1 s.2)

  apart_mem : (t : Task R) {u : Task R} {ts : List (Task R)} → AllApart t ts → Memᴰ u ts → Apart t u
  apart_mem t a (Memᴰ.head e) = rw e a.0
  apart_mem t a (Memᴰ.tail m) = apart_mem t a.1 m

  good_mem : {n : ℕ} {u : Task R} {ts : List (Task R)} → Separate n ts → Memᴰ u ts → Good n u
  good_mem s (Memᴰ.head e) = rw e s.0
  good_mem s (Memᴰ.tail m) = good_mem s.2 m

  pub left-length : (ts : List (Task R)) (im : List ℕ) → Separate (length im) ts → length (left ts im) ≡ length im
  left-length [] im s = refl
  left-length (t ∷ ts) im s = left-length ts (after im t) (keep im t ts s.0 s.2) ∙ after-length im t s.0

  -- (b) a byte in no window is the starting image's, and a byte in a window is that of the new part worked out from the starting image
  pub left_miss : (ts : List (Task R)) (im : List ℕ) → Separate (length im) ts → (i : ℕ)
      → ((t : Task R) → Memᴰ t ts → In t.off t.size i → ⊥) → get_or (left ts im) i 0 ≡ get_or im i 0
  left_miss [] im s i no-window = refl
  left_miss (t ∷ ts) im s i no-window =
      left_miss ts (after im t) (keep im t ts s.0 s.2) i (λ u m. no-window u (Memᴰ.tail m))
      ∙ after_out im t s.0 i (no-window t (Memᴰ.head refl))

  pub left-hit : {t : Task R} {ts : List (Task R)} → Memᴰ t ts → (im : List ℕ) → Separate (length im) ts → (i : ℕ)
      → In t.off t.size i → get_or (left ts im) i 0 ≡ get_or (new_part im t) (i - t.off) 0
  left-hit {t} (Memᴰ.head {x = u} {xs = us} e) im s i q =
      let r : In u.off u.size i = rw e at q in
      left_miss us (after im u) (keep im u us s.0 s.2) i (λ v m. apart_mem u s.1 m i r)
      ∙ after_in im u s.0 i r
      ∙ rw e
  left-hit {t} (Memᴰ.tail {x = u} {xs = us} m) im s i q =
      left-hit m (after im u) (keep im u us s.0 s.2) i q
      ∙ ap (λ (w : List ℕ). get_or (t.bytes w) (i - t.off) 0) (after-part im u t s.0 (good_mem s.2 m) (apart_mem u s.1 m))

-- the same for frames, each of which is planned on the image as its move finds it
module _ {F R : Type 0} (plan : ℕ → F → Task R) where
  pub run-left : (fs : List F) (im : List ℕ) → Separate (length im) (map (plan (length im)) fs) → run_left plan fs im ≡ left (map (plan (length im)) fs) im
  run-left [] im s = refl
  run-left (f ∷ fs) im s =
      let t : Task R = plan (length im) f in
      let e : length (after im t) ≡ length im = after-length im t s.0 in
      run-left fs (after im t) (rw e s.2) ∙ rw e

  pub run-answers : (fs : List F) (im : List ℕ) → Separate (length im) (map (plan (length im)) fs)
      → run_answers plan fs im ≡ map (λ f. answer_in im (plan (length im) f)) fs
  run-answers fs im s = go fs im s ∙ answers-plain (map (plan (length im)) fs) im s ∙ map-map (answer_in im) (plan (length im)) fs
    where
      go : (fs : List F) (im : List ℕ) → Separate (length im) (map (plan (length im)) fs) → run_answers plan fs im ≡ answers (map (plan (length im)) fs) im
      go [] im s = refl
      go (f ∷ fs) im s =
          let t : Task R = plan (length im) f in
          let e : length (after im t) ≡ length im = after-length im t s.0 in
          ap (λ (l : List R). answer_in im t ∷ l) (go fs (after im t) (rw e s.2) ∙ rw e)

  pub run-hit : {f : F} {fs : List F} → Memᴰ f fs → (im : List ℕ) → Separate (length im) (map (plan (length im)) fs)
      → (i : ℕ) → In (plan (length im) f).off (plan (length im) f).size i
      → get_or (run_left plan fs im) i 0 ≡ get_or (new_part im (plan (length im) f)) (i - (plan (length im) f).off) 0
  run-hit {f} {fs} m im s i q = rw (run-left fs im s) (left-hit (Memᴰ.map (plan (length im)) m) im s i q)

  pub run_miss : (fs : List F) (im : List ℕ) → Separate (length im) (map (plan (length im)) fs)
      → (i : ℕ) → ((f : F) → Memᴰ f fs → In (plan (length im) f).off (plan (length im) f).size i → ⊥)
      → get_or (run_left plan fs im) i 0 ≡ get_or im i 0
  run_miss fs im s i none_has =
      rw (run-left fs im s)
      (left_miss (map (plan (length im)) fs) im s i
      (λ t m q. let o : (f : F) × Memᴰ f fs × (plan (length im) f ≡ t) = Memᴰ.of_map (plan (length im)) fs m in
      none_has o.0 o.1 (rw o.2 q)))
