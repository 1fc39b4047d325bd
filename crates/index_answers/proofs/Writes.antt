-- Answers written one after the other, and what the call gives.
use Prim.Native.Nat.{ℕ, suc, ◌+◌, ◌*◌, ◌-◌, ◌≤◌, ◌<◌}
use mathlib.Core.Path.{◌≡◌, refl, sym, ap, ◌∙◌}
use mathlib.Core.Bool.{false}
use mathlib.Core.List.{List, [], ◌∷◌, append_assoc}
use native.Mathlib.Omega.{arith}
use borrow.Rule.Slice.PartMut.{put_mid}
use Rattle.std.proofs.lemmas.List.Edits.{sets-eq, paste_all}
use Rattle.std.proofs.lemmas.Slice.{put_mid-paste}
use lib.ListN.{take, length, get_or, drop, length-append}
use lib.Seq.{sets, length-sets, drop-cons, drop-length}
use Rattle.wire.proofs.Laws.{sets-append}
use Rattle.stackmap.specs.Section.{Entry, num_functions, is_old}
use Rattle.stackmap.specs.Walk.{Walkable}
use Rattle.questions.specs.declared.Found.{Found}
use Rattle.questions.specs.Questions.{with_address, first_of}
use Rattle.index.specs.Index.{five_numbers, answers_of}

-- after a write to `out[a..e]`, whose part holds ys now
pub part-sets : (a e : ℕ) (out ys vs : List ℕ) → ys ≡ vs → a + length vs ≡ e → e ≤ length out → put_mid a (e - a) out ys ≡ sets out a vs
part-sets a e out ys vs p l h =
    let k : length vs ≡ e - a = omega arith in
    let r : a + length vs ≤ length out = omega arith in
    put_mid-paste a (e - a) out ys vs (length vs) p k refl ∙ paste_all out a vs (length vs) refl ∙ sym (sets-eq vs out a r ∙ append_assoc (take a out) vs _)

-- One answer more.

five-length : (f : Found) → length (five_numbers f) ≡ 5
unfolding five_numbers
five-length f = refl

-- the first i answers are written, and those that are left give what all give
pub record Writing (es : List Entry) (bs out₀ out : List ℕ) (i : ℕ) : Type 0 where
  pub long : length out ≡ length out₀
  pub most : i ≤ length bs
  pub left : sets out₀ 0 (answers_of es bs) ≡ sets out (5 * i) (answers_of es (drop i bs))

pub writing_start : (es : List Entry) (bs out : List ℕ) → Writing es bs out out 0
writing_start es bs out = record { long = refl; most = omega arith; left = refl }

pub writing_on : {es : List Entry} {bs out₀ out out' : List ℕ} {i : ℕ} (v : List ℕ) → Writing es bs out₀ out i → i < length bs
    → v ≡ five_numbers (first_of (with_address (get_or bs i 0) es)) → out' ≡ sets out (5 * i) v → Writing es bs out₀ out' (i + 1)
unfolding answers_of
writing_on {es} {bs} {out₀} {out} {out'} {i} v w l e o =
    let f = first_of (with_address (get_or bs i 0) es) in
    let z : i + 1 ≡ suc i = omega arith in
    let p : 5 * i + 5 ≡ 5 * suc i = omega arith in
    record {
      long = ap length o ∙ length-sets out (5 * i) v ∙ w.long;
      most = omega arith;
      left = w.left ∙ rw (drop-cons bs i 0 l, sets-append out (5 * i) (five_numbers f) (answers_of es (drop (suc i) bs)), five-length f, p, o, e, z);
    }

pub writing_end : {es : List Entry} {bs out₀ out : List ℕ} {i : ℕ} → Writing es bs out₀ out i → length bs ≤ i → out ≡ sets out₀ 0 (answers_of es bs)
unfolding answers_of
writing_end {es} {bs} {out₀} {out} {i} w l =
    let z : i ≡ length bs = omega (arith, w.most) in
    sym (w.left ∙ rw (z, drop-length bs))

pub answers-length : (es : List Entry) (bs : List ℕ) → length (answers_of es bs) ≡ 5 * length bs
unfolding answers_of
answers-length es [] = refl
answers-length es (a ∷ bs) =
    let h = answers-length es bs in
    let f = five-length (first_of (with_address a es)) in
    length-append (five_numbers (first_of (with_address a es))) (answers_of es bs) ∙ omega arith

-- a section has no more functions than there is room for marks
pub few-functions : (s : List ℕ) → Walkable s → is_old s ≡ false → length s ≤ 16777216 → num_functions s ≤ 86 * 8192
few-functions s w new l = let h = rw new at w.inside in omega arith
