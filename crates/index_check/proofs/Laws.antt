-- What the walk tells of a list is whether it is the section's index.
use Prim.Native.Nat.{ℕ, suc, ◌+◌, ◌*◌, ◌-◌, ◌^◌, ◌≤◌, ◌<◌}
use mathlib.Core.Path.{◌≡◌, refl, sym, ap, ◌∙◌}
use mathlib.Core.Bool.{Bool, true, false, ◌&&◌, true≢false}
use mathlib.Core.Logic.{⊎_elim}
use mathlib.Core.List.Memᴰ
use mathlib.Core.List.{List, [], ◌∷◌, map, Memᴰ}
use native.Mathlib.Omega.{arith}
use native.Mathlib.Decide.{dec_lt}
use borrow.Author.Tests.{eqb-true, le-leb, leb-true}
use lib.Dec.{eqb, leb}
use lib.ListN.{length, drop, length-map}
use Rattle.wire.specs.Word.{Bytes, word}
use Rattle.wire.proofs.Laws.{word_bound, word-drop}
use Rattle.stackmap.specs.Verdict.{Verdict}
use Rattle.stackmap.specs.Verdict.{Valid}
use Rattle.stackmap.specs.Verdict.{shift}
use Rattle.stackmap.specs.Section.{Record, Owner, Entry, address, num_records, is_old, records_at, read_record, entries_from, entries}
use Rattle.stackmap.specs.Record.{record_check}
use Rattle.stackmap.specs.Walk.{owner_at, entry_at, Walkable}
use Rattle.stackmap.proofs.Verdicts.{must-held, chain-rest, shift-valid}
use Rattle.stackmap.proofs.Addresses.{same_test, owner_zero}
use Rattle.stackmap.proofs.Entries.{entries-are}
use Rattle.stackmap.proofs.Turns.{start-length}
use Rattle.stackmap.proofs.Forth.{length-records}
use Rattle.stackmap.proofs.OneWalk.{fold}
use Rattle.questions.specs.Questions.{ask}
use Rattle.index.specs.Rows.{Row}
use Rattle.index.specs.Numbered.{rows_of}
use Rattle.index.specs.Index.{row_of, index_of, same}
use Rattle.index.proofs.Index.{exactly, index-length, index-has, index-rises}
use Rattle.index.proofs.Numbers.{section-numbered}
use Rattle.index.proofs.Same.{same_self}
use Rattle.index_follow.specs.Seen.{is_in, seen, all_seen, Usable, Following, Began}
use Rattle.index_follow.proofs.Rows.{and_first, and_rest, in_mem, mem_in}

-- All rows.

seen_first : (rows : List Row) (es : List Entry) (b : Bool) → fold (seen rows) es b ≡ true → b ≡ true
unfolding seen
seen_first rows [] b h = h
seen_first rows (e ∷ es) b h = and_first b _ (seen_first rows es (b && is_in (row_of e) rows) h)

seen-each : (rows : List Row) (es : List Entry) (b : Bool) → fold (seen rows) es b ≡ true → (x : Row) → Memᴰ x (map row_of es) → Memᴰ x rows
unfolding seen
seen-each rows [] b h x m = absurd (Memᴰ.not-nil m)
seen-each rows (e ∷ es) b h x m =
    ⊎_elim (λ q. rw q (in_mem (row_of e) rows (and_rest b _ (seen_first rows es (b && is_in (row_of e) rows) h))))
    (λ k. seen-each rows es (b && is_in (row_of e) rows) h x k)
    (Memᴰ.cases_cons m)

seen_all : (rows : List Row) (es : List Entry) → ((x : Row) → Memᴰ x (map row_of es) → Memᴰ x rows) → fold (seen rows) es true ≡ true
unfolding seen
seen_all rows [] h = refl
seen_all rows (e ∷ es) h = rw (mem_in (row_of e) rows (h (row_of e) (Memᴰ.head refl))) (seen_all rows es (λ x m. h x (Memᴰ.tail m)))

-- The rows of a section.

from-length : (old : Bool) (k at : ℕ) (os : List Owner) (rs : List Record) → length os ≡ length rs → length (entries_from old k at os rs) ≡ length rs
unfolding entries_from
from-length old k at [] [] h = refl
from-length old k at [] (r ∷ rs) h = absurd (omega arith)
from-length old k at (o ∷ os) [] h = refl
from-length old k at (o ∷ os) (r ∷ rs) h = ap suc (from-length old (suc k) _ os rs (omega arith))

pub rows-many : (s : List ℕ) → Walkable s → length (map row_of (entries s)) ≡ num_records s
rows-many s w =
    let m = length-records (is_old s) s (num_records s) (records_at s) in
    length-map (entries s) row_of ∙ ap length (entries-are s) ∙ from-length (is_old s) 0 (records_at s) _ _ (start-length s w ∙ sym m) ∙ m

pub same-one : (xs ys : List ℕ) → same xs ys ≡ true → xs ≡ ys
unfolding same
same-one [] [] h = refl
same-one [] (y ∷ ys) h = absurd (true≢false (sym h))
same-one (x ∷ xs) [] h = absurd (true≢false (sym h))
same-one (x ∷ xs) (y ∷ ys) h =
    let a = eqb-true x y (and_first (eqb x y) (same xs ys) h) in
    let b = same-one xs ys (and_rest (eqb x y) (same xs ys) h) in
    λ i. a i ∷ b i

-- The law: the list is the index exactly if the walk has seen every record's row in it.
module _ (s xs : List ℕ) (place : ℕ) (w : Walkable s) (small : num_records s < 2 ^ 32) (f : Following xs (num_records s) place) (b : Began xs (num_records s) place) where
  is-index : all_seen s xs (leb place (num_records s)) ≡ true → xs ≡ index_of s
  unfolding index_of
  is-index h =
      let u = f.usable (leb-true place (num_records s) (seen_first (rows_of (num_records s) xs) (entries s) _ h)) in
      let m = rows-many s w in
      exactly (map row_of (entries s)) xs (section-numbered s small) (u.long ∙ ap (λ (n : ℕ). 2 * n) (sym m))
      (record { order = λ i l. let r = u.rising.order i (omega arith) in omega arith })
      (λ x k. rw m (seen-each (rows_of (num_records s) xs) (entries s) _ h x k))

  usable : xs ≡ index_of s → Usable xs (num_records s)
  unfolding index_of
  usable e =
      let m = rows-many s w in
      rw e
      (record {
        long = index-length (map row_of (entries s)) ∙ ap (λ (n : ℕ). 2 * n) m;
        rising = record { order = λ i l. index-rises (map row_of (entries s)) (section-numbered s small) i (omega arith) };
      })

  index_is : xs ≡ index_of s → all_seen s xs (leb place (num_records s)) ≡ true
  unfolding index_of
  index_is e =
      let m = rows-many s w in
      let l : place ≤ num_records s = go (dec_lt (num_records s) place) in
      rw (le-leb place (num_records s) l)
      (seen_all (rows_of (num_records s) xs) (entries s) (λ x k. rw (e, ← m) (index-has (map row_of (entries s)) x k)))
    where
      go : Dec (num_records s < place) → place ≤ num_records s
      go (yes l) = absurd (b.unusable l (usable e))
      go (no l) = omega arith

  pub told : all_seen s xs (leb place (num_records s)) ≡ same xs (index_of s)
  told = go (all_seen s xs (leb place (num_records s))) refl (same xs (index_of s)) refl
    where
      go : (a : Bool) → all_seen s xs (leb place (num_records s)) ≡ a → (c : Bool) → same xs (index_of s) ≡ c → all_seen s xs (leb place (num_records s)) ≡ same xs (index_of s)
      go true e c q = e ∙ sym (ap (λ (ys : List ℕ). same xs ys) (sym (is-index e)) ∙ same_self xs)
      go false e true q = absurd (true≢false (sym (index_is (same-one xs (index_of s) q)) ∙ e))
      go false e false q = e ∙ sym q

-- For the walk.

-- a valid record's address fits: refusal 8, and in version 1 it is an offset of 32 bits
pub address-fits : (s : List ℕ) (c number function p q : ℕ) → Bytes s → shift p (record_check (is_old s) (drop p s) c (owner_at s function).function.address) ≡ Valid q
    → address (entry_at s number function p) < 2 ^ 64
unfolding record_check address read_record
address-fits s c number function p q w v =
    let x = shift-valid _ _ _ v in
    let k : word 4 (drop p s) 8 < 2 ^ 32 = rw word-drop (word_bound 4 s (p + 8) w) in
    let e = same_test (is_old s) (owner_at s function).function.address (word 4 (drop p s) 8) (owner_zero (is_old s) s function) k in
    let m : (owner_at s function).function.address + word 4 (drop p s) 8 ≤ 2 ^ 64 - 1 = leb-true _ _ (sym e ∙ must-held _ _ _ _ _ (chain-rest _ _ _ x.1)) in
    omega arith

-- what was refused is not valid
pub refused_invalid : (v : Verdict) (e : ℕ) → ◌≡◌ {A = ℕ} 1 (ask (λ n p. 1) 0 v) → v ≡ Valid e → ⊥
unfolding ask
refused_invalid v e h q = let z : ◌≡◌ {A = ℕ} 1 0 = rw q at h in omega arith
