-- Rows in place, put in order, are the index; and what the call answers in each case.
use Prim.Native.Nat.{ℕ, ◌+◌, ◌*◌, ◌/◌, ◌%◌, ◌≤◌, ◌<◌}
use mathlib.Core.Path.{◌≡◌, refl, sym, ap, ◌∙◌}
use mathlib.Core.Bool.{true, false}
use mathlib.Core.List.{List, ◌++◌, map, Memᴰ}
use native.Mathlib.Omega.{arith}
use native.Mathlib.Decide.{ℕ_discrete}
use borrow.Author.Tests.{le-leb, lt-leb}
use lib.ListN.{length, get_or, take, drop, length-drop, length-append, take-append-drop, get_or-append}
use lib.Seq.{length-take-le, get_or-take, get_or-drop, get_or-append-add, ext_get_or}
use Rattle.stackmap.specs.Verdict.{Verdict}
use Rattle.stackmap.specs.Verdict.{Valid, Refused}
use Rattle.stackmap.specs.Section.{num_records, is_old, entries}
use Rattle.stackmap.specs.Check.{section_check, Accepted}
use Rattle.stackmap.specs.Walk.{Walkable}
use Rattle.stackmap.proofs.Forth.{accepted-length}
use Rattle.questions.specs.Questions.{ask}
use Rattle.sorted_pairs.specs.Pairs.{first_at, second_at, rank_at, Reordered, Stepped}
use Rattle.index.specs.Rows.{Row, flat, ordered}
use Rattle.index.specs.Numbered.{rows_of, Numbered}
use Rattle.index.specs.declared.Written.{Written}
use Rattle.index.specs.Answers.{Answers}
use Rattle.index.specs.Index.{row_of, index_of, Listed, not_listed, put_numbers, fill_index}
use Rattle.index.proofs.Index.{row_at, rows-has, rows-place, rows-flat, flat-length, index-length, exactly}
use Rattle.index.proofs.Numbers.{section-numbered, rows-many}
use Rattle.index_rows.specs.Filled.{in_place}
use Rattle.index_rows.proofs.Walk.{tabled}
use Rattle.index_rows.proofs.Rows.{in_place_lem}

-- beyond the first n pairs nothing has changed
beyond : {zs ys : List ℕ} (n : ℕ) → Reordered zs ys n → (i : ℕ) → 2 * n ≤ i → get_or ys i 0 ≡ get_or zs i 0
beyond {zs} {ys} n r i l = go (ℕ_discrete (i % 2) 0)
  where
    go : Dec (i % 2 ≡ 0) → get_or ys i 0 ≡ get_or zs i 0
    go (yes e) = let z : i ≡ 2 * (i / 2) = omega arith in ap (λ (k : ℕ). get_or ys k 0) z ∙ (r.beyond (i / 2) (omega arith)).firsts ∙ sym (ap (λ (k : ℕ). get_or zs k 0) z)
    go (no e) =
        let z : i ≡ 2 * (i / 2) + 1 = omega arith in
        ap (λ (k : ℕ). get_or ys k 0) z ∙ (r.beyond (i / 2) (omega arith)).seconds ∙ sym (ap (λ (k : ℕ). get_or zs k 0) z)

-- Rows, and what lies beyond them, of which the rows have been put in order.
module _ (rows : List Row) (rest ys : List ℕ) (r : Reordered (flat rows ++ rest) ys (length rows)) where
  long : length ys ≡ 2 * length rows + length rest
  long = r.same_length ∙ length-append (flat rows) rest ∙ rw (flat-length rows)

  -- each row stands somewhere among them
  there : (x : Row) → Memᴰ x rows → Memᴰ x (rows_of (length rows) (take (2 * length rows) ys))
  unfolding row_at
  there x m =
      let p = rows-place (length rows) (flat rows) x (rw (rows-flat rows) m) in
      let f = flat-length rows in
      let h = r.kept p.0 p.1 in
      let j = h.place in
      let i = h.inside in
      let a : first_at (take (2 * length rows) ys) j ≡ first_at (flat rows) p.0 =
      get_or-take (2 * length rows) ys (2 * j) 0 (omega arith) ∙ h.same.firsts ∙ get_or-append (flat rows) rest 0 (2 * p.0) (omega (arith, p.1)) in
      let b : second_at (take (2 * length rows) ys) j ≡ second_at (flat rows) p.0 =
      get_or-take (2 * length rows) ys (2 * j + 1) 0 (omega arith) ∙ h.same.seconds ∙ get_or-append (flat rows) rest 0 (2 * p.0 + 1) (omega (arith, p.1)) in
      let e : x ≡ row_at (take (2 * length rows) ys) j = p.2 ∙ (λ k. record { address = sym a k; number = sym b k }) in
      rw e (rows-has (length rows) (take (2 * length rows) ys) j i)

  stepped : Stepped ys 1 (length rows) → Stepped (take (2 * length rows) ys) 1 (length rows)
  stepped s = record { order = λ i l. go i l }
    where
      same : (i : ℕ) → i < length rows → rank_at (take (2 * length rows) ys) i ≡ rank_at ys i
      same i l = rw (get_or-take (2 * length rows) ys (2 * i) 0 (omega arith), get_or-take (2 * length rows) ys (2 * i + 1) 0 (omega arith))

      go : (i : ℕ) → i + 1 < length rows → rank_at (take (2 * length rows) ys) i ≤ rank_at (take (2 * length rows) ys) (i + 1)
      go i l = rw (same i (omega arith), same (i + 1) l) (s.order i l)

  rest-kept : drop (2 * length rows) ys ≡ rest
  rest-kept =
      ext_get_or 0 _ _ (let l = long in let d = length-drop (2 * length rows) ys in omega arith)
      (λ i l. get_or-drop (2 * length rows) ys i 0 ∙ beyond (length rows) r (2 * length rows + i) (omega arith) ∙ at_rest i)
    where
      at_rest : (i : ℕ) → get_or (flat rows ++ rest) (2 * length rows + i) 0 ≡ get_or rest i 0
      at_rest i = ap (λ (k : ℕ). get_or (flat rows ++ rest) (k + i) 0) (sym (flat-length rows)) ∙ get_or-append-add (flat rows) rest i 0

  in_order : Numbered 0 rows → Stepped ys 1 (length rows) → ys ≡ flat (ordered rows) ++ rest
  in_order u s =
      let e = exactly rows (take (2 * length rows) ys) u (length-take-le (2 * length rows) ys (let l = long in omega arith)) (stepped s) there in
      sym (take-append-drop (2 * length rows) ys) ∙ rw (e, rest-kept)

-- the same, of k rows
of_rows : (rows : List Row) (xs zs ys : List ℕ) (k : ℕ) → k ≡ length rows → zs ≡ flat rows ++ drop (2 * length rows) xs → Reordered zs ys k → Stepped ys 1 k
    → Numbered 0 rows → ys ≡ flat (ordered rows) ++ drop (2 * k) xs
of_rows rows xs zs ys k e z r s u = rw e (in_order rows (drop (2 * length rows) xs) ys (rw (z, e) at r) u (rw e at s))

module _ (s : List ℕ) (k : Accepted s) where
  w : Walkable s
  w = (tabled s k).walkable

  -- the rows of a section, put in order, are its index
  pub put-in_order : (xs ys : List ℕ) → 2 * num_records s ≤ length xs → num_records s < 4294967296 → Reordered (in_place s xs) ys (num_records s) → Stepped ys 1 (num_records s)
      → ys ≡ index_of s ++ drop (2 * num_records s) xs
  unfolding index_of
  put-in_order xs ys m small r t =
      of_rows (map row_of (entries s)) xs (in_place s xs) ys (num_records s) (sym (rows-many s w)) (in_place_lem s xs w m) r t (section-numbered s small)

  many-entries : length (index_of s) ≡ 2 * num_records s
  unfolding index_of
  many-entries = index-length (map row_of (entries s)) ∙ ap (λ (n : ℕ). 2 * n) (rows-many s w)

  -- What the call answers.

  module _ (out : List ℕ) where
    pub fill_old : is_old s ≡ true → fill_index s out ≡ not_listed out 27 0
    unfolding fill_index ask
    fill_old old = rw (k, old)

    pub fill_short : is_old s ≡ false → length out < 2 * num_records s → fill_index s out ≡ not_listed out 24 0
    unfolding fill_index ask put_numbers
    fill_short new l = rw (k, new, many-entries, lt-leb (2 * num_records s) (length out) l)

    pub fill_all : (out' : List ℕ) {n : ℕ} → is_old s ≡ false → n ≡ num_records s → 2 * n ≤ length out → out' ≡ index_of s ++ drop (2 * n) out
        → fill_index s out ≡ record { number = 0; place = 0; written = 2 * n; output = out' }
    unfolding fill_index ask put_numbers
    fill_all out' {n} new e l h = rw (h, k, new, many-entries, ← e, le-leb (2 * n) (length out) l)

pub fill_refused : (s out : List ℕ) {n p : ℕ} → section_check s ≡ Refused n p → fill_index s out ≡ not_listed out n p
unfolding fill_index ask
fill_refused s out h = rw h

pub accepted : (s : List ℕ) {v : Verdict} {e : ℕ} → v ≡ section_check s → v ≡ Valid e → Accepted s
accepted s {e = e} h k = let w = sym h ∙ k in rw (accepted-length s e w).0 at w

-- field by field
pub answers : {r : Written} {out : List ℕ} {l : Listed} → l ≡ record { number = r.number; place = r.place; written = r.written; output = out } → Answers r out l
answers e = rw e (record { number = refl; place = refl; written = refl; output = refl })
