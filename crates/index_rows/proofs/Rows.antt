-- What the second walk has written at its end: the rows in section order, and whether they are in order of address.
use Prim.Native.Nat.{ℕ, zero, suc, ◌+◌, ◌*◌, ◌-◌, ◌≤◌, ◌<◌}
use mathlib.Core.Path.{◌≡◌, refl, sym, ap, ◌∙◌}
use mathlib.Core.Bool.{Bool, true, false, ◌&&◌}
use mathlib.Core.List.{List, [], ◌∷◌, ◌++◌, map, append_assoc}
use native.Mathlib.Omega.{arith}
use native.Mathlib.Nat.{zero-add}
use borrow.Author.Tests.{leb-true}
use lib.Dec.{leb}
use lib.ListN.{length, drop, take}
use lib.Seq.{sets, sets-eq}
use borrow.Rule.Slice.PartMut.{put_mid}
use Rattle.std.proofs.lemmas.List.Edits.{paste_all}
use Rattle.std.proofs.lemmas.Slice.{put_mid-paste}
use Rattle.stackmap.specs.Fields.{size}
use Rattle.stackmap.specs.Section.{Record, Owner, record_fields, num_records, is_old, address, Entry, entries_from, entries}
use Rattle.stackmap.specs.Walk.{Walkable}
use Rattle.stackmap.proofs.Entries.{entries-are}
use Rattle.stackmap.proofs.OneWalk.{fold}
use Rattle.sorted_pairs.specs.Pairs.{rank_at, Stepped}
use Rattle.index.specs.Rows.{Row, flat}
use Rattle.index.specs.Numbered.{Numbered}
use Rattle.index.specs.Index.{row_of}
use Rattle.index.proofs.Index.{rank, row_at, next_row, flat-length}
use Rattle.index.proofs.Numbers.{section-numbered, rows-many}
use Rattle.index_rows.specs.Filled.{in_place, Filling, filled}

-- after a write to `list[a..e]`, whose part holds ys now
pub part-sets : (a e : ℕ) (list ys vs : List ℕ) → ys ≡ vs → a + length vs ≡ e → e ≤ length list → put_mid a (e - a) list ys ≡ sets list a vs
part-sets a e list ys vs p l h =
    let k : length vs ≡ e - a = omega arith in
    let r : a + length vs ≤ length list = omega arith in
    put_mid-paste a (e - a) list ys vs (length vs) p k refl ∙ paste_all list a vs (length vs) refl ∙ sym (sets-eq vs list a r ∙ append_assoc (take a list) vs _)

-- before the first record
abbrev pub none_filled : List ℕ → Filling
none_filled xs = record { list = xs; last = 0; rises = true }

-- the rows, one after the other
stored : (old : Bool) (k at : ℕ) (os : List Owner) (rs : List Record) (h : Filling)
    → (fold filled (entries_from old k at os rs) h).list ≡ sets h.list (2 * k) (flat (map row_of (entries_from old k at os rs)))
unfolding entries_from flat filled
stored old k at [] rs h = refl
stored old k at (o ∷ os) [] h = refl
stored old k at (o ∷ os) (r ∷ rs) h =
    let z : 2 * suc k ≡ suc (suc (2 * k)) = omega arith in
    let y : 2 * k + 1 ≡ suc (2 * k) = omega arith in
    stored old (suc k) (at + size (record_fields old r)) os rs (filled (record { number = k; first = at; owner = o; body = r }) h) ∙ rw (z, y)

-- each address is at least the one before it
climbs : ℕ → List Row → Bool
climbs last [] = true
climbs last (x ∷ xs) = leb last x.address && climbs x.address xs

and_and : (a b c : Bool) → ((a && b) && c) ≡ (a && (b && c))
and_and true b c = refl
and_and false b c = refl

risen : (es : List Entry) (h : Filling) → (fold filled es h).rises ≡ (h.rises && climbs h.last (map row_of es))
unfolding filled climbs
risen [] h = go h.rises
  where
    go : (b : Bool) → b ≡ (b && true)
    go true = refl
    go false = refl
risen (e ∷ es) h = risen es (filled e h) ∙ and_and h.rises (leb h.last (address e)) (climbs (address e) (map row_of es))

and_true : (a b : Bool) → (a && b) ≡ true → (a ≡ true) × (b ≡ true)
and_true true b h = (refl, h)
and_true false b h = absurd (let z : ◌≡◌ {A = ℕ} 0 1 = cc in omega arith)

steps : (last k : ℕ) (xs : List Row) (rest : List ℕ) → climbs last xs ≡ true → Numbered k xs → (i : ℕ) → i + 1 < length xs
    → rank_at (flat xs ++ rest) i ≤ rank_at (flat xs ++ rest) (i + 1)
unfolding flat climbs row_at
steps last k [] rest c n i l = absurd (omega arith)
steps last k (x ∷ []) rest c n i l = absurd (omega arith)
steps last k (x ∷ y ∷ xs) rest c n zero l =
    let a = leb-true x.address y.address (and_true (leb x.address y.address) (climbs y.address xs) (and_true (leb last x.address) (climbs x.address (y ∷ xs)) c).1).0 in
    let b = n.2.0 in
    omega arith
steps last k (x ∷ y ∷ xs) rest c n (suc i) l =
    let h = steps x.address (suc x.number) (y ∷ xs) rest (and_true (leb last x.address) (climbs x.address (y ∷ xs)) c).1 n.2 i (omega arith) in
    let zs = flat (x ∷ y ∷ xs) ++ rest in
    let a : rank_at (flat (y ∷ xs) ++ rest) i ≡ rank_at zs (suc i) = ap rank (next_row zs i) in
    let b : rank_at (flat (y ∷ xs) ++ rest) (i + 1) ≡ rank_at zs (suc (i + 1)) = ap rank (next_row zs (i + 1)) in
    let z : suc i + 1 ≡ suc (i + 1) = omega arith in
    rw z (omega arith)

module _ (s xs : List ℕ) (w : Walkable s) (m : 2 * num_records s ≤ length xs) where
  abbrev rows : List Row
  rows = map row_of (entries s)

  -- they stand at the beginning, and what lies beyond is as it was
  pub in_place_lem : in_place s xs ≡ flat rows ++ drop (2 * length rows) xs
  unfolding in_place
  in_place_lem =
      let l = flat-length rows in
      let n = rows-many s w in
      sets-eq (flat rows) xs 0 (omega arith) ∙ rw (l, zero-add)

  module _ {list : List ℕ} {last : ℕ} {rises : Bool} (e : fold filled (entries s) (none_filled xs) ≡ record { list = list; last = last; rises = rises }) where
    pub fill_written : list ≡ in_place s xs
    unfolding in_place
    fill_written = sym (ap (λ (h : Filling). h.list) e) ∙ rw (entries-are s) (stored (is_old s) 0 _ _ _ (none_filled xs))

    pub fill_stepped : num_records s < 4294967296 → rises ≡ true → Stepped list 1 (num_records s)
    fill_stepped small t = record { order = λ i l. go i l }
      where
        go : (i : ℕ) → i + 1 < num_records s → rank_at list i ≤ rank_at list (i + 1)
        go i l =
            let f : climbs 0 rows ≡ true = sym (risen (entries s) (none_filled xs)) ∙ ap (λ (h : Filling). h.rises) e ∙ t in
            rw (fill_written, in_place_lem) (steps 0 0 rows (drop (2 * length rows) xs) f (section-numbered s small) i (omega (arith, rows-many s w)))
