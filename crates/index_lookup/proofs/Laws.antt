-- What two halvings in the index tell of the records with an address.
use Prim.Native.Nat.{ℕ, zero, suc, ◌+◌, ◌*◌, ◌-◌, ◌≤◌, ◌<◌}
use mathlib.Core.Path.{◌≡◌, refl, sym, ap, ◌∙◌}
use mathlib.Core.Bool.{Bool, true, false, cond, true≢false}
use mathlib.Core.Logic.{⊎_elim}
use mathlib.Core.List.Memᴰ
use mathlib.Core.List.Permᴰ
use mathlib.Core.List.{List, [], ◌∷◌, map, Memᴰ}
use native.Mathlib.Omega.{arith}
use native.Mathlib.Decide.{dec_lt}
use borrow.Author.Tests.{eq-eqb, eqb-true}
use lib.Dec.{eqb}
use lib.ListN.{length}
use Rattle.sorted_pairs.specs.Pairs.{first_at, second_at, rank_at, Rising, LowerBy}
use Rattle.sorted_pairs.proofs.All.{perm_mem}
use Rattle.stackmap.specs.Fields.{size}
use Rattle.stackmap.specs.Section.{Record, Owner, Entry, record_fields, address, num_records, is_old, records_at, read_records, entries_from, entries}
use Rattle.stackmap.proofs.Entries.{entries-are}
use Rattle.stackmap.proofs.Forth.{length-records}
use Rattle.questions.specs.Questions.{with_address, first_of}
use Rattle.index.specs.Rows.{Row}
use Rattle.index.specs.Numbered.{Numbered, rows_of}
use Rattle.index.specs.Index.{row_of, index_of, five_numbers}
use Rattle.index.proofs.Index.{row_at, numbered_later, rows-has, rows-place, index-length, index-has, index-rises, perm_there}
use Rattle.index.proofs.Numbers.{section-numbered}
use Rattle.index.proofs.Lookup.{sharing, with_address as rows_with}
use Rattle.index_check.proofs.Laws.{rows-many}
use Rattle.index_owner.specs.Owner.{Owns}
use Rattle.index_owner.proofs.Laws.{owned}
use Rattle.index_lookup.specs.Looked.{Indexed}

-- The numbers of records.

below-many : (old : Bool) (k at : ℕ) (os : List Owner) (rs : List Record) (x : Row) → Memᴰ x (map row_of (entries_from old k at os rs)) → x.number < k + length rs
unfolding entries_from
below-many old k at [] rs x m = absurd (Memᴰ.not-nil m)
below-many old k at (o ∷ os) [] x m = absurd (Memᴰ.not-nil m)
below-many old k at (o ∷ os) (r ∷ rs) x m =
    ⊎_elim (λ e. let q : x.number ≡ k = ap (λ (y : Row). y.number) e in omega arith)
    (λ j. let h = below-many old (suc k) (at + size (record_fields old r)) os rs x j in omega arith)
    (Memᴰ.cases_cons m)

row_number : (s : List ℕ) (x : Row) → Memᴰ x (map row_of (entries s)) → x.number < num_records s
row_number s x m =
    let l = length-records (is_old s) s (num_records s) (records_at s) in
    let h = below-many (is_old s) 0 (records_at s) _ (read_records (is_old s) (num_records s) s (records_at s)) x (rw (entries-are s) at m) in
    omega arith

-- The first record with an address.

pub record First (a : ℕ) (es : List Entry) : Type 0 where
  pub entry : Entry
  pub others : List Entry
  pub is : with_address a es ≡ entry ∷ others
  pub member : Memᴰ entry es
  pub row : Memᴰ (row_of entry) (map row_of es)
  pub here : address entry ≡ a
  pub least : (x : Row) → Memᴰ x (map row_of es) → x.address ≡ a → entry.number ≤ x.number

first_one : (a k : ℕ) (es : List Entry) → Numbered k (map row_of es) → 0 < length (with_address a es) → First a es
unfolding with_address
first_one a k [] n l = absurd (omega arith)
first_one a k (e ∷ es) n l = go (first_one a (suc e.number) es n.2) (eqb (address e) a) refl
  where
    least : (x : Row) → Memᴰ x (map row_of (e ∷ es)) → x.address ≡ a → e.number ≤ x.number
    least x m q =
        ⊎_elim (λ z. let y : x.number ≡ e.number = ap (λ (r : Row). r.number) z in omega arith)
        (λ j. let h = numbered_later k (row_of e) (map row_of es) n x j in omega arith)
        (Memᴰ.cases_cons m)

    later : eqb (address e) a ≡ false → First a es → First a (e ∷ es)
    later z f =
        record {
          entry = f.entry;
          others = f.others;
          is = rw z f.is;
          member = Memᴰ.tail f.member;
          row = Memᴰ.tail f.row;
          here = f.here;
          least = λ x m q. ⊎_elim (λ w. absurd (other z (sym (ap (λ (r : Row). r.address) w) ∙ q))) (λ j. f.least x j q) (Memᴰ.cases_cons m);
        }
      where
        other : eqb (address e) a ≡ false → address e ≡ a → ⊥
        other y w = let t : true ≡ false = sym (eq-eqb (address e) a w) ∙ y in true≢false t

    go : (0 < length (with_address a es) → First a es) → (b : Bool) → eqb (address e) a ≡ b → First a (e ∷ es)
    go rest true z = record { entry = e; others = with_address a es; is = rw z; member = Memᴰ.head refl; row = Memᴰ.head refl; here = eqb-true (address e) a z; least = least }
    go rest false z = later z (rest (rw z at l))

-- as many rows as records
with_length : (a : ℕ) (es : List Entry) → length (rows_with a (map row_of es)) ≡ length (with_address a es)
unfolding with_address rows_with
with_length a [] = refl
with_length a (e ∷ es) = go (eqb (address e) a) (with_length a es)
  where
    go : (b : Bool) → length (rows_with a (map row_of es)) ≡ length (with_address a es)
        → length (cond b (row_of e ∷ rows_with a (map row_of es)) (rows_with a (map row_of es))) ≡ length (cond b (e ∷ with_address a es) (with_address a es))
    go true h = ap suc h
    go false h = h

-- a list that rises does so over any distance
climb : (xs : List ℕ) (n : ℕ) → Rising xs n → (i d : ℕ) → i + d < n → rank_at xs i ≤ rank_at xs (i + d)
climb xs n r i zero l = let z : i + 0 ≡ i = omega arith in rw z (omega arith)
climb xs n r i (suc d) l =
    let h = climb xs n r i d (omega arith) in
    let k = r.order (i + d) (omega arith) in
    let z : i + d + 1 ≡ i + suc d = omega arith in
    rw (← z) (omega arith)

-- An index, and two halvings in it.

module _ (s zs : List ℕ) (n : ℕ) (i : Indexed s zs n) where
  many : length (map row_of (entries s)) ≡ n
  many = rows-many s i.walkable ∙ sym i.many

  small : num_records s < 4294967296
  small = let a = i.many in let b = i.small in omega arith

  numbered : Numbered 0 (map row_of (entries s))
  numbered = section-numbered s small

  pub long : length zs ≡ 2 * n
  unfolding index_of
  long = ap length i.right ∙ index-length (map row_of (entries s)) ∙ ap (λ (m : ℕ). 2 * m) many

  pub rising : Rising zs n
  unfolding index_of
  rising = rw i.right (record { order = λ j l. index-rises (map row_of (entries s)) numbered j (let m = many in omega arith) })

  has : (x : Row) → Memᴰ x (map row_of (entries s)) → Memᴰ x (rows_of (length (map row_of (entries s))) zs)
  unfolding index_of
  has x m = rw i.right (index-has (map row_of (entries s)) x m)

  -- the row at a place is a record's
  back : (j : ℕ) → j < n → Memᴰ (row_at zs j) (map row_of (entries s))
  back j l = perm_mem (Permᴰ.symm (perm_there (map row_of (entries s)) zs numbered has)) (rows-has (length (map row_of (entries s))) zs j (let m = many in omega arith))

  pub number-there : (j : ℕ) → j < n → second_at zs j < num_records s
  unfolding row_at
  number-there j l = row_number s (row_at zs j) (back j l)

  -- The second bound, from the two pairs after the first.

  module _ (a low : ℕ) (l : LowerBy (rank_at zs) n (a * 18446744073709551616 + 0) low) where
    above-all : (j : ℕ) → low ≤ j → j < n → (first_at zs j ≡ a → ⊥) → a * 18446744073709551616 + 18446744073709551615 ≤ rank_at zs j
    above-all j m o d = go (dec_lt a (first_at zs j))
      where
        go : Dec (a < first_at zs j) → a * 18446744073709551616 + 18446744073709551615 ≤ rank_at zs j
        go (yes x) = omega arith
        go (no x) = absurd (d (let q = l.above j m o in let t = number-there j o in let u = small in omega arith))

    after : (j : ℕ) → low ≤ j → j < n → (first_at zs j ≡ a → ⊥) → (k : ℕ) → j ≤ k → k < n → a * 18446744073709551616 + 18446744073709551615 ≤ rank_at zs k
    after j m o d k b e =
        let z : j + (k - j) ≡ k = omega arith in
        let c = rw z at (climb zs n rising j (k - j) (omega arith)) in
        let q = above-all j m o d in
        omega arith

    pub none_here : low < n → (first_at zs low ≡ a → ⊥) → LowerBy (rank_at zs) n (a * 18446744073709551616 + 18446744073709551615) low
    none_here o d =
        record { most = l.most; below = λ k m. let q = l.below k m in omega arith; above = λ k m e. after low (omega arith) o d k m e }

    pub one-here : low + 1 < n → first_at zs low ≡ a → (first_at zs (low + 1) ≡ a → ⊥) → LowerBy (rank_at zs) n (a * 18446744073709551616 + 18446744073709551615) (low + 1)
    one-here o q d = record { most = omega arith; below = λ k m. go k m (dec_lt k low); above = λ k m e. after (low + 1) (omega arith) o d k m e }
      where
        go : (k : ℕ) → k < low + 1 → Dec (k < low) → rank_at zs k < a * 18446744073709551616 + 18446744073709551615
        go k m (yes x) = let w = l.below k x in omega arith
        go k m (no x) =
            let z : k ≡ low = omega arith in
            let t = number-there low (omega arith) in
            let u = small in
            rw z (omega arith)

  module _ (a low high : ℕ) (l : LowerBy (rank_at zs) n (a * 18446744073709551616 + 0) low)
      (h : LowerBy (rank_at zs) n (a * 18446744073709551616 + 18446744073709551615) high) where
    next : LowerBy (rank_at zs) n ((a + 1) * 18446744073709551616) high
    next =
        record {
          most = h.most;
          below = λ k m. let q = h.below k m in omega arith;
          above = λ k m o. let q = h.above k m o in let t = number-there k o in let u = small in omega arith;
        }

    here : LowerBy (rank_at zs) n (a * 18446744073709551616) low
    here = record { most = l.most; below = λ k m. let q = l.below k m in omega arith; above = λ k m o. let q = l.above k m o in omega arith }

    -- as many share the address as lie between them
    pub between : high ≡ low + length (with_address a (entries s))
    between =
        let m = many in
        sharing (map row_of (entries s)) zs a low high numbered (perm_there (map row_of (entries s)) zs numbered has) (rw (← m) at here) (rw (← m) at next)
        ∙ ap (λ (k : ℕ). low + k) (with_length a (entries s))

    -- none does
    pub none : low ≡ high → five_numbers (first_of (with_address a (entries s))) ≡ 10 ∷ 0 ∷ 0 ∷ 0 ∷ 0 ∷ []
    unfolding five_numbers
    none e = go (with_address a (entries s)) (let b = between in omega arith)
      where
        go : (es : List Entry) → length es ≡ 0 → five_numbers (first_of es) ≡ 10 ∷ 0 ∷ 0 ∷ 0 ∷ 0 ∷ []
        go [] z = refl
        go (x ∷ es) z = absurd (omega arith)

    first : (low ≡ high → ⊥) → First a (entries s)
    first d = first_one a 0 (entries s) numbered (go (length (with_address a (entries s))) between)
      where
        go : (m : ℕ) → high ≡ low + m → 0 < m
        go zero e = absurd (d (omega arith))
        go (suc m) e = omega arith

    pub low-inside : (low ≡ high → ⊥) → low < n
    low-inside d = let b = between in let m = h.most in go (dec_lt low n)
      where
        go : Dec (low < n) → low < n
        go (yes x) = x
        go (no x) = absurd (d (let b = between in let m = h.most in omega arith))

    -- the row at the lower bound is the first record's
    number_is : (d : low ≡ high → ⊥) → (first d).entry.number ≡ second_at zs low
    unfolding row_at
    number_is d =
        let f = first d in
        let li = low-inside d in
        let b = between in
        let low-at = here.above low (omega arith) li in
        let low-under = next.below low (less d) in
        let t = number-there low li in
        let u = small in
        let p : first_at zs low ≡ a = omega arith in
        let v = f.least (row_at zs low) (back low li) p in
        let q = rows-place (length (map row_of (entries s))) zs (row_of f.entry) (has (row_of f.entry) f.row) in
        let q-address : a ≡ first_at zs q.0 = sym f.here ∙ ap (λ (x : Row). x.address) q.2 in
        let q-number : f.entry.number ≡ second_at zs q.0 = ap (λ (x : Row). x.number) q.2 in
        let m = many in
        let o : low ≤ q.0 = not_below q.0 (omega arith) in
        let z : low + (q.0 - low) ≡ q.0 = omega arith in
        let c = rw z at (climb zs n rising low (q.0 - low) (omega (arith, q.1))) in
        omega arith
      where
        less : (low ≡ high → ⊥) → low < high
        less d = go (dec_lt low high)
          where
            go : Dec (low < high) → low < high
            go (yes x) = x
            go (no x) = absurd (d (let b = between in omega arith))

        not_below : (j : ℕ) → a * 18446744073709551616 ≤ rank_at zs j → low ≤ j
        not_below j r = go (dec_lt j low)
          where
            go : Dec (j < low) → low ≤ j
            go (yes x) = absurd (let k = here.below j x in omega arith)
            go (no x) = omega arith

    -- the answer, where some do
    pub some : (d : low ≡ high → ⊥) (f : ℕ) → Owns s (second_at zs low) f
        → five_numbers (first_of (with_address a (entries s))) ≡ 0 ∷ 0 ∷ second_at zs low ∷ f ∷ (high - low) ∷ []
    unfolding five_numbers
    some d f o =
        let x = first d in
        let k = number_is d in
        let b = between in
        let g : x.entry.owner.number ≡ f = owned s f x.entry i.new x.member (rw k o) in
        let c : length (x.entry ∷ x.others) ≡ high - low = ap length (sym x.is) ∙ omega arith in
        rw (x.is, k, g, c)
