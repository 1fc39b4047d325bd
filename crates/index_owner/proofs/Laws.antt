-- The records before a function, and the function of a record.
use Prim.Native.Nat.{ℕ, zero, suc, ◌+◌, ◌*◌, ◌-◌, ◌≤◌, ◌<◌}
use mathlib.Core.Path.{◌≡◌, refl, sym, ap, ◌∙◌}
use mathlib.Core.Bool.{Bool, true, false}
use mathlib.Core.Logic.{⊎_elim}
use mathlib.Core.List.Memᴰ
use mathlib.Core.List.{List, [], ◌∷◌, ◌++◌, Memᴰ}
use native.Mathlib.Omega.{arith}
use native.Mathlib.Decide.{dec_lt}
use borrow.Author.Tests.{le-leb, leb-true}
use lib.Dec.{leb}
use Rattle.std.specs.List.Sorted.{IsPartitionedBy, IsPartitionPoint}
use Rattle.std.proofs.lemmas.List.{length-take-le, get_or-take}
use Rattle.std.proofs.lemmas.List.Sorted.{IsPartitionedBy-leb, IsNonDecreasingBy-from_default}
use lib.ListN.{take, length, get_or, replicate, set, length-set, length-replicate, get_or-replicate, get_or-append}
use lib.Seq.{get_or-append-add, get_or-set_same, get_or-set_other}
use Rattle.wire.specs.Word.{word}
use Rattle.stackmap.specs.Fields.{size}
use Rattle.stackmap.specs.Section.{Function, Record, Owner, record_fields, num_functions, num_records, is_old, records_at, read_function}
use Rattle.stackmap.specs.Section.{read_functions, read_section, no_function, nobody, owners, record_owners, counted, Entry}
use Rattle.stackmap.specs.Section.{entries_from, entries}
use Rattle.stackmap.specs.Walk.{Walkable, function_number}
use Rattle.stackmap.proofs.Parts.{function-number}
use Rattle.stackmap.proofs.Entries.{entries-are}
use Rattle.stackmap.proofs.Fields.{length-many}
use Rattle.index_owner.specs.Owner.{records_of, before, Owns, Marking}

-- The records before a function.

pub before-none : (s : List ℕ) → before s 0 ≡ 0
unfolding records_of
before-none s = refl

one_more : (n : ℕ) (fs : List Function) → n < length fs → records_of (n + 1) fs ≡ records_of n fs + (get_or fs n no_function).count
unfolding records_of
one_more n [] l = absurd (omega arith)
one_more zero (f ∷ fs) l = none fs
  where
    none : (gs : List Function) → f.count + records_of 0 gs ≡ 0 + f.count
    none gs = omega arith
one_more (suc n) (f ∷ fs) l =
    let h = one_more n fs (omega arith) in
    let z : suc n + 1 ≡ suc (n + 1) = omega arith in
    rw z (omega arith)

all-records : (fs : List Function) → records_of (length fs) fs ≡ counted fs
unfolding records_of counted
all-records [] = refl
all-records (f ∷ fs) = ap (λ (n : ℕ). f.count + n) (all-records fs)

most-records : (n : ℕ) (fs : List Function) → records_of n fs ≤ counted fs
unfolding records_of counted
most-records zero fs = omega arith
most-records (suc n) [] = omega arith
most-records (suc n) (f ∷ fs) = let h = most-records n fs in omega arith

records_on : (i j : ℕ) (fs : List Function) → i ≤ j → records_of i fs ≤ records_of j fs
unfolding records_of
records_on zero j fs h = omega arith
records_on (suc i) zero fs h = absurd (omega arith)
records_on (suc i) (suc j) [] h = omega arith
records_on (suc i) (suc j) (f ∷ fs) h = let k = records_on i j fs (omega arith) in omega arith

functions-many : (s : List ℕ) → length (read_functions s) ≡ num_functions s
unfolding read_functions
functions-many s = length-many (read_function (is_old s)) _ (num_functions s) s 16

count-read : (s : List ℕ) (i : ℕ) → is_old s ≡ false → i < num_functions s → (get_or (read_functions s) i no_function).count ≡ word 8 s (16 + 24 * i + 16)
unfolding read_function function_number read_section
count-read s i new l = ap (λ (f : Function). f.count) (function-number s i l) ∙ rw new

pub before_step : (s : List ℕ) (i : ℕ) → is_old s ≡ false → i < num_functions s → before s (i + 1) ≡ before s i + word 8 s (16 + 24 * i + 16)
before_step s i new l =
    let m = functions-many s in
    one_more i (read_functions s) (omega arith) ∙ ap (λ (n : ℕ). before s i + n) (count-read s i new l)

module _ (s : List ℕ) (w : Walkable s) (new : is_old s ≡ false) where
  pub before-most : (i : ℕ) → before s i ≤ num_records s
  before-most i = let h = most-records i (read_functions s) in let e = w.adds_up new in omega arith

  pub before-all : before s (num_functions s) ≡ num_records s
  before-all = ap (λ (n : ℕ). records_of n (read_functions s)) (sym (functions-many s)) ∙ all-records (read_functions s) ∙ w.adds_up new

  -- a function is inside
  pub room : (i : ℕ) → i < num_functions s → 16 + 24 * (i + 1) ≤ length s
  room i l = let h = rw new at w.inside in omega arith

  -- where a record is ahead, so is a function
  pub not_last : (i k : ℕ) → i ≤ num_functions s → before s i ≤ k → k < num_records s → i < num_functions s
  not_last i k l b h = go (dec_lt i (num_functions s))
    where
      go : Dec (i < num_functions s) → i < num_functions s
      go (yes m) = m
      go (no m) =
          let z : i ≡ num_functions s = omega arith in
          let e : before s i ≡ num_records s = ap (λ (n : ℕ). before s n) z ∙ before-all in
          absurd (omega arith)

-- The function of a record.

owner-there : (n i k : ℕ) (fs : List Function) → n < length fs → records_of n fs ≤ k → k < records_of (n + 1) fs → (get_or (owners i fs) k nobody).number ≡ i + n
unfolding records_of owners
owner-there n i k [] l a b = absurd (omega arith)
owner-there zero i k (f ∷ fs) l a b =
    let o : Owner = record { number = i; function = f } in
    let r = length-replicate f.count o in
    let z = none fs in
    ap (λ (x : Owner). x.number) (get_or-append (replicate f.count o) (owners (suc i) fs) nobody k (omega arith) ∙ get_or-replicate f.count k o nobody (omega arith)) ∙ omega arith
  where
    none : (gs : List Function) → records_of 0 gs ≡ 0
    none gs = refl
owner-there (suc n) i k (f ∷ fs) l a b =
    let o : Owner = record { number = i; function = f } in
    let r = length-replicate f.count o in
    let y : suc n + 1 ≡ suc (n + 1) = omega arith in
    let u : k < f.count + records_of (n + 1) fs = rw y at b in
    let h = owner-there n (suc i) (k - f.count) fs (omega arith) (omega arith) (omega arith) in
    let z : length (replicate f.count o) + (k - f.count) ≡ k = omega arith in
    ap (λ (j : ℕ). (get_or (replicate f.count o ++ owners (suc i) fs) j nobody).number) (sym z)
    ∙ ap (λ (x : Owner). x.number) (get_or-append-add (replicate f.count o) (owners (suc i) fs) (k - f.count) nobody)
    ∙ h ∙ omega arith

owner-by : (old : Bool) (k at : ℕ) (os : List Owner) (rs : List Record) (e : Entry) → Memᴰ e (entries_from old k at os rs) → (k ≤ e.number) × (get_or os (e.number - k) nobody ≡ e.owner)
unfolding entries_from
owner-by old k at [] rs e m = absurd (Memᴰ.not-nil m)
owner-by old k at (o ∷ os) [] e m = absurd (Memᴰ.not-nil m)
owner-by old k at (o ∷ os) (r ∷ rs) e m =
    ⊎_elim
    (λ q. let n : e.number ≡ k = ap (λ (x : Entry). x.number) q in let z : e.number - k ≡ 0 = omega arith in (omega arith, rw z (sym (ap (λ (x : Entry). x.owner) q))))
    (λ h.
    let i = owner-by old (suc k) (at + size (record_fields old r)) os rs e h in
    let b = i.0 in
    let z : e.number - k ≡ suc (e.number - suc k) = omega arith in
    (omega arith, rw z i.1))
    (Memᴰ.cases_cons m)

pub owned : (s : List ℕ) (f : ℕ) (e : Entry) → is_old s ≡ false → Memᴰ e (entries s) → Owns s e.number f → e.owner.number ≡ f
unfolding record_owners
owned s f e new m o =
    let b = owner-by (is_old s) 0 (records_at s) _ _ e (rw (entries-are s) at m) in
    let n = functions-many s in
    let l = o.there in
    let z : e.number - 0 ≡ e.number = omega arith in
    let q : get_or (owners 0 (read_functions s)) e.number nobody ≡ e.owner = rw (new, z) at b.1 in
    ap (λ (x : Owner). x.number) (sym q) ∙ owner-there f 0 e.number (read_functions s) (omega arith) o.low o.high ∙ omega arith

-- One mark more.

pub marked_one : (s marks : List ℕ) (count v : ℕ) → Marking s marks count → count < length marks → 86 * count < num_functions s → v ≡ before s (86 * count)
    → Marking s (set marks count v) (count + 1)
marked_one s marks count v m l i e =
    record {
      most = rw (length-set marks count v) (omega arith);
      inside = λ j h. go_inside j (dec_lt j count) h;
      each = λ j h. go j (dec_lt j count) h;
    }
  where
    go_inside : (j : ℕ) → Dec (j < count) → j < count + 1 → 86 * j < num_functions s
    go_inside j (yes a) h = m.inside j a
    go_inside j (no a) h = omega arith

    go : (j : ℕ) → Dec (j < count) → j < count + 1 → get_or (set marks count v) j 0 ≡ before s (86 * j)
    go j (yes a) h = get_or-set_other marks count j v 0 (λ q. omega arith) ∙ m.each j a
    go j (no a) h =
        let z : j ≡ count = omega arith in
        rw z (get_or-set_same marks count v 0 l ∙ e)

-- The marks rise, and the last that is not above a record is found by halving.

module _ (s marks : List ℕ) (count : ℕ) (m : Marking s marks count) where
  mark-each : (j : ℕ) → j < count → get_or (take count marks) j 0 ≡ before s (86 * j)
  mark-each j h = get_or-take count marks j 0 h ∙ m.each j h

  many_marks : length (take count marks) ≡ count
  many_marks = length-take-le count marks m.most

  pub marks-rise : (k : ℕ) → IsPartitionedBy (λ y. leb y k) (take count marks)
  marks-rise k = IsPartitionedBy-leb (λ x. x) (take count marks) k (IsNonDecreasingBy-from_default (λ x. x) (take count marks) 0 rise)
    where
      rise : (i j : ℕ) → i ≤ j → j < length (take count marks) → get_or (take count marks) i 0 ≤ get_or (take count marks) j 0
      rise i j h l =
          let n = many_marks in
          let b : 86 * i ≤ 86 * j = omega arith in
          rw (mark-each i (omega arith), mark-each j (omega arith)) (records_on (86 * i) (86 * j) (read_functions s) b)

  pub last_mark : (k i : ℕ) → 0 < count → i ≤ length (take count marks) → IsPartitionPoint (λ y. leb y k ≡ true) (λ y. leb y k ≡ false) (take count marks) i
      → (0 < i) × (i ≤ count) × (before s (86 * (i - 1)) ≤ k)
  last_mark k zero some b p =
      let n = many_marks in
      let f = p.1 0 0 (omega arith) (omega arith) in
      let z : get_or (take count marks) 0 0 ≡ 0 = mark-each 0 some ∙ before-none s in
      absurd (let b : leb (get_or (take count marks) 0 0) k ≡ true = le-leb _ _ (omega arith) in let y = sym b ∙ f in cc)
  last_mark k (suc i) some b p =
      let n = many_marks in
      let j : suc i - 1 ≡ i = omega arith in
      let e = mark-each i (omega arith) in
      let h = leb-true (get_or (take count marks) i 0) k (p.0 i 0 (omega arith) (omega arith)) in
      (omega arith, omega arith, rw j (omega arith))
