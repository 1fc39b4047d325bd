-- A reordered section is accepted, and its entries are like the first one's.
use Prim.Native.Nat.{ℕ, suc, ◌+◌, ◌-◌, ◌*◌, ◌%◌, ◌≤◌, ◌<◌}
use mathlib.Core.Path.{◌≡◌, refl, sym, ap, ◌∙◌}
use mathlib.Core.Bool.{Bool, true}
use mathlib.Core.Logic.{◌⊎◌, inl, inr, ⊎_elim}
use mathlib.Core.List.Memᴰ
use mathlib.Core.List.Permᴰ
use mathlib.Core.List.{List, [], ◌∷◌, ◌++◌, Memᴰ, Permᴰ}
use native.Mathlib.Omega.{arith}
use lib.ListN.{length, get_or, take, drop, length-append, length-drop, take-append-drop, get_or-append}
use lib.Seq.{length-take-le, drop_at, get_or-take}
use Rattle.stackmap.specs.Fields.{Field, size, Fit, all}
use Rattle.stackmap.specs.Section.{Location, Record, Section, function_fields, constant_fields, location_fields, live_out_fields, record_head, record_middle, record_end, record_fields, section_header, section_fields, Encodable, Owner, record_owners, Entry, address, entries_from, entries_of}
use Rattle.stackmap.specs.Fault.{WellFormed}
use Rattle.stackmap.proofs.WellFormed.{GoodEntry, good_valid, valid_good}
use Rattle.stackmap.proofs.Fields.{size-append, fit_join, fit_first, fit_second, fit_each, each_fit}
use Rattle.stackmap.proofs.Back.{record_size_lem, section-size}
use Rattle.moves.proofs.Searches.{perm_mem, perm_length}
use Rattle.relocate.specs.Statepoint.{no_location, deopt_count, pairs_at, constant_head, paired_rest, is_statepoint, Pair, pair_up, pairs}
use Rattle.relocate.specs.Reorder.{unpair, Reordered, EachReordered}
use Rattle.relocate.proofs.Pairing.{statepoint_tells}

pair-unpair : (ps : List Pair) → pair_up (unpair ps) ≡ ps
unfolding pair_up unpair
pair-unpair [] = refl
pair-unpair (p ∷ ps) = ap (λ (l : List Pair). p ∷ l) (pair-unpair ps)

unpair-pair : (ls : List Location) → length ls % 2 ≡ 0 → unpair (pair_up ls) ≡ ls
unfolding pair_up unpair
unpair-pair [] h = refl
unpair-pair (b ∷ []) h = absurd (omega arith)
unpair-pair (b ∷ d ∷ ls) h = ap (λ (l : List Location). b ∷ d ∷ l) (unpair-pair ls (omega arith))

length-unpair : (ps : List Pair) → length (unpair ps) ≡ 2 * length ps
unfolding unpair
length-unpair [] = omega arith
length-unpair (p ∷ ps) = omega (arith, length-unpair ps)

-- a location of some pairs is one of all pairs that hold those
unpair_mem : (ps qs : List Pair) → ((p : Pair) → Memᴰ p ps → Memᴰ p qs) → (l : Location) → Memᴰ l (unpair ps) → Memᴰ l (unpair qs)
unfolding unpair
unpair_mem [] qs h l m = absurd (Memᴰ.not-nil m)
unpair_mem (p ∷ ps) qs h l m =
    ⊎_elim (λ e. rw e (in_base qs (h p (Memᴰ.head refl))))
    (λ m₁. ⊎_elim (λ e. rw e (in_derived qs (h p (Memᴰ.head refl)))) (λ m₂. unpair_mem ps qs (λ q n. h q (Memᴰ.tail n)) l m₂) (Memᴰ.cases_cons m₁))
    (Memᴰ.cases_cons m)
  where
    in_base : {p : Pair} (qs : List Pair) → Memᴰ p qs → Memᴰ p.base (unpair qs)
    in_base qs (Memᴰ.head e) = Memᴰ.head (ap (λ (q : Pair). q.base) e)
    in_base qs (Memᴰ.tail {xs = xs} n) = Memᴰ.tail (Memᴰ.tail (in_base xs n))

    in_derived : {p : Pair} (qs : List Pair) → Memᴰ p qs → Memᴰ p.derived (unpair qs)
    in_derived qs (Memᴰ.head e) = Memᴰ.tail (Memᴰ.head (ap (λ (q : Pair). q.derived) e))
    in_derived qs (Memᴰ.tail {xs = xs} n) = Memᴰ.tail (Memᴰ.tail (in_derived xs n))

-- what a reordered record keeps, in the bytes of either version
pub record Like (r r' : Record) : Type 0 where
  pub offset-same : r'.offset ≡ r.offset
  pub size_same : (old : Bool) → size (record_fields old r') ≡ size (record_fields old r)
  pub fit_keeps : (old : Bool) → Fit (record_fields old r) → Fit (record_fields old r')
  pub locations-from : (l : Location) → Memᴰ l r'.locations → Memᴰ l r.locations
  pub statepoint-same : is_statepoint r' ≡ is_statepoint r
  pub pairs_perm : Permᴰ (pairs r) (pairs r')

same_like : (r r' : Record) → r' ≡ r → Like r r'
same_like r r' e =
    rw e (record { offset-same = refl; size_same = λ old. refl; fit_keeps = λ old h. h; locations-from = λ l m. m; statepoint-same = refl; pairs_perm = Permᴰ.refl (pairs r) })

module _ (r : Record) (ps : List Pair) (sp : is_statepoint r ≡ true) (perm : Permᴰ (pairs r) ps) where
  abbrev n : ℕ
  n = pairs_at r

  abbrev ls : List Location
  ls = r.locations

  abbrev r' : Record
  r' = record { id = r.id; offset = r.offset; locations = take n ls ++ unpair ps; live_outs = r.live_outs }

  tells : (n ≤ length ls) × ((length ls - n) % 2 ≡ 0)
  tells = let t = statepoint_tells r sp in (t.room, t.even)

  whole : ls ≡ take n ls ++ unpair (pairs r)
  unfolding pairs
  whole =
      let e : length (drop n ls) % 2 ≡ 0 = rw length-drop tells.1 in
      rw (unpair-pair (drop n ls) e) (sym (take-append-drop n ls))

  front : length (take n ls) ≡ n
  front = length-take-le n ls tells.0

  length-same : length r'.locations ≡ length ls
  length-same =
      let p = perm_length perm in
      let w : length ls ≡ length (take n ls) + length (unpair (pairs r)) = ap length whole ∙ length-append (take n ls) (unpair (pairs r)) in
      length-append (take n ls) (unpair ps) ∙ omega (arith, length-unpair ps, length-unpair (pairs r))

  -- the first locations are the same
  early : (i : ℕ) → i < 3 → get_or r'.locations i no_location ≡ get_or ls i no_location
  early i h =
      get_or-append (take n ls) (unpair ps) no_location i (omega (arith, front)) ∙ get_or-take n ls i no_location (omega arith)

  deopt_same : deopt_count r' ≡ deopt_count r
  unfolding deopt_count
  deopt_same = ap (λ (l : Location). l.offset) (early 2 (omega arith))

  pairs-same : pairs r' ≡ ps
  unfolding pairs
  pairs-same = rw (deopt_same, drop_at (take n ls) (unpair ps) n front) (pair-unpair ps)

  statepoint-is : is_statepoint r' ≡ is_statepoint r
  unfolding is_statepoint constant_head paired_rest
  statepoint-is = rw (length-same, early 0 (omega arith), early 1 (omega arith), early 2 (omega arith), deopt_same)

  from : (l : Location) → Memᴰ l r'.locations → Memᴰ l ls
  from l m =
      rw whole
      (⊎_elim (λ a. Memᴰ.append_left (unpair (pairs r)) a)
      (λ b. Memᴰ.append_right (take n ls) (unpair_mem ps (pairs r) (λ p q. perm_mem (Permᴰ.symm perm) q) l b))
      (Memᴰ.append_cases (take n ls) m))

  module _ (old : Bool) where
    abbrev A : List Field
    A = record_head r

    abbrev B : List Field
    B = all (location_fields old) ls

    abbrev B' : List Field
    B' = all (location_fields old) (take n ls ++ unpair ps)

    abbrev C : List Field
    C = record_middle old r

    abbrev D : List Field
    D = all live_out_fields r.live_outs

    abbrev E : List Field
    E = record_end r

    sizes : size (record_fields old r') ≡ size (record_fields old r)
    sizes = rw (record_size_lem old r', record_size_lem old r, length-same)

    fits : Fit (record_fields old r) → Fit (record_fields old r')
    unfolding record_fields
    fits h =
        let h₄ = fit_first (A ++ B ++ C ++ D) E h in
        let h₃ = fit_first (A ++ B ++ C) D h₄ in
        let h₂ = fit_first (A ++ B) C h₃ in
        let b : Fit B' = fit_each (location_fields old) (take n ls ++ unpair ps) (λ l q. each_fit (location_fields old) (fit_second A B h₂) (from l q)) in
        rw length-same
        (fit_join (A ++ B' ++ C ++ D) E (fit_join (A ++ B' ++ C) D (fit_join (A ++ B') C (fit_join A B' (fit_first A B h₂) b) (fit_second (A ++ B) C h₃)) (fit_second (A ++ B ++ C) D h₄)) (fit_second (A ++ B ++ C ++ D) E h))

  reordered_like : Like r r'
  reordered_like =
      record {
        offset-same = refl;
        size_same = sizes;
        fit_keeps = fits;
        locations-from = from;
        statepoint-same = statepoint-is;
        pairs_perm = rw pairs-same perm;
      }

pub like : (r r' : Record) → (r' ≡ r) ⊎ Reordered r r' → Like r r'
like r r' (inl e) = same_like r r' e
like r r' (inr o) = rw o.nothing_else (reordered_like r o.order o.statepoint o.another_order)

-- lists

records-same : (old : Bool) (rs rs' : List Record) → EachReordered rs rs' → (length rs' ≡ length rs) × (size (all (record_fields old) rs') ≡ size (all (record_fields old) rs))
unfolding all size
records-same old [] [] e = (refl, refl)
records-same old [] (r' ∷ rs') e = absurd e
records-same old (r ∷ rs) [] e = absurd e
records-same old (r ∷ rs) (r' ∷ rs') e =
    let h = records-same old rs rs' e.1 in
    (ap suc h.0, rw (size-append, size-append, (like r r' e.0).size_same old, h.1))

records_fit : (old : Bool) (rs rs' : List Record) → EachReordered rs rs' → Fit (all (record_fields old) rs) → Fit (all (record_fields old) rs')
unfolding all
records_fit old [] [] e h = tt
records_fit old [] (r' ∷ rs') e h = absurd e
records_fit old (r ∷ rs) [] e h = absurd e
records_fit old (r ∷ rs) (r' ∷ rs') e h =
    fit_join (record_fields old r') (all (record_fields old) rs') ((like r r' e.0).fit_keeps old (fit_first (record_fields old r) (all (record_fields old) rs) h))
    (records_fit old rs rs' e.1 (fit_second (record_fields old r) (all (record_fields old) rs) h))

pub record EntryLike (e e' : Entry) : Type 0 where
  pub owner-same : e'.owner ≡ e.owner
  pub body_like : Like e.body e'.body

abbrev pub EntriesLike : List Entry → List Entry → Type 0
EntriesLike [] [] = Unit {0}
EntriesLike [] (e ∷ es) = ⊥
EntriesLike (e ∷ es) [] = ⊥
EntriesLike (e ∷ es) (e' ∷ es') = EntryLike e e' × EntriesLike es es'

entries_like : (old : Bool) (k at : ℕ) (os : List Owner) (rs rs' : List Record) → EachReordered rs rs' → EntriesLike (entries_from old k at os rs) (entries_from old k at os rs')
unfolding entries_from
entries_like old k at [] rs rs' e = tt
entries_like old k at (o ∷ os) [] [] e = tt
entries_like old k at (o ∷ os) [] (r' ∷ rs') e = absurd e
entries_like old k at (o ∷ os) (r ∷ rs) [] e = absurd e
entries_like old k at (o ∷ os) (r ∷ rs) (r' ∷ rs') e =
    let l = like r r' e.0 in
    (record { owner-same = refl; body_like = l }, rw (l.size_same old) (entries_like old (suc k) (at + size (record_fields old r)) os rs rs' e.1))

pub like_address : (e e' : Entry) → EntryLike e e' → address e' ≡ address e
unfolding address
like_address e e' l = rw (l.owner-same, l.body_like.offset-same)

like_good : (old : Bool) (c : ℕ) (e e' : Entry) → EntryLike e e' → GoodEntry old c e → GoodEntry old c e'
like_good old c e e' l g =
    record {
      address-right = rw (like_address e e' l) g.address-right;
      locations_good = λ x m. g.locations_good x (l.body_like.locations-from x m);
    }

like_mem : (es : List Entry) {es' : List Entry} {e' : Entry} → EntriesLike es es' → Memᴰ e' es' → (e : Entry) × Memᴰ e es × EntryLike e e'
like_mem [] {e' = e'} l (Memᴰ.head q) = absurd l
like_mem [] {e' = e'} l (Memᴰ.tail m) = absurd l
like_mem (x ∷ xs) {e' = e'} l (Memᴰ.head q) = (x, Memᴰ.head refl, rw q l.0)
like_mem (x ∷ xs) {e' = e'} l (Memᴰ.tail m) = let r = like_mem xs l.1 m in (r.0, Memᴰ.tail r.1, r.2)

module _ (t : Section) (rs' : List Record) (each : EachReordered t.records rs') where
  abbrev t' : Section
  t' = record { old = t.old; functions = t.functions; constants = t.constants; records = rs' }

  abbrev H : List Field
  H = section_header t

  abbrev F : List Field
  F = all (function_fields t.old) t.functions

  abbrev K : List Field
  K = all constant_fields t.constants

  still-fits : Encodable t → Encodable t'
  unfolding section_fields
  still-fits h =
      rw (records-same t.old t.records rs' each).0
      (fit_join (H ++ F ++ K) (all (record_fields t.old) rs') (fit_first (H ++ F ++ K) (all (record_fields t.old) t.records) h)
      (records_fit t.old t.records rs' each (fit_second (H ++ F ++ K) (all (record_fields t.old) t.records) h)))

  pub section_like : EntriesLike (entries_of t) (entries_of t')
  unfolding entries_of
  section_like =
      rw (records-same t.old t.records rs' each).0
      (entries_like t.old 0 _ (record_owners t.old (length t.records) t.functions) t.records rs' each)

  pub still_well : WellFormed t → WellFormed t'
  still_well w =
      let h = records-same t.old t.records rs' each in
      let f = still-fits w.fits in
      let z₁ = section-size t in
      let z₂ = section-size t' in
      let g = valid_good t _ w.no_fault in
      record {
        fits = f;
        no_counts = w.no_counts;
        no_fault =
            good_valid t'
            (record {
              small = omega (arith, g.small, h.1);
              adds_up = rw h.0 g.adds_up;
              entries_good = λ e' m. let r = like_mem (entries_of t) section_like m in like_good _ _ r.0 e' r.2 (g.entries_good r.0 r.1);
            });
      }
