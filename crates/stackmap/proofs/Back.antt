-- The bytes of a section are read back as the section, and their refusal is the section's.
use Prim.Native.Nat.{ℕ, suc, ◌+◌, ◌*◌, ◌%◌, ◌≤◌}
use mathlib.Core.Path.{◌≡◌, refl, sym, ◌∙◌, ap}
use mathlib.Core.List.{List, [], ◌∷◌, ◌++◌, append-nil, map, map-id, Memᴰ}
use mathlib.Core.Bool.{Bool, true, false}
use native.Mathlib.Omega.{arith}
use native.Mathlib.Nat.{add-zero, add_assoc}
use borrow.Author.Tests.{le-leb, eq-eqb, eqb-true}
use lib.ListN.{length, get_or, drop, length-append, length-drop, length-replicate}
use lib.Dec.{leb, eqb}
use Rattle.wire.specs.Word.{word}
use Rattle.wire.proofs.Laws.{word-drop}
use Rattle.stackmap.specs.Verdict.{Verdict}
use Rattle.stackmap.specs.Verdict.{Valid, Refused}
use Rattle.stackmap.specs.Layout.{version_number, function_size, location_size, locations_padding}
use Rattle.stackmap.specs.Verdict.{must, chain, bind, shift}
use Rattle.stackmap.specs.Fields.{Field, size, all}
use Rattle.stackmap.specs.Section.{Function, Record, Section, function_fields, constant_fields, location_fields, live_out_fields, record_head, record_middle, record_end, record_fields, section_header, section_fields, encode_section, Encodable, read_function, read_constant, read_location, read_live_out, record_length, read_record, read_records, read_functions, is_old, read_section, Owner, nobody, owners, record_owners, counted, Entry, address, entries_from, entries_of}
use Rattle.stackmap.specs.Record.{record_inside, record_bytes, record_check}
use Rattle.stackmap.specs.Check.{version_right, counts_right, header_check, tables_check, records_check, walk_check, section_check}
use Rattle.stackmap.specs.Fault.{entry_fault, entries_fault, section_fault}
use Rattle.stackmap.proofs.Verdicts.{must-rest, chain-rest}
use Rattle.stackmap.proofs.Fields.{Has, HasFrom, split, many_read, many-back, fields_back, length-bytes_of, size-append, size-all}
use Rattle.stackmap.proofs.Items.{function-size, constant-size, location_size_lem, live_out_size_lem, written, function-back, constant-back, location_back, live_out_back, byte_word, zeros-back, locations-fault, live_outs-valid}

-- a record

module _ (old : Bool) (r : Record) where
  abbrev n : ℕ
  n = length r.locations

  abbrev m : ℕ
  m = length r.live_outs

  abbrev locations_stop : ℕ
  locations_stop = 16 + location_size old * n + locations_padding old n

  abbrev A : List Field
  A = record_head r

  abbrev B : List Field
  B = all (location_fields old) r.locations

  abbrev C : List Field
  C = record_middle old r

  abbrev D : List Field
  D = all live_out_fields r.live_outs

  abbrev E : List Field
  E = record_end r

  sizes : (size (all (location_fields old) r.locations) ≡ location_size old * n) × (size (all live_out_fields r.live_outs) ≡ 4 * m)
  sizes = (size-all (location_fields old) (location_size old) (location_size_lem old) r.locations, size-all live_out_fields 4 live_out_size_lem r.live_outs)

  pub record_size_lem : size (record_fields old r) ≡ locations_stop + 4 + 4 * m + (m + 1) % 2 * 4
  unfolding record_fields size
  record_size_lem = simp size-append (omega (arith, sizes))

  -- the numbers of a record that stands at the start of s
  record Parts (s : List ℕ) : Type 0 where
    id : word 8 s 0 ≡ r.id
    offset : word 4 s 8 ≡ r.offset
    flags : word 2 s 12 ≡ 0
    locations_num : word 2 s 14 ≡ n
    locations_in : Has s 16 (all (location_fields old) r.locations)
    padding : word (locations_padding old n + 2) s (16 + location_size old * n) ≡ 0
    live_outs_num : word 2 s (locations_stop + 2) ≡ m
    live_outs_in : Has s (locations_stop + 4) (all live_out_fields r.live_outs)
    last : word ((m + 1) % 2 * 4) s (locations_stop + 4 + 4 * m) ≡ 0

  parts : (s : List ℕ) → Has s 0 (record_fields old r) → Parts s
  unfolding record_fields size
  parts s h =
      let k₁ = split s 0 (locations_stop + 4 + 4 * m) (A ++ B ++ C ++ D) E (simp size-append (omega (arith, sizes))) h in
      let k₂ = split s 0 (locations_stop + 4) (A ++ B ++ C) D (simp size-append (omega (arith, sizes))) k₁.0 in
      let k₃ = split s 0 (16 + location_size old * n) (A ++ B) C (simp size-append (omega (arith, sizes))) k₂.0 in
      let k₄ = split s 0 16 A B refl k₃.0 in
      let e₂ : 16 + location_size old * n + (0 + (locations_padding old n + 2)) ≡ locations_stop + 2 = omega arith in
      record {
        id = k₄.0.0;
        offset = k₄.0.1.0;
        flags = k₄.0.1.1.0;
        locations_num = k₄.0.1.1.1.0;
        locations_in = k₄.1;
        padding = rw add-zero at k₃.1.0;
        live_outs_num = rw (e₂) at k₃.1.1.0;
        live_outs_in = k₂.1;
        last = rw add-zero at k₁.1.0;
      }

  record_back : (s : List ℕ) → Has s 0 (record_fields old r) → read_record old s ≡ r
  unfolding read_record
  record_back s h =
      let p = parts s h in
      rw (
        p.id,
        p.offset,
        p.locations_num,
        p.live_outs_num,
        many-back (location_fields old) (read_location old) (location_size old) (location_size_lem old) s (location_back old s) r.locations 16 p.locations_in,
        many-back live_out_fields read_live_out 4 live_out_size_lem s (live_out_back s) r.live_outs _ p.live_outs_in,
      )

  record_long : (s : List ℕ) → Has s 0 (record_fields old r) → record_length old s ≡ size (record_fields old r)
  unfolding record_length
  record_long s h = let p = parts s h in rw (p.locations_num, p.live_outs_num, record_size_lem)

-- the check of its bytes, where they are inside
record_fault : (old : Bool) (e : Entry) (s : List ℕ) (c : ℕ) → Has s 0 (record_fields old e.body) → size (record_fields old e.body) ≤ length s
    → record_check old s c e.owner.function.address ≡ entry_fault old c e
unfolding record_check record_inside record_bytes entry_fault address must chain
record_fault old e s c h l =
    let p = parts old e.body s h in
    let b = e.body in
    rw (
      record_long old b s h,
      le-leb _ _ l,
      p.offset,
      zeros-back 2 s 12 p.flags,
      p.locations_num,
      p.live_outs_num,
      locations-fault old s c b.locations 16 p.locations_in,
      zeros-back _ s _ p.padding,
      live_outs-valid s b.live_outs _ p.live_outs_in,
      zeros-back _ s _ p.last,
    )

-- the walk

-- numbers of a part that starts at p
has-drop : (s : List ℕ) (p a o : ℕ) (fs : List Field) → HasFrom s (p + a) o fs → HasFrom (drop p s) a o fs
has-drop s p a o [] h = tt
has-drop s p a o (f ∷ fs) h = (rw (word-drop, ← add_assoc p a o) h.0, has-drop s p a (o + f.width) fs h.1)

records-back : (old : Bool) (s : List ℕ) (rs : List Record) (at : ℕ) → Has s at (all (record_fields old) rs) → read_records old (length rs) s at ≡ rs
unfolding read_records all
records-back old s [] at h = refl
records-back old s (r ∷ rs) at h =
    let k = split s at (at + size (record_fields old r)) (record_fields old r) (all (record_fields old) rs) refl h in
    let j : Has (drop at s) 0 (record_fields old r) = has-drop s at 0 0 (record_fields old r) (rw add-zero k.0) in
    rw (record_back old r (drop at s) j, record_long old r (drop at s) j, records-back old s rs _ k.1)

-- go on after a part that ends at n, if it is valid
on : (at n : ℕ) (x : Verdict) (k : ℕ → Verdict) (y : Verdict) → ((e : ℕ) → x ≡ Valid e → e ≡ n) → k (at + n) ≡ y
    → bind (shift at x) k ≡ chain (shift at x) y
unfolding bind shift chain
on at n (Valid e) k y h g = rw (h e refl) g
on at n (Refused q p) k y h g = refl

pub entry-valid : (old : Bool) (c : ℕ) (e : Entry) (n : ℕ) → entry_fault old c e ≡ Valid n → n ≡ size (record_fields old e.body)
unfolding entry_fault
entry-valid old c e n h = let k = chain-rest _ _ _ (must-rest _ _ _ _ _ h) in cc

-- the walk over the bytes gives what the entries' refusals give
records_walk : (old : Bool) (s : List ℕ) (c stop : ℕ) → stop ≤ length s → (os : List Owner) (i at : ℕ) (rs : List Record) → length os ≡ length rs
    → Has s at (all (record_fields old) rs) → at + size (all (record_fields old) rs) ≡ stop
    → records_check old os s c at ≡ entries_fault old c (entries_from old i at os rs) stop
unfolding records_check entries_from entries_fault all size
records_walk old s c stop inside [] i at [] l h e = ap Valid (omega arith)
records_walk old s c stop inside [] i at (r ∷ rs) l h e = absurd (omega arith)
records_walk old s c stop inside (o ∷ os) i at [] l h e = absurd (omega arith)
records_walk old s c stop inside (o ∷ os) i at (r ∷ rs) l h e =
    let x : Entry = record { number = i; first = at; owner = o; body = r } in
    let z = size-append (record_fields old r) (all (record_fields old) rs) in
    let j = split s at (at + size (record_fields old r)) (record_fields old r) (all (record_fields old) rs) refl h in
    let d = has-drop s at 0 0 (record_fields old r) (rw add-zero j.0) in
    let f = record_fault old x (drop at s) c d (rw length-drop (omega arith)) in
    let t = records_walk old s c stop inside os (suc i) (at + size (record_fields old r)) rs (omega arith) j.1 (omega arith) in
    rw f (on at _ (entry_fault old c x) _ _ (entry-valid old c x) t)

pub length-owners : (i : ℕ) (fs : List Function) → length (owners i fs) ≡ counted fs
unfolding owners counted
length-owners i [] = refl
length-owners i (f ∷ fs) = rw (length-append, length-replicate, length-owners (suc i) fs)

pub entries-valid : (old : Bool) (c : ℕ) (es : List Entry) (stop n : ℕ) → entries_fault old c es stop ≡ Valid n → n ≡ stop
unfolding entries_fault
entries-valid old c [] stop n h = cc
entries-valid old c (e ∷ es) stop n h = entries-valid old c es stop n (chain-rest _ _ _ h)

-- the test of the end, where the end is known
at-end : (x : Verdict) (n : ℕ) → ((e : ℕ) → x ≡ Valid e → e ≡ n) → bind x (λ p. must (eqb p n) 9 p (Valid p)) ≡ x
unfolding bind must
at-end (Valid e) n h = rw (eq-eqb e n (h e refl))
at-end (Refused q p) n h = refl

-- 1 and then 5, and then what is left
finish : (a b : Bool) (q : ℕ) (x y : Verdict) → (b ≡ true → x ≡ y)
    → chain (must a 1 0 (Valid 4)) (chain (must b 5 12 (Valid q)) x) ≡ must a 1 0 (must b 5 12 y)
unfolding chain must
finish true true q x y h = h refl
finish true false q x y h = refl
finish false b q x y h = refl

version-right : (old : Bool) → version_right (version_number old) ≡ true
version-right true = refl
version-right false = refl

-- What is read of the functions of version 1 has no record counts, and nothing else in version 1 reads them.

counts_same : (old : Bool) (fs : List Function) (n : ℕ) → counts_right old (map (written old) fs) n ≡ counts_right old fs n
unfolding counts_right
counts_same true fs n = refl
counts_same false fs n = rw (map-id fs)

owners-same : (old : Bool) (n : ℕ) (fs : List Function) → record_owners old n (map (written old) fs) ≡ record_owners old n fs
unfolding record_owners
owners-same true n fs = refl
owners-same false n fs = rw (map-id fs)

written_same : (old : Bool) (fs : List Function) → (old ≡ true → (f : Function) → Memᴰ f fs → f.count ≡ 0) → map (written old) fs ≡ fs
written_same false fs h = map-id fs
written_same true [] h = refl
written_same true (f ∷ fs) h =
    let z = h refl f (Memᴰ.head refl) in
    rw (← z, written_same true fs (λ e g m. h e g (Memᴰ.tail m)))

-- there are as many owners as records, where the record counts add up
pub owners_enough : (old : Bool) (n : ℕ) (fs : List Function) → counts_right old fs n ≡ true → length (record_owners old n fs) ≡ n
unfolding counts_right record_owners
owners_enough true n fs h = length-replicate n nobody
owners_enough false n fs h = length-owners 0 fs ∙ eqb-true _ _ h

old-read : (old : Bool) → eqb (version_number old) 1 ≡ old
old-read true = refl
old-read false = refl

module _ (t : Section) where
  abbrev s : List ℕ
  s = encode_section t

  abbrev nf : ℕ
  nf = length t.functions

  abbrev nc : ℕ
  nc = length t.constants

  abbrev H : List Field
  H = section_header t

  abbrev F : List Field
  F = all (function_fields t.old) t.functions

  abbrev K : List Field
  K = all constant_fields t.constants

  abbrev R : List Field
  R = all (record_fields t.old) t.records

  tables : (size F ≡ function_size t.old * nf) × (size K ≡ 8 * nc)
  tables = (size-all (function_fields t.old) (function_size t.old) (function-size t.old) t.functions, size-all constant_fields 8 constant-size t.constants)

  pub encoded-length : length (encode_section t) ≡ size (section_fields t)
  unfolding encode_section
  encoded-length = length-bytes_of (section_fields t)

  pub section-size : size (section_fields t) ≡ 16 + function_size t.old * nf + 8 * nc + size R
  unfolding section_fields size
  section-size = simp size-append (omega (arith, tables))

  module _ (fit : Encodable t) where
    has : Has s 0 (section_fields t)
    unfolding encode_section
    has = fields_back s 0 0 (section_fields t) [] fit (rw append-nil)

    record FieldsThere : Type 0 where
      version : word 1 s 0 ≡ version_number t.old
      reserved : word 3 s 1 ≡ 0
      functions_num : word 4 s 4 ≡ nf
      constants_num : word 4 s 8 ≡ nc
      records_num : word 4 s 12 ≡ length t.records
      functions_in : Has s 16 F
      constants_in : Has s (16 + function_size t.old * nf) K
      records_in : Has s (16 + function_size t.old * nf + 8 * nc) R

    fields_there : FieldsThere
    unfolding section_fields size
    fields_there =
        let k₁ = split s 0 (16 + function_size t.old * nf + 8 * nc) (H ++ F ++ K) R (simp size-append (omega (arith, tables))) has in
        let k₂ = split s 0 (16 + function_size t.old * nf) (H ++ F) K (simp size-append (omega (arith, tables))) k₁.0 in
        let k₃ = split s 0 16 H F refl k₂.0 in
        record {
          version = k₃.0.0;
          reserved = k₃.0.1.0;
          functions_num = k₃.0.1.1.0;
          constants_num = k₃.0.1.1.1.0;
          records_num = k₃.0.1.1.1.1.0;
          functions_in = k₃.1;
          constants_in = k₂.1;
          records_in = k₁.1;
        }

    old_is : is_old (encode_section t) ≡ t.old
    old_is = ap (λ (b : ℕ). eqb b 1) (sym (byte_word s 0) ∙ fields_there.version) ∙ old-read t.old

    functions-read : read_functions (encode_section t) ≡ map (written t.old) t.functions
    unfolding read_functions
    functions-read =
        let w = fields_there in
        rw (old_is, w.functions_num)
        (many_read (function_fields t.old) (read_function t.old) (function_size t.old) (function-size t.old) s (written t.old) (function-back t.old s) t.functions 16 w.functions_in)

    -- the bytes of a section are read back as the section
    pub read_back : (t.old ≡ true → (f : Function) → Memᴰ f t.functions → f.count ≡ 0) → read_section (encode_section t) ≡ t
    unfolding read_section
    read_back none =
        let w = fields_there in
        rw (
          functions-read,
          written_same t.old t.functions none,
          old_is,
          w.functions_num,
          w.constants_num,
          w.records_num,
          many-back constant_fields read_constant 8 constant-size s (constant-back s) t.constants _ w.constants_in,
          records-back t.old s t.records _ w.records_in,
        )

    walk : counts_right t.old t.functions (length t.records) ≡ true
        → records_check t.old (record_owners t.old (length t.records) t.functions) s nc (16 + function_size t.old * nf + 8 * nc) ≡ entries_fault t.old nc (entries_of t) (size (section_fields t))
    unfolding entries_of
    walk e =
        let w = fields_there in
        records_walk t.old s nc (size (section_fields t)) (omega (arith, encoded-length)) (record_owners t.old (length t.records) t.functions) 0
        (16 + function_size t.old * nf + 8 * nc) t.records (owners_enough t.old (length t.records) t.functions e) w.records_in (sym section-size)

    -- and refused, or accepted, as the section is
    pub check-back : section_check (encode_section t) ≡ section_fault t
    unfolding section_check header_check tables_check walk_check section_fault chain must
    check-back =
        let w = fields_there in
        let v : get_or s 0 0 ≡ version_number t.old = sym (byte_word s 0) ∙ w.version in
        let r : version_right (get_or s 0 0) ≡ true = rw v (version-right t.old) in
        let z = section-size in
        let l : 16 ≤ size (section_fields t) = omega arith in
        let l₁ : 16 + function_size t.old * nf ≤ size (section_fields t) = omega arith in
        let l₂ : 16 + function_size t.old * nf + 8 * nc ≤ size (section_fields t) = omega arith in
        rw (
          encoded-length,
          le-leb 16 _ l,
          r,
          old_is,
          zeros-back 3 s 1 w.reserved,
          w.functions_num,
          w.constants_num,
          w.records_num,
          functions-read,
          counts_same t.old,
          owners-same t.old,
          le-leb _ _ l₁,
          le-leb _ _ l₂,
        )
        (finish (leb (size (section_fields t)) 16777216) (counts_right t.old t.functions (length t.records)) _ _ _ (λ e. rw (walk e) (at-end _ _ (entries-valid _ _ _ _))))
