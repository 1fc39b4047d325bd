-- The two laws of the items, that is, of a listing without the version's item: the items of a section are accepted and read as the
-- section, and accepted items are the items of what is read from them.
use Prim.Native.Nat.{ℕ, zero, suc, ◌+◌, ◌*◌, ◌≤◌}
use mathlib.Core.Path.{◌≡◌, refl, sym, ◌∙◌, ap, subst}
use mathlib.Core.List.{List, [], ◌∷◌, ◌++◌, append-nil}
use mathlib.Core.Bool.{Bool, true, false}
use native.Mathlib.Omega.{arith}
use native.Mathlib.Nat.{add-zero, zero-add, add_assoc}
use borrow.Author.Tests.{eq-eqb, eqb-true}
use lib.ListN.{length}
use lib.Seq.{drop-length}
use Rattle.wire.specs.Word.{Bytes, word}
use Rattle.stackmap.specs.Fields.{size, Field, Fit, ◌of◌, all, bytes_of, many}
use Rattle.stackmap.specs.Section.{Encodable, Function, LiveOut, Record, Section}
use Rattle.stackmap.specs.Verdict.{chain, must}
use Rattle.stackmap.proofs.Fields.{Has, fields_back, has-bytes, has_fit, join, length-bytes_of, many-back, size-all, size-append, size-many, split}
use Rattle.stackmap.proofs.Items.{byte_word}
use Rattle.stackmap.proofs.Verdicts.{chain_first, chain-rest, must-held, must-rest}
use Rattle.stackmap.specs.Verdict.{Valid}
use Rattle.listing.specs.Listing.{function_item, constant_item, record_item, location_item, live_out_item, end_item, record_items, version_item}
use Rattle.listing.specs.Listing.{item_fields, listing_fields, encode_listing, stands, run, listed_function, listed_constant, listed_location}
use Rattle.listing.specs.Listing.{listed_live_out, listed_locations, listed_live_outs, listed_record, record_stop, listed_records, records_stop}
use Rattle.listing.specs.Listing.{functions_listed, constants_listed, records_begin, read_items, items_stop, version_length, items_check}
use Rattle.listing.proofs.Items.{function_item-size, constant_item-size, location_item-size, live_out_item-size, function-back, constant-back}
use Rattle.listing.proofs.Items.{location_back, live_out_back, function-has, constant-has, location_has, live_out_has, kind_byte, function-kind}
use Rattle.listing.proofs.Items.{constant-kind, location_kind_lem, live_out_kind_lem, yes_item, is_item, Leads, no_item, run_inside, run-back, run-has}
use Rattle.listing.proofs.Items.{regroup, records_yes, records_no}
use Rattle.listing.proofs.Old.{Counts, Sizes, old-passes, old_tells}
use Rattle.listing.proofs.Fits.{AllSmall, small-whole, whole-small, listing_to_section}

-- what stands after the items of a kind is another kind

leads_records : (k : ℕ) (rs : List Record) → (k ≡ 3 → ⊥) → (k ≡ 6 → ⊥) → Leads k (all record_items rs ++ end_item)
unfolding all record_items record_item
leads_records k [] a b = (refl, λ e. b (sym e))
leads_records k (r ∷ rs) a b = (refl, λ e. a (sym e))

leads_outs : (os : List LiveOut) (rs : List Record) → Leads 4 (all live_out_item os ++ (all record_items rs ++ end_item))
unfolding all live_out_item
leads_outs [] rs = leads_records 4 rs (omega arith) (omega arith)
leads_outs (o ∷ os) rs = (refl, omega arith)

leads_constants : (cs : List ℕ) (rs : List Record) → Leads 1 (all constant_item cs ++ (all record_items rs ++ end_item))
unfolding all constant_item
leads_constants [] rs = leads_records 1 rs (omega arith) (omega arith)
leads_constants (c ∷ cs) rs = (refl, omega arith)

module _ (r : Record) where
  abbrev n : ℕ
  n = length r.locations

  abbrev m : ℕ
  m = length r.live_outs

  abbrev L : List Field
  L = all location_item r.locations

  abbrev O : List Field
  O = all live_out_item r.live_outs

  sizes : (size L ≡ 10 * n) × (size O ≡ 4 * m)
  sizes = (size-all location_item 10 location_item-size r.locations, size-all live_out_item 4 live_out_item-size r.live_outs)

  pub items_size : size (record_items r) ≡ 13 + 10 * n + 4 * m
  unfolding record_items record_item size
  items_size = simp size-append (omega (arith, sizes))

  module _ (l : List ℕ) (rs : List Record) (at : ℕ) where
    abbrev rest : List Field
    rest = all record_items rs ++ end_item

    record_back : Has l at (record_item r ++ (L ++ (O ++ rest))) → at + size (record_items r) ≤ length l
        → (stands 3 13 l at ≡ true) × (listed_record l at ≡ r) × (record_stop l at ≡ at + size (record_items r)) × Has l (at + size (record_items r)) rest
    unfolding record_item listed_record record_stop size
    record_back h i =
        let z = items_size in
        let k₁ = split l at (at + 13) (record_item r) (L ++ (O ++ rest)) refl h in
        let k₂ = split l (at + 13) (at + 13 + 10 * n) L (O ++ rest) (omega (arith, sizes)) k₁.1 in
        let k₃ = split l (at + 13 + 10 * n) (at + size (record_items r)) O rest (omega (arith, sizes)) k₂.1 in
        let p : at + 13 + 10 * n + 4 * m ≡ at + size (record_items r) = omega arith in
        let e₁ : listed_locations l at ≡ n =
        run-back location_item 4 10 location_item-size l (location_kind_lem l) r.locations (at + 13) (length l) (omega arith) k₂.0 (omega arith)
        (no_item 4 10 l _ (O ++ rest) (leads_outs r.live_outs rs) k₂.1) in
        let e₂ : run 5 4 (length l) l (at + 13 + 10 * n) ≡ m =
        run-back live_out_item 5 4 live_out_item-size l (live_out_kind_lem l) r.live_outs (at + 13 + 10 * n) (length l) (omega arith) k₃.0 (omega arith)
        (rw p (no_item 5 4 l _ rest (leads_records 5 rs (omega arith) (omega arith)) k₃.1)) in (
          yes_item 3 13 l at (omega arith) (kind_byte l at 3 k₁.0.0),
          rw (
            e₁,
            e₂,
            k₁.0.1.0,
            k₁.0.1.1.0,
            many-back location_item listed_location 10 location_item-size l (location_back l) r.locations _ k₂.0,
            many-back live_out_item listed_live_out 4 live_out_item-size l (live_out_back l) r.live_outs _ k₃.0,
          ),
          rw (e₁, e₂) p,
          k₃.1,
        )

module _ (l : List ℕ) where
  records-back : (rs : List Record) (at m : ℕ) → length rs ≤ m → Has l at (all record_items rs ++ end_item) → at + size (all record_items rs) ≤ length l
      → (listed_records l m at ≡ rs) × (records_stop l m at ≡ at + size (all record_items rs))
  unfolding all size
  records-back [] at m f h i =
      let e = records_no l m at (no_item 3 13 l at end_item (refl, omega arith) h) in
      (e.0, e.1 ∙ sym (add-zero at))
  records-back (r ∷ rs) at zero f h i = absurd (omega arith)
  records-back (r ∷ rs) at (suc m) f h i =
      let z = size-append (record_items r) (all record_items rs) in
      let b = record_back r l rs at (subst (λ (fs : List Field). Has l at fs) (regroup r rs) h) (omega arith) in
      let y = records_yes l m at b.0 in
      let ih = records-back rs (at + size (record_items r)) m (omega arith) b.3 (omega arith) in
      (y.0 ∙ rw (b.1, b.2, ih.0), y.1 ∙ rw (b.2, ih.1, z, add_assoc))

count_le : (rs : List Record) → length rs ≤ size (all record_items rs)
unfolding all size record_items record_item
count_le [] = omega arith
count_le (r ∷ rs) = rw (size-append (record_items r)) (omega (arith, count_le rs))

pub leads_items : (t : Section) → Leads 7 (item_fields t)
unfolding item_fields all function_item constant_item
leads_items t = go t.functions t.constants
  where
    go : (fs : List Function) (cs : List ℕ) → Leads 7 (all function_item fs ++ (all constant_item cs ++ (all record_items t.records ++ end_item)))
    go (f ∷ fs) cs = (refl, omega arith)
    go [] (c ∷ cs) = (refl, omega arith)
    go [] [] = leads_records 7 t.records (omega arith) (omega arith)

pub version-size : (old : Bool) → size (version_item old) ≡ version_length old
unfolding size version_item
version-size true = refl
version-size false = refl

module _ (t : Section) where
  abbrev l : List ℕ
  l = bytes_of (item_fields t)

  abbrev nf : ℕ
  nf = length t.functions

  abbrev nc : ℕ
  nc = length t.constants

  abbrev F : List Field
  F = all function_item t.functions

  abbrev K : List Field
  K = all constant_item t.constants

  abbrev R : List Field
  R = all record_items t.records

  tables : (size F ≡ 25 * nf) × (size K ≡ 9 * nc)
  tables = (size-all function_item 25 function_item-size t.functions, size-all constant_item 9 constant_item-size t.constants)

  fields_size : size (item_fields t) ≡ 25 * nf + 9 * nc + size R + 1
  unfolding item_fields size
  fields_size = simp size-append (omega (arith, tables))

  pub items_length : length (bytes_of (item_fields t)) ≡ 25 * nf + 9 * nc + size R + 1
  items_length = length-bytes_of (item_fields t) ∙ fields_size

  pub listing_length : length (encode_listing t) ≡ version_length t.old + 25 * nf + 9 * nc + size R + 1
  unfolding encode_listing listing_fields
  listing_length =
      length-bytes_of (listing_fields t) ∙ size-append (version_item t.old) (item_fields t) ∙ omega (arith, version-size t.old, fields_size)

  module _ (fit : Fit (item_fields t)) where
    has : Has l 0 (F ++ (K ++ (R ++ end_item)))
    unfolding item_fields
    has = fields_back l 0 0 (item_fields t) [] fit (rw append-nil)

    record Listed : Type 0 where
      functions_num : functions_listed l ≡ nf
      constants_num : run 2 9 (length l) l (25 * nf) ≡ nc
      functions_in : Has l 0 F
      constants_in : Has l (25 * nf) K
      records_are : listed_records l (length l) (25 * nf + 9 * nc) ≡ t.records
      stop_is : records_stop l (length l) (25 * nf + 9 * nc) ≡ 25 * nf + 9 * nc + size R
      end_in_lem : Has l (25 * nf + 9 * nc + size R) end_item

    listed : Listed
    listed =
        let n = items_length in
        let c = count_le t.records in
        let k₁ = split l 0 (25 * nf) F (K ++ (R ++ end_item)) (omega (arith, tables)) has in
        let k₂ = split l (25 * nf) (25 * nf + 9 * nc) K (R ++ end_item) (omega (arith, tables)) k₁.1 in
        let k₃ = split l (25 * nf + 9 * nc) (25 * nf + 9 * nc + size R) R end_item refl k₂.1 in
        let r = records-back l t.records (25 * nf + 9 * nc) (length l) (omega arith) k₂.1 (omega arith) in
        record {
          functions_num = run-back function_item 1 25 function_item-size l (function-kind l) t.functions 0 (length l) (omega arith) k₁.0 (omega arith)
              (rw zero-add (no_item 1 25 l _ (K ++ (R ++ end_item)) (leads_constants t.constants t.records) k₁.1));
          constants_num = run-back constant_item 2 9 constant_item-size l (constant-kind l) t.constants (25 * nf) (length l) (omega arith) k₂.0 (omega arith)
              (no_item 2 9 l _ (R ++ end_item) (leads_records 2 t.records (omega arith) (omega arith)) k₂.1);
          functions_in = k₁.0;
          constants_in = k₂.0;
          records_are = r.0;
          stop_is = r.1;
          end_in_lem = k₃.1;
        }

    -- the items of a section are read as the section
    pub items_back : read_items (bytes_of (item_fields t)) t.old ≡ t
    unfolding read_items
    items_back =
        let w = listed in
        rw (
          w.functions_num,
          w.constants_num,
          w.records_are,
          many-back function_item listed_function 25 function_item-size l (function-back l) t.functions 0 w.functions_in,
          many-back constant_item listed_constant 9 constant_item-size l (constant-back l) t.constants _ w.constants_in,
        )

    -- and accepted
    pub items_check_lem : AllSmall t.records → Counts t.old t.functions → Sizes t.old t.records
        → items_check t.old (bytes_of (item_fields t)) ≡ Valid (length (bytes_of (item_fields t)))
    unfolding items_check items_stop must chain
    items_check_lem s c z =
        let w = listed in
        let n = items_length in
        let y = yes_item 6 1 l (25 * nf + 9 * nc + size R) (omega arith) (kind_byte l _ 6 w.end_in_lem.0) in
        rw (
          w.functions_num,
          w.constants_num,
          w.stop_is,
          y,
          eq-eqb _ _ (sym n),
          items_back,
          small-whole t.records (25 * nf + 9 * nc) s,
          old-passes t.old t.functions t.records (25 * nf + 9 * nc) c z (Valid (length l)),
        )

-- accepted items

read-old : (l : List ℕ) (old : Bool) → (read_items l old).old ≡ old
unfolding read_items
read-old l old = refl

module _ (l : List ℕ) where
  record_has : (at : ℕ) → stands 3 13 l at ≡ true
      → Has l at (record_items (listed_record l at)) × (record_stop l at ≡ at + size (record_items (listed_record l at))) × (record_stop l at ≤ length l)
  unfolding record_items listed_record record_stop record_item size
  record_has at e =
      let a = is_item 3 13 l at e in
      let nl = listed_locations l at in
      let no = listed_live_outs l at in
      let L = all location_item (many listed_location 10 nl l (at + 13)) in
      let O = all live_out_item (many listed_live_out 4 no l (at + 13 + 10 * nl)) in
      let I : List Field = (1 of 3) ∷ (8 of word 8 l (at + 1)) ∷ (4 of word 4 l (at + 9)) ∷ [] in
      let h₁ = run-has location_item 4 10 location_item-size l listed_location (location_has l) (length l) (at + 13) in
      let h₂ = run-has live_out_item 5 4 live_out_item-size l listed_live_out (live_out_has l) (length l) (at + 13 + 10 * nl) in
      let z₁ : size L ≡ 10 * nl = size-many location_item listed_location 10 10 location_item-size nl l (at + 13) in
      let z₂ : size O ≡ 4 * no = size-many live_out_item listed_live_out 4 4 live_out_item-size no l (at + 13 + 10 * nl) in
      let i : Has l at I = (rw add-zero (byte_word l at ∙ a.1), (refl, (refl, tt))) in (
        join l at (at + 13) I (L ++ O) refl i (join l (at + 13) (at + 13 + 10 * nl) L O (rw z₁) h₁ h₂),
        (let z : size (L ++ O) ≡ 10 * nl + 4 * no = rw (size-append, z₁, z₂) in omega arith),
        run_inside 5 4 (length l) l (at + 13 + 10 * nl) (run_inside 4 10 (length l) l (at + 13) a.0),
      )

  records-has : (m at : ℕ) → at ≤ length l
      → Has l at (all record_items (listed_records l m at)) × (records_stop l m at ≡ at + size (all record_items (listed_records l m at))) × (records_stop l m at ≤ length l)
  unfolding all size
  records-has zero at i = unfold listed_records records_stop in (tt, omega arith, i)
  records-has (suc m) at i = go (records-has m (record_stop l at)) (stands 3 13 l at) refl
    where
      Good : ℕ → ℕ → Type 0
      Good m at =
          Has l at (all record_items (listed_records l m at)) × (records_stop l m at ≡ at + size (all record_items (listed_records l m at))) × (records_stop l m at ≤ length l)

      go : (record_stop l at ≤ length l → Good m (record_stop l at)) → (b : Bool) → stands 3 13 l at ≡ b → Good (suc m) at
      go ih true e =
          let y = records_yes l m at e in
          let r = record_has at e in
          let q = ih r.2 in
          let z = size-append (record_items (listed_record l at)) (all record_items (listed_records l m (record_stop l at))) in
          rw (y.0, y.1) (
            join l at (record_stop l at) (record_items (listed_record l at)) (all record_items (listed_records l m (record_stop l at))) r.1 r.0 q.0,
            omega arith,
            q.2,
          )
      go ih false e = let y = records_no l (suc m) at e in rw (y.0, y.1) (tt, omega arith, i)

  abbrev F' : List Field
  F' = all function_item (many listed_function 25 (functions_listed l) l 0)

  abbrev K' : List Field
  K' = all constant_item (many listed_constant 9 (constants_listed l) l (25 * functions_listed l))

  abbrev R' : List Field
  R' = all record_items (listed_records l (length l) (records_begin l))

  module _ (old : Bool) (e : ℕ) (k : items_check old l ≡ Valid e) where
    pub record ItemsChecked : Type 0 where
      has_it : Has l 0 (item_fields (read_items l old))
      long : size (item_fields (read_items l old)) ≡ length l
      small : AllSmall (read_items l old).records
      pub old-right : Counts old (read_items l old).functions × Sizes old (read_items l old).records

    pub kept : ItemsChecked
    unfolding items_check items_stop item_fields read_items size
    kept =
        let nf = functions_listed l in
        let nc = constants_listed l in
        let h₁ = run-has function_item 1 25 function_item-size l listed_function (function-has l) (length l) 0 in
        let l₁ : 25 * nf ≤ length l = omega (arith, run_inside 1 25 (length l) l 0 (omega arith)) in
        let h₂ = run-has constant_item 2 9 constant_item-size l listed_constant (constant-has l) (length l) (25 * nf) in
        let h₃ = records-has (length l) (records_begin l) (run_inside 2 9 (length l) l (25 * nf) l₁) in
        let z₁ : size F' ≡ 25 * nf = size-many function_item listed_function 25 25 function_item-size nf l 0 in
        let z₂ : size K' ≡ 9 * nc = size-many constant_item listed_constant 9 9 constant_item-size nc l (25 * nf) in
        let k₁ = must-rest _ _ _ _ _ k in
        let k₂ = must-rest _ _ _ _ _ k₁ in
        let k₃ = chain-rest _ _ _ k₂ in
        let s = is_item 6 1 l _ (must-held _ _ _ _ _ k) in
        let n : records_stop l (length l) (records_begin l) + 1 ≡ length l = eqb-true _ _ (must-held _ _ _ _ _ k₁) in
        let b : Has l (records_stop l (length l) (records_begin l)) end_item = (rw add-zero (byte_word l _ ∙ s.1), tt) in
        record {
          has_it = join l 0 (25 * nf) F' (K' ++ (R' ++ end_item)) (omega arith) h₁
              (join l (25 * nf) (records_begin l) K' (R' ++ end_item) (omega arith) h₂ (join l (records_begin l) _ R' end_item h₃.1 h₃.0 b));
          long = simp size-append (let q = h₃.1 in omega arith);
          small = whole-small _ _ _ (chain_first _ _ _ k₂).1;
          old-right = old_tells old _ _ _ _ (chain_first _ _ _ k₃).1;
        }

    module _ (w : Bytes l) where
      -- they are the items of what is read from them
      pub accepted_items : bytes_of (item_fields (read_items l old)) ≡ l
      accepted_items =
          let b = has-bytes l 0 0 (item_fields (read_items l old)) w kept.has_it (omega (arith, kept.long)) in
          rw (kept.long, zero-add, drop-length, append-nil) at b

      -- whose numbers fit
      pub items_encodable : length l ≤ 33554432 → Encodable (read_items l old)
      items_encodable u =
          let t = read_items l old in
          let f = has_fit l 0 0 (item_fields t) w kept.has_it in
          let n = items_length t in
          let c = count_le t.records in
          let g : length (bytes_of (item_fields t)) ≡ length l = ap length accepted_items in
          listing_to_section t f kept.small (rw (read-old l old) kept.old-right.1) (omega arith) (omega arith) (omega arith)
