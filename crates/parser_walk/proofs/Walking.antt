-- A walk over the records of a listing, from one turn to the next.
use Prim.Native.Nat.{ℕ, suc, ◌+◌, ◌-◌, ◌≤◌, ◌<◌}
use mathlib.Core.Path.{◌≡◌, refl, ◌∙◌, ap}
use mathlib.Core.List.{List, [], ◌∷◌}
use mathlib.Core.Bool.{Bool, true, false}
use native.Mathlib.Omega.{arith}
use lib.ListN.{length}
use Rattle.stackmap.specs.Verdict.{Verdict}
use Rattle.stackmap.specs.Verdict.{Valid}
use Rattle.stackmap.specs.Verdict.{chain, shift}
use Rattle.stackmap.specs.Fields.{size, all}
use Rattle.stackmap.specs.Section.{Record, record_fields, Owner, record_owners, address, entries_from}
use Rattle.stackmap.specs.Fault.{entry_fault, entries_fault}
use Rattle.stackmap.proofs.Verdicts.{shift-valid}
use Rattle.stackmap.proofs.Back.{entry-valid}
use Rattle.stackmap.proofs.Turns.{length-record_owners}
use Rattle.listing.specs.Layout.{record_kind, record_item_size}
use Rattle.listing.specs.Listing.{stands}
use Rattle.parser_items.specs.Count.{RecordCounted}
use Rattle.parser_items.specs.Survey.{record_size, records_from, functions_of}
use Rattle.parser_fault.specs.Walk.{ahead, listed_entry, Turning, Starting, Walkable}
use Rattle.parser_items.proofs.Records.{shape_size, records-here, sized-here, some_record}
use Rattle.parser_walk.proofs.Turns.{ahead-one}

-- a record's number has no part in its refusal
renumber : (old : Bool) (c k j at : ℕ) (os : List Owner) (rs : List Record) (end : ℕ)
    → entries_fault old c (entries_from old k at os rs) end ≡ entries_fault old c (entries_from old j at os rs) end
unfolding entries_from entries_fault entry_fault address
renumber old c k j at [] rs end = refl
renumber old c k j at (o ∷ os) [] end = refl
renumber old c k j at (o ∷ os) (r ∷ rs) end = rw (renumber old c (suc k) (suc j) (at + size (record_fields old r)) os rs end)

-- the first record, and then the rest
entries-one : (old : Bool) (c at : ℕ) (o : Owner) (os : List Owner) (r : Record) (rs : List Record) (end : ℕ)
    → entries_fault old c (entries_from old 0 at (o ∷ os) (r ∷ rs)) end
    ≡ chain (shift at (entry_fault old c (record { number = 0; first = at; owner = o; body = r })))
    (entries_fault old c (entries_from old 0 (at + size (record_fields old r)) os rs) end)
entries-one old c at o os r rs end =
    unfold entries_from entries_fault in
    ap (λ (k : Verdict). chain (shift at (entry_fault old c (record { number = 0; first = at; owner = o; body = r }))) k)
    (renumber old c 1 0 (at + size (record_fields old r)) os rs end)

-- the refusal of all records, in a section that ends at `end`
abbrev pub whole : List ℕ → Bool → ℕ → ℕ → ℕ → ℕ → ℕ → ℕ → Verdict
whole l old n c from records place end = entries_fault old c (entries_from old 0 place (record_owners old records (functions_of l n)) (records_from l from)) end

-- the record item at `at` is next, and is to stand at `to`; what is left gives what the whole gives
pub record Walking (l : List ℕ) (old : Bool) (n c from records place end next left remaining at to : ℕ) : Type 0 where
  pub turning : Turning old n next left
  pub owned : length (ahead l old n next left) ≡ remaining
  pub listed : length (records_from l at) ≡ remaining
  pub inside : at ≤ length l
  pub ends : to + size (all (record_fields old) (records_from l at)) ≡ end
  pub same : whole l old n c from records place end ≡ entries_fault old c (entries_from old 0 to (ahead l old n next left) (records_from l at)) end

module _ {l : List ℕ} {old : Bool} {n c from records place end : ℕ} where
  pub walk_start : {next left : ℕ} → Walkable l old n from records place end → Starting old n records next left
      → Walking l old n c from records place end next left records from place
  walk_start w s =
      record {
        turning = s.turning;
        owned = rw (s.all_ahead l) (length-record_owners old records (functions_of l n) w.adds_up);
        listed = w.listed;
        inside = w.inside;
        ends = w.ends;
        same = rw (s.all_ahead l);
      }

  module _ {next left remaining at to : ℕ} (w : Walking l old n c from records place end next left remaining at to) (r : 0 < remaining) where
    pub walk_stands : stands record_kind record_item_size l at ≡ true
    walk_stands = let z = w.listed in some_record l at (omega arith)

    -- its locations and live-outs are counted
    module _ {a b stop : ℕ} (h : RecordCounted l at a b stop) where
      pub walk_room : to + record_size old a b ≤ end
      walk_room =
          let z = w.ends in
          let s = sized-here h walk_stands old in
          omega arith

      -- the turn has passed on to its owner
      module _ (next' left' : ℕ) (e : ahead l old n next' left' ≡ ahead l old n next left) (p : 0 < left') where
        pub walk_here : whole l old n c from records place end
            ≡ chain (shift to (entry_fault old c (listed_entry l old (next' - 1) at to)))
            (entries_fault old c (entries_from old 0 (to + record_size old a b) (ahead l old n next' (left' - 1)) (records_from l stop)) end)
        walk_here =
            w.same ∙ rw (← e, ahead-one l n old next' left' p, records-here h walk_stands, entries-one, shape_size h old)

        -- and it is valid
        pub walk_on : {q : ℕ} → 0 < next' → (old ≡ false → next' ≤ n) → shift to (entry_fault old c (listed_entry l old (next' - 1) at to)) ≡ Valid q
            → Walking l old n c from records place end next' (left' - 1) (remaining - 1) stop q
        walk_on {q} b' m v =
            let x = shift-valid _ _ _ v in
            let d : q ≡ to + record_size old a b = x.2 ∙ ap (λ (k : ℕ). to + k) (entry-valid old c _ _ x.1 ∙ shape_size h old) in
            let o : length (ahead l old n next' left') ≡ suc (length (ahead l old n next' (left' - 1))) = rw (ahead-one l n old next' left' p) in
            let o' : length (ahead l old n next' left') ≡ remaining = rw e w.owned in
            let k = ap length (records-here h walk_stands) in
            let j = w.listed in
            let s = sized-here h walk_stands old in
            let z = w.ends in
            record {
              turning = record { most = m; begun = λ _. b' };
              owned = omega arith;
              listed = omega arith;
              inside = h.inside;
              ends = omega arith;
              same = walk_here ∙ rw (v, d) (unfold chain in refl);
            }

  pub walk_end : {next left remaining at to : ℕ} → Walking l old n c from records place end next left remaining at to → remaining ≡ 0
      → whole l old n c from records place end ≡ Valid to
  walk_end {next} {left} {at = at} {to = to} w z = w.same ∙ none (ahead l old n next left) (records_from l at) (w.listed ∙ z) w.ends
    where
      none : (os : List Owner) (rs : List Record) → length rs ≡ 0 → to + size (all (record_fields old) rs) ≡ end
          → entries_fault old c (entries_from old 0 to os rs) end ≡ Valid to
      none [] [] h e = unfold entries_fault entries_from all size in ap Valid (omega arith)
      none (o ∷ os) [] h e = unfold entries_fault entries_from all size in ap Valid (omega arith)
      none os (r ∷ rs) h e = absurd (omega arith)
