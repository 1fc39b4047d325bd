-- The walk over the records: it checks them and keeps what they add.
use Rattle.std.specs.Prelude.{Option, None, Some, Result, Ok, Err}
use Rattle.refusals.specs.declared.Refusal.{Refusal}
use Rattle.refusals.specs.Refusal.{number_of_cause}
use Prim.Native.Nat.{ℕ, ◌+◌, ◌-◌, ◌≤◌, ◌<◌}
use mathlib.Core.Path.{◌≡◌, refl, sym, ◌∙◌}
use mathlib.Core.Bool.{Bool, true, false}
use mathlib.Core.List.{List}
use native.Mathlib.Omega.{arith}
use borrow.Author.Tests.{eqb-true, eqb-false}
use lib.Dec.{eqb}
use lib.ListN.{length, drop}
use Rattle.stackmap.specs.declared.Turn.{Turn}
use Rattle.stackmap.specs.Section.{num_constants, is_old, records_at, record_length, entries}
use Rattle.stackmap.specs.Check.{walk_check}
use Rattle.stackmap.specs.Walk.{first_turn, Walkable}
use Rattle.stackmap.proofs.OneWalk.{Folding, here-ends, fold_start, fold_on, fold_end}
use Rattle.questions.specs.Questions.{ask}
use Rattle.questions.proofs.Asked.{ask_stop, ask-after, ask-whole}
use Rattle.relocate.specs.Code.{record_of, RecordInside}
use Rattle.report.specs.Totals.{none, no_kinds, plus, total, of_record, of_entry, total_most}
use Rattle.report.proofs.Plus.{plus_none}
use Rattle.report_walker.specs.declared.Place.{Place}
use Rattle.report_walker.specs.Step.{First, Standing, Passing, Refusing, Stepping}
use Rattle.report_records.specs.declared.Counts.{Counts}
use Rattle.report_records.specs.Counts.{as_totals, grown, Most, with_entry}
use Rattle.report_records.proofs.Kept.{fold_total, grown_totals, grown-most, most-below, stands}

abbrev no_counts : Counts
no_counts = record { records = 0; statepoints = 0; pairs = 0; kinds = no_kinds }

-- the walk stands at a place and has counted so much
pub record Tallying (s : List ℕ) (p : Place) (counts : Counts) : Type 0 where
  pub old_is : p.old ≡ is_old s
  pub constants : p.constants ≡ num_constants s
  pub folding : Folding with_entry s p.constants none p.next p.left p.remaining p.number p.at (as_totals counts)
  pub few : p.number + p.remaining < 4294967296
  pub most : Most p.at counts

-- what a step tells
pub passes : {s : List ℕ} {p q : Place} {r : Result (Option Place) Refusal} {o : Option Place} → Stepping s p r → r ≡ Ok o → o ≡ Some q → Passing s p q
passes h e f = rw f at (rw e at h)

pub refuses : {s : List ℕ} {p : Place} {r : Result (Option Place) Refusal} {f : Refusal} → Stepping s p r → r ≡ Err f
    → Refusing s p (number_of_cause f.0) f.1
refuses h e = rw e at h

pub ends : (s : List ℕ) (p : Place) (r : Result (Option Place) Refusal) {o : Option Place} → Stepping s p r → r ≡ Ok o → o ≡ None → p.remaining ≡ 0
ends s p r h e f = rw f at (rw e at h)

module _ (s : List ℕ) (w : Walkable s) (t : records_at s ≤ length s) where
  pub tally_start : {p : Place} → First s p → p.remaining < 4294967296 → Tallying s p no_counts
  unfolding as_totals
  tally_start {p} f l =
      let turn : Turn = record { next = p.next; left = p.left } in
      let e : turn ≡ first_turn (is_old s) s = turns f.turn_next f.turn_left in
      record {
        old_is = f.old_is;
        constants = f.constants_are;
        folding = rw f.none_passed (fold_start with_entry {t = turn} none w e f.begins (rw f.begins t) f.all_ahead);
        few = omega (arith, f.none_passed);
        most = record { records = omega arith; statepoints = omega arith; pairs = omega arith; kinds = record { register = omega arith; direct = omega arith; indirect = omega arith; constant = omega arith; pool = omega arith } };
      }
    where
      turns : {a b : Turn} → a.next ≡ b.next → a.left ≡ b.left → a ≡ b
      turns {a} {b} x y = let z : ◌≡◌ {A = Turn} (record { next = a.next; left = a.left }) (record { next = b.next; left = b.left }) = cc in z

  module _ {p : Place} {counts : Counts} (h : Tallying s p counts) where
    pub standing : Standing s p
    standing =
        let f = h.folding.walking in
        record { old_is = h.old_is; functions = w.inside; turning = f.turning; counted = f.counted; inside = f.inside; few = h.few }

    module _ {q : Place} (g : Passing s p q) where
      pub there : RecordInside s p.at
      there = stands s _ _ _ _ t h.folding.walking.inside g.valid

      ends_at : q.at ≡ p.at + record_length (is_old s) (drop p.at s)
      ends_at = here-ends (is_old s) s _ _ p.at q.at g.valid

      last : Folding with_entry s p.constants none q.next q.left (p.remaining - 1) (p.number + 1) q.at (plus (as_totals counts) (of_record (record_of s p.at)))
      unfolding with_entry
      last =
          let o = g.owner in
          let z : q.left + 1 - 1 ≡ q.left = omega arith in
          rw z at (fold_on with_entry q.next (q.left + 1) h.folding o.same o.some_left o.some_next o.most g.some_ahead g.valid)

      pub sum_most : {one : Counts} → Most (record_length (is_old s) (drop p.at s)) one → Most q.at (grown counts one)
      sum_most m = rw ends_at (grown-most _ _ _ _ h.most m)

      -- all of it is at most the length of the section
      pub sum_fits : length s ≤ total_most → {one : Counts} → Most (record_length (is_old s) (drop p.at s)) one → Most total_most (grown counts one)
      sum_fits l m = most-below _ _ _ (omega (arith, last.walking.inside)) (sum_most m)

      pub tally_on : {one counts' : Counts} → as_totals one ≡ of_record (record_of s p.at) → Most (record_length (is_old s) (drop p.at s)) one → counts' ≡ grown counts one
          → Tallying s q counts'
      tally_on {one} {counts'} e m k =
          record {
            old_is = g.old_is ∙ h.old_is;
            constants = g.constants ∙ h.constants;
            folding = rw (g.constants, g.remaining, g.number, k, grown_totals counts one, e) last;
            few = omega (arith, g.remaining, g.number, g.some_ahead, h.few);
            most = rw k (sum_most m);
          }

    pub tally_stop : {n at : ℕ} → Refusing s p n at → false ≡ ask (λ a b. false) true (walk_check s)
    tally_stop r = ask_stop (λ a b. false) true h.constants h.folding r.next r.left r.owner.same r.owner.some_left r.refused

    pub tally_end : p.remaining ≡ 0 → (eqb p.at (length s) ≡ ask (λ a b. false) true (walk_check s))
        × (eqb p.at (length s) ≡ true → as_totals counts ≡ total of_entry (entries s))
    tally_end z = (go (eqb p.at (length s)) refl, λ e. sym (fold_end with_entry h.folding z) ∙ fold_total (entries s) none ∙ plus_none _)
      where
        go : (b : Bool) → eqb p.at (length s) ≡ b → b ≡ ask (λ a c. false) true (walk_check s)
        go true e = ask-whole (λ a c. false) true h.constants h.folding z (eqb-true _ _ e)
        go false e = ask-after (λ a c. false) true h.constants h.folding z (eqb-false _ _ e)
