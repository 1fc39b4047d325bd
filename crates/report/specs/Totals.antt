-- The totals of a report, by document 02, request 10: what a section adds to them, and when a sum is refused. The numbers are exact here.
use Rattle.std.specs.Prelude.{ℕ, ◌+◌, ◌-◌, ◌^◌, Bool, cond, ◌&&◌, List, [], ◌∷◌, eqb, leb, length}
use Rattle.stackmap.specs.Layout.{stack_size_unknown}
use Rattle.stackmap.specs.Verdict.{need}
use Rattle.stackmap.specs.Section.{Function, Location, Record, Entry, read_section, entries}
use Rattle.stackmap.specs.Check.{section_check}
use Rattle.questions.specs.Questions.{ask}
use Rattle.relocate.specs.Statepoint.{is_statepoint, pairs}
use Rattle.report.specs.declared.Kinds.{Kinds}
use Rattle.report.specs.declared.Totals.{Totals}
use Rattle.report.specs.declared.Reported.{Reported}

-- the greatest number that a total may have
abbrev pub total_most : ℕ
total_most = 2 ^ 64 - 1

-- Sums, number by number.

abbrev pub no_kinds : Kinds
no_kinds = record { register = 0; direct = 0; indirect = 0; constant = 0; pool = 0 }

abbrev pub none : Totals
none = record { sections = 0; refused = 0; functions = 0; records = 0; statepoints = 0; pairs = 0; kinds = no_kinds; stack = 0; unknown = 0 }

unfoldable pub plus_kinds : Kinds → Kinds → Kinds
plus_kinds a b =
    record {
      register = a.register + b.register;
      direct = a.direct + b.direct;
      indirect = a.indirect + b.indirect;
      constant = a.constant + b.constant;
      pool = a.pool + b.pool;
    }

unfoldable pub plus : Totals → Totals → Totals
plus a b =
    record {
      sections = a.sections + b.sections;
      refused = a.refused + b.refused;
      functions = a.functions + b.functions;
      records = a.records + b.records;
      statepoints = a.statepoints + b.statepoints;
      pairs = a.pairs + b.pairs;
      kinds = plus_kinds a.kinds b.kinds;
      stack = a.stack + b.stack;
      unknown = a.unknown + b.unknown;
    }

-- what each of a list adds, all together
unfoldable pub total : {A : Type 0} → (A → Totals) → List A → Totals
total of [] = none
total of (x ∷ xs) = plus (of x) (total of xs)

-- What a section adds.

-- 1 where the test holds
abbrev pub one : Bool → ℕ
one b = cond b 1 0

-- one location, of the kinds 1 Register, 2 Direct, 3 Indirect, 4 Constant, 5 ConstIndex
unfoldable pub of_kind : ℕ → Kinds
of_kind k =
    record {
      register = one (eqb k 1);
      direct = one (eqb k 2);
      indirect = one (eqb k 3);
      constant = one (eqb k 4);
      pool = one (eqb k 5);
    }

unfoldable pub kinds_of : List Location → Kinds
kinds_of [] = no_kinds
kinds_of (l ∷ ls) = plus_kinds (of_kind l.kind) (kinds_of ls)

-- the pairs of a statepoint, null and ill-formed ones too; another record has none
unfoldable pub pairs_of : Record → ℕ
pairs_of r = cond (is_statepoint r) (length (pairs r)) 0

-- a record, a statepoint or not, with all its locations
unfoldable pub of_record : Record → Totals
of_record r =
    record {
      sections = 0;
      refused = 0;
      functions = 0;
      records = 1;
      statepoints = one (is_statepoint r);
      pairs = pairs_of r;
      kinds = kinds_of r.locations;
      stack = 0;
      unknown = 0;
    }

-- a function, with records or without: its stack size is added if it is known, and else counted
unfoldable pub of_function : Function → Totals
of_function f =
    record {
      sections = 0;
      refused = 0;
      functions = 1;
      records = 0;
      statepoints = 0;
      pairs = 0;
      kinds = no_kinds;
      stack = cond (eqb f.stack_size stack_size_unknown) 0 f.stack_size;
      unknown = one (eqb f.stack_size stack_size_unknown);
    }

abbrev pub of_entry : Entry → Totals
of_entry e = of_record e.body

-- an accepted section: itself, its functions and its records
unfoldable pub of_accepted : List ℕ → Totals
of_accepted s =
    plus
    (record { sections = 1; refused = 0; functions = 0; records = 0; statepoints = 0; pairs = 0; kinds = no_kinds; stack = 0; unknown = 0 })
    (plus (total of_function (read_section s).functions) (total of_entry (entries s)))

-- a refused section adds nothing else
unfoldable pub of_refused : Totals
of_refused =
    record { sections = 1; refused = 1; functions = 0; records = 0; statepoints = 0; pairs = 0; kinds = no_kinds; stack = 0; unknown = 0 }

unfoldable pub contribution : List ℕ → Totals
contribution s = ask (λ n p. of_refused) (of_accepted s) (section_check s)

-- A report.

unfoldable pub kinds_fit : Kinds → Bool
kinds_fit k =
    leb k.register total_most && leb k.direct total_most && leb k.indirect total_most && leb k.constant total_most
    && leb k.pool total_most

-- none of the thirteen passes 2^64 - 1
unfoldable pub fits : Totals → Bool
fits t =
    leb t.sections total_most && leb t.refused total_most && leb t.functions total_most && leb t.records total_most
    && leb t.statepoints total_most && leb t.pairs total_most && kinds_fit t.kinds && leb t.stack total_most
    && leb t.unknown total_most

abbrev pub reported : Totals → Reported
reported t = record { number = 0; place = 0; totals = t }

-- 34 at a place, with the totals as they were
abbrev pub passed : ℕ → Totals → Reported
passed p t = record { number = 34; place = p; totals = t }

-- two sums of totals; 34 at p where one of them would pass 2^64 - 1
unfoldable pub joined_at : ℕ → Totals → Totals → Reported
joined_at p a b = need (fits (plus a b)) (passed p a) (reported (plus a b))

-- one section more: 34 at its position, which is the number of sections before it
unfoldable pub add_section : List ℕ → Totals → Reported
add_section s t = joined_at t.sections t (contribution s)

-- two reports of different sections
unfoldable pub joined : Totals → Totals → Reported
joined a b = joined_at 0 a b

-- on to the next section, unless it was 34, which ends the report
abbrev pub onward : Reported → (Totals → Reported) → Reported
onward r k = cond (eqb r.number 0) (k r.totals) r

-- the report of a list of sections, after what is counted already
unfoldable pub report_from : Totals → List (List ℕ) → Reported
report_from t [] = reported t
report_from t (s ∷ ss) = onward (add_section s t) (λ u. report_from u ss)

unfoldable pub report : List (List ℕ) → Reported
report ss = report_from none ss
