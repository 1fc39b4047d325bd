-- The laws of reports: the totals are sums, where 34 is given, any order, and two halves.
use Prim.Native.Nat.{ℕ, suc, ◌+◌}
use mathlib.Core.Path.{◌≡◌, refl, sym, ap, ◌∙◌}
use mathlib.Core.Bool.{Bool, true, false, true≢false}
use mathlib.Core.List.{List, [], ◌∷◌, ◌++◌}
use native.Mathlib.Omega.{arith}
use lib.ListN.{length}
use Rattle.stackmap.specs.Verdict.{Verdict}
use Rattle.stackmap.specs.Verdict.{Valid, Refused}
use Rattle.stackmap.specs.Section.{read_section, entries}
use Rattle.stackmap.specs.Check.{section_check}
use Rattle.questions.specs.Questions.{ask}
use Rattle.report.specs.declared.Totals.{Totals}
use Rattle.report.specs.declared.Reported.{Reported}
use Rattle.report.specs.Totals.{none, plus, total, of_function, of_record, of_entry, of_accepted, of_refused, contribution, kinds_fit, fits, reported, passed, joined_at, add_section, joined, report_from, report}
use Rattle.report.specs.Laws.{Sums, Stops, OrderFree, Halves}
use Rattle.report.proofs.Plus.{plus_none, plus-end, plus_comm, plus_assoc, fits-part, total-append, total_perm}

abbrev all : List (List ℕ) → Totals
all ss = total contribution ss

-- one section more

add-fits : (s : List ℕ) (t : Totals) → fits (plus t (contribution s)) ≡ true → add_section s t ≡ reported (plus t (contribution s))
unfolding add_section joined_at
add-fits s t h = rw h

add-passes : (s : List ℕ) (t : Totals) → fits (plus t (contribution s)) ≡ false → add_section s t ≡ passed t.sections t
unfolding add_section joined_at
add-passes s t h = rw h

-- a section is one section, refused or not

no_sections : {A : Type 0} (of : A → Totals) → ((x : A) → (of x).sections ≡ 0) → (xs : List A) → (total of xs).sections ≡ 0
unfolding total plus
no_sections of h [] = refl
no_sections of h (x ∷ xs) = let e = h x in let i = no_sections of h xs in omega arith

accepted-one : (s : List ℕ) → (of_accepted s).sections ≡ 1
unfolding of_accepted plus
accepted-one s =
    let a = no_sections of_function (λ f. unfold of_function in refl) (read_section s).functions in
    let b = no_sections of_entry (λ e. unfold of_record in refl) (entries s) in
    omega arith

one-section : (s : List ℕ) → (contribution s).sections ≡ 1
unfolding contribution ask of_refused
one-section s = go (section_check s)
  where
    go : (v : Verdict) → (ask (λ n p. of_refused) (of_accepted s) v).sections ≡ 1
    go (Valid e) = accepted-one s
    go (Refused n p) = refl

-- The totals are the sums.

sums-from : (t : Totals) (ss : List (List ℕ)) → fits (plus t (all ss)) ≡ true → report_from t ss ≡ reported (plus t (all ss))
unfolding report_from total
sums-from t [] h = rw (plus-end t)
sums-from t (s ∷ ss) h =
    let e = plus_assoc t (contribution s) (all ss) in
    let f : fits (plus (plus t (contribution s)) (all ss)) ≡ true = ap fits e ∙ h in
    rw (add-fits s t (fits-part _ _ f)) (sums-from (plus t (contribution s)) ss f ∙ ap reported e)

pub report_sums : (ss : List (List ℕ)) → fits (all ss) ≡ true → report ss ≡ reported (all ss)
unfolding report
report_sums ss h = sums-from none ss (rw (plus_none (all ss)) h) ∙ ap reported (plus_none (all ss))

-- Where they would pass.

record StopsFrom (t : Totals) (ss : List (List ℕ)) : Type 0 where
  pub before : List (List ℕ)
  pub section : List ℕ
  pub after : List (List ℕ)
  pub are : ss ≡ before ++ section ∷ after
  pub fitted : fits (plus t (all before)) ≡ true
  pub over : fits (plus (plus t (all before)) (contribution section)) ≡ false
  pub stops : report_from t ss ≡ passed (t.sections + length before) (plus t (all before))

stops-here : (t : Totals) (s : List ℕ) (ss : List (List ℕ)) → fits t ≡ true → fits (plus t (contribution s)) ≡ false → StopsFrom t (s ∷ ss)
unfolding report_from total
stops-here t s ss f h =
    let z : t.sections + 0 ≡ t.sections = omega arith in
    record {
      before = [];
      section = s;
      after = ss;
      are = refl;
      fitted = rw (plus-end t) f;
      over = rw (plus-end t) h;
      stops = rw (add-passes s t h, plus-end t, z);
    }

stops_later : (t : Totals) (s : List ℕ) (ss : List (List ℕ)) → fits (plus t (contribution s)) ≡ true → StopsFrom (plus t (contribution s)) ss → StopsFrom t (s ∷ ss)
unfolding report_from total
stops_later t s ss f r =
    let e = plus_assoc t (contribution s) (all r.before) in
    let n : (plus t (contribution s)).sections ≡ t.sections + 1 = unfold plus in ap (λ (k : ℕ). t.sections + k) (one-section s) in
    let z : t.sections + 1 + length r.before ≡ t.sections + suc (length r.before) = omega arith in
    record {
      before = s ∷ r.before;
      section = r.section;
      after = r.after;
      are = ap (λ (xs : List (List ℕ)). s ∷ xs) r.are;
      fitted = rw (← e) r.fitted;
      over = rw (← e) r.over;
      stops = rw (add-fits s t f) (r.stops ∙ rw (e, n, z));
    }

stops-from : (t : Totals) (ss : List (List ℕ)) → fits t ≡ true → fits (plus t (all ss)) ≡ false → StopsFrom t ss
unfolding total
stops-from t [] f h = absurd (true≢false (sym f ∙ rw (plus-end t) at h))
stops-from t (s ∷ ss) f h = go (fits (plus t (contribution s))) refl (stops-from (plus t (contribution s)) ss)
  where
    go : (b : Bool) → fits (plus t (contribution s)) ≡ b → (fits (plus t (contribution s)) ≡ true → fits (plus (plus t (contribution s)) (all ss)) ≡ false → StopsFrom (plus t (contribution s)) ss)
        → StopsFrom t (s ∷ ss)
    go true e k = stops_later t s ss e (k e (rw (plus_assoc t (contribution s) (all ss)) h))
    go false e k = stops-here t s ss f e

pub report_stops : Stops
unfolding report
report_stops ss h =
    let r = stops-from none ss (unfold fits kinds_fit in refl) (rw (plus_none (all ss)) h) in
    let z : none.sections + length r.before ≡ length r.before = omega arith in
    record {
      before = r.before;
      section = r.section;
      after = r.after;
      are = r.are;
      fitted = rw (plus_none (all r.before)) at r.fitted;
      over = rw (plus_none (all r.before)) at r.over;
      stops = rw (plus_none (all r.before), z) at r.stops;
    }

pub sums : Sums
sums ss = record { sums = report_sums ss; passes = λ h. ap (λ (r : Reported). r.number) (report_stops ss h).stops }

-- a report without 34 fits
whole-fits : (ss : List (List ℕ)) → (report ss).number ≡ 0 → fits (all ss) ≡ true
whole-fits ss h = go (fits (all ss)) refl
  where
    go : (b : Bool) → fits (all ss) ≡ b → fits (all ss) ≡ true
    go true e = e
    go false e = absurd (let k = (sums ss).passes e in omega arith)

-- Any order.

pub order_free : OrderFree
order_free ss ss' p h =
    let f = whole-fits ss h in
    let e : all ss ≡ all ss' = total_perm contribution p in
    report_sums ss' (rw e at f) ∙ sym (rw e at (report_sums ss f))

-- Two halves.

join_fits : (a b : Totals) → fits (plus a b) ≡ true → joined a b ≡ reported (plus a b)
unfolding joined joined_at
join_fits a b h = rw h

join_passes : (a b : Totals) → fits (plus a b) ≡ false → (joined a b).number ≡ 34
unfolding joined joined_at
join_passes a b h = rw h

module _ (xs ys : List (List ℕ)) where
  whole : (report (xs ++ ys)).number ≡ 0 → joined (report xs).totals (report ys).totals ≡ report (xs ++ ys)
  whole h =
      let e = total-append contribution xs ys in
      let f : fits (plus (all xs) (all ys)) ≡ true = rw e at (whole-fits (xs ++ ys) h) in
      let g : fits (plus (all ys) (all xs)) ≡ true = rw (plus_comm (all xs) (all ys)) at f in
      rw (report_sums xs (fits-part _ _ f), report_sums ys (fits-part _ _ g), report_sums (xs ++ ys) (rw e f), e) (join_fits _ _ f)

  halves : (report xs).number ≡ 0 → (report ys).number ≡ 0 → (joined (report xs).totals (report ys).totals).number ≡ (report (xs ++ ys)).number
  halves h k =
      rw (report_sums xs (whole-fits xs h), report_sums ys (whole-fits ys k)) (go (fits (plus (all xs) (all ys))) refl)
    where
      go : (b : Bool) → fits (plus (all xs) (all ys)) ≡ b → (joined (all xs) (all ys)).number ≡ (report (xs ++ ys)).number
      go true f = let e = total-append contribution xs ys in rw (join_fits _ _ f, report_sums (xs ++ ys) (rw e f))
      go false f = let e = total-append contribution xs ys in join_passes _ _ f ∙ sym ((sums (xs ++ ys)).passes (rw e f))

pub two_halves : Halves
two_halves xs ys = record { whole = whole xs ys; halves = halves xs ys }
