use Rattle.std.proofs.Common.{rules}
use mathlib.Core.Path.{◌≡◌, refl, sym, ◌∙◌}
use Rattle.std.specs.Prelude.{◌+◌, Result, Ok, Err}
use Rattle.std.specs.Result.{MatchResult, IsErrAnd}
use Rattle.std.proofs.lemmas.Result.{err_from_is_err_and}
use Rattle.refusals.specs.declared.Refusal.{Refusal}
use Rattle.parser_items.specs.declared.Plan.{Plan}
use Rattle.parser.proofs.Outcomes.{too_long, start-inside, items_refused, items_accepted, buildable}
use Rattle.parser.proofs.parse.Goals as goal

-- a plan that `map_err` has passed on
kept : (r s : Result Plan Refusal) (Q : Refusal → Refusal → Type 0) (p : Plan) → s ≡ Ok p → MatchResult r (λ x. s ≡ Ok x) (λ e. IsErrAnd s (Q e)) → r ≡ Ok p
kept (Ok x) s Q p e m = sym m ∙ e
kept (Err d) s Q p e m = absurd (rw e at m)

-- a refusal that it has moved
moved : (r s : Result Plan Refusal) (Q : Refusal → Refusal → Type 0) (f : Refusal) → s ≡ Err f → MatchResult r (λ x. s ≡ Ok x) (λ e. IsErrAnd s (Q e)) → (e : Refusal) × (r ≡ Err e) × Q e f
moved (Ok x) s Q f e m = let z = sym m ∙ e in absurd (cc)
moved (Err d) s Q f e m = (d, refl, rw e at m)

pub returns-then-l-gt-LISTING_MOST : goal.returns-then-l-gt-LISTING_MOST
returns-then-l-gt-LISTING_MOST c = too_long c.args.l.now c.if-l-gt-LISTING_MOST.true

pub slice_bounds-items-count : goal.slice_bounds-items-count
slice_bounds-items-count c = start-inside c.args.l.now c.listed_old-old.ensures c.version_length-start.ensures.0

pub slice_bounds-items-start : goal.slice_bounds-items-start
slice_bounds-items-start c = let h = start-inside c.args.l.now c.listed_old-old.ensures c.version_length-start.ensures.0 in search rules

pub returns-in_err-plan : goal.returns-in_err-plan
returns-in_err-plan c =
    let x = err_from_is_err_and c.from_residual.result c.from_residual.ensures.1 in
    let m = moved _ _ _ _ c.in_err-plan.was c.map_err.ensures.cases in
    let q = m.2 in
    let cause : c.in_err-plan.field-0.0.0 ≡ m.0.0 = search rules in
    let place : c.in_err-plan.field-0.0.1 ≡ c.version_length-start.result + m.0.1 = search rules in
    let d = rw m.1 at c.items-drafted.ensures in
    let r = items_refused c.args.l.now c.listed_old-old.ensures c.version_length-start.ensures.0 c.if-l-gt-LISTING_MOST.false d.0 in
    rw (x.1, x.2) (cc)

pub returns-in_err-size : goal.returns-in_err-size
returns-in_err-size c =
    let x = err_from_is_err_and c.from_residual-in_err-size.result c.from_residual-in_err-size.ensures.1 in
    let w = rw (kept _ _ _ _ c.in_ok-plan.was c.map_err.ensures.cases) at c.items-drafted.ensures in
    rw (x.1, x.2)
    (items_accepted c.args.l.now c.listed_old-old.ensures c.version_length-start.ensures.0 c.if-l-gt-LISTING_MOST.false w.0 w.1
    ∙ sym c.in_err-size.ensures)

pub returns : goal.returns
returns c =
    let w = rw (kept _ _ _ _ c.in_ok-plan.was c.map_err.ensures.cases) at c.items-drafted.ensures in
    buildable c.args.l.now c.listed_old-old.ensures c.version_length-start.ensures.0 c.if-l-gt-LISTING_MOST.false w.0 w.1
    (sym c.in_ok-size.ensures)
