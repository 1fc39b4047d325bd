use mathlib.Core.Path.{refl, sym}
use native.Mathlib.Omega.{arith}
use Rattle.std.proofs.lemmas.Result.{err_from_is_err_and}
use Rattle.parser_draft.proofs.Drafts.{grammar_refused, limits_refused, planned, items_whole}
use Rattle.parser_draft.proofs.items.Goals as goal

pub returns-in_err-items : goal.returns-in_err-items
returns-in_err-items c =
    let g = c.in_err-items.ensures in
    let x = err_from_is_err_and c.from_residual.result c.from_residual.ensures.1 in
    rw (x.1, x.2) (grammar_refused c.args.old c.listed_tables-functions.ensures (sym g.0), g.1)

pub items-requires-2 : goal.items-requires-2
items-requires-2 c =
    let s = c.survey_records-survey in
    let t = c.listed_tables-functions.ensures in
    let i = t.inside in
    let p = planned c.args.old t (sym c.in_ok-items.ensures.0) s.result.crowded s.ensures.0 s.ensures.1 s.ensures.2 in
    (omega arith, i, p.counted)

pub returns-in_err-items-2 : goal.returns-in_err-items-2
returns-in_err-items-2 c =
    let k = c.in_err-items-2.ensures in
    let x = err_from_is_err_and c.from_residual-in_err-items-2.result c.from_residual-in_err-items-2.ensures.1 in
    rw (x.1, x.2) (limits_refused c.args.old c.listed_tables-functions.ensures (sym c.in_ok-items.ensures.0) (sym k.0), k.1)

pub returns : goal.returns
returns c =
    let s = c.survey_records-survey in
    let g = sym c.in_ok-items.ensures.0 in
    let k = sym c.in_ok-items-2.ensures.0 in
    (refl, items_whole c.args.old c.listed_tables-functions.ensures g s.result.crowded s.ensures.0 s.ensures.1 s.ensures.2 k)
