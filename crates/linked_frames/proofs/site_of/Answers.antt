use mathlib.Core.Path.{sym, ap, ◌∙◌}
use native.Mathlib.Omega.{arith}
use Rattle.questions.specs.declared.Hits.{Hits}
use Rattle.linked_frames.proofs.Sited.{at, sharing_is, sole, site_10, site_15, sole_site}
use Rattle.linked_frames.proofs.site_of.Goals as goal

pub hits_at-h-requires : goal.hits_at-h-requires
hits_at-h-requires c = omega (arith, (at c.requires.0 c.requires.1 c.lower_bound-i.ensures.1).0, c.requires.0.most)

pub returns-in-0 : goal.returns-in-0
returns-in-0 c =
    let e = ap (λ (h : Hits). h.sharing) c.hits_at-h.ensures in
    site_10 (sym (sharing_is c.requires.0 c.requires.1 c.lower_bound-i.ensures.1) ∙ sym e ∙ c.in-0.is) c.nowhere.ensures

pub returns-in_default : goal.returns-in_default
returns-in_default c =
    let e = ap (λ (h : Hits). h.sharing) c.hits_at-h.ensures ∙ sharing_is c.requires.0 c.requires.1 c.lower_bound-i.ensures.1 in
    site_15 (λ z. omega (arith, e)) (λ z. omega (arith, e)) c.nowhere-in_default.ensures

pub bounds-sites-p : goal.bounds-sites-p
bounds-sites-p c = omega (arith, (at c.requires.0 c.requires.1 c.lower_bound-i.ensures.1).0, c.requires.0.most)

pub bounds-sites-p-in-1 : goal.bounds-sites-p-in-1
bounds-sites-p-in-1 c = omega (arith, (at c.requires.0 c.requires.1 c.lower_bound-i.ensures.1).0, c.requires.0.most)

pub overflow_add-result-in-1 : goal.overflow_add-result-in-1
overflow_add-result-in-1 c =
    let e = sym (ap (λ (h : Hits). h.sharing) c.hits_at-h.ensures) ∙ c.in-1.is in
    let o = sole c.requires.0 c.requires.1 c.lower_bound-i.ensures.1 e in
    let m = o.first.map_is in
    let n = o.first.length_is in
    omega (arith, m, n, o.standing.inside)

pub returns-in-1 : goal.returns-in-1
returns-in-1 c =
    let e = sym (ap (λ (h : Hits). h.sharing) c.hits_at-h.ensures) ∙ c.in-1.is in
    sole_site c.requires.0 c.requires.1 c.lower_bound-i.ensures.1 e c.hits_at-h.result c.hits_at-h.ensures
