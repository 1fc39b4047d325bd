use mathlib.Core.Path.{sym, ◌∙◌}
use borrow.Author.Tests.{eqb-true}
use Rattle.glance.proofs.Laws.{eight_none, eight_each}
use Rattle.glance_live_outs.proofs.eight_outs.Goals as goal

pub returns : goal.returns
returns c =
    λ h.
    let a = c.args in
    let p = c.requires in
    let x₀ = c.zero_byte in
    let x₁ = c.zero_byte-2 in
    let x₂ = c.zero_byte-3 in
    let x₃ = c.zero_byte-4 in
    let x₄ = c.zero_byte-5 in
    let x₅ = c.zero_byte-6 in
    let x₆ = c.zero_byte-7 in
    let x₇ = c.zero_byte-8 in
    let z = eight_none x₀.result x₁.result x₂.result x₃.result x₄.result x₅.result x₆.result x₇.result (eqb-true _ _ h) in
    eight_each a.s.now a.at a.last p.1 (λ l. sym (x₀.ensures l) ∙ z.0) (λ l. sym (x₁.ensures l) ∙ z.1)
    (λ l. sym (x₂.ensures l) ∙ z.2) (λ l. sym (x₃.ensures l) ∙ z.3) (λ l. sym (x₄.ensures l) ∙ z.4)
    (λ l. sym (x₅.ensures l) ∙ z.5) (λ l. sym (x₆.ensures l) ∙ z.6) (λ l. sym (x₇.ensures l) ∙ z.7)
