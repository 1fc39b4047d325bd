use Prim.Native.Nat.{◌≤◌, ◌<◌}
use mathlib.Core.Path.{sym, ◌∙◌}
use native.Mathlib.Omega.{arith}
use borrow.Author.Tests.{eq-eqb, ne_eqb, le-leb, lt-leb}
use Rattle.stackmap.specs.Section.{num_functions}
use Rattle.questions.specs.Kept.{named_found}
use Rattle.questions_find.proofs.find.named.Goals as goal

pub returns-then-function-functions : goal.returns-then-function-functions
unfolding named_found
returns-then-function-functions c =
    let a = c.args in
    let z : num_functions a.s.now ≤ a.function = let u = c.u32_at-functions.ensures in omega arith in
    rw (sym c.is_old.ensures ∙ c.if-is_old.true, le-leb (num_functions a.s.now) a.function z) c.refused.ensures

pub returns-then-found-ne0 : goal.returns-then-found-ne0
unfolding named_found
returns-then-found-ne0 c =
    let a = c.args in
    let z : a.function < num_functions a.s.now = let u = c.u32_at-functions.ensures in omega arith in
    rw (sym c.is_old.ensures ∙ c.if-is_old.true, lt-leb (num_functions a.s.now) a.function z, ne_eqb _ _ c.if-found-ne0.true)

pub returns-then-is_old : goal.returns-then-is_old
unfolding named_found
returns-then-is_old c =
    let a = c.args in
    let z : a.function < num_functions a.s.now = let u = c.u32_at-functions.ensures in omega arith in
    rw (sym c.is_old.ensures ∙ c.if-is_old.true, lt-leb (num_functions a.s.now) a.function z, eq-eqb _ _ c.if-found-ne0.false)

pub returns : goal.returns
unfolding named_found
returns c = rw (sym c.is_old.ensures ∙ c.if-is_old.false)
