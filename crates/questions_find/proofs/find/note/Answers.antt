use mathlib.Core.Path.{◌≡◌, sym}
use native.Mathlib.Omega.{arith}
use native.Mathlib.Numerals.{add-one}
use borrow.Author.Tests.{eq-eqb, ne_eqb}
use Rattle.stackmap.specs.Section.{address}
use Rattle.stackmap.specs.Walk.{entry_at}
use Rattle.questions.proofs.Kept.{here-address, passed, again, fresh_at}
use Rattle.questions_find.proofs.find.note.Goals as goal

pub returns-then-address-start : goal.returns-then-address-start
returns-then-address-start c =
    let a = c.args in
    let o = c.requires.0 in
    let x = entry_at a.s.now a.index a.function a.at in
    let h = here-address a.s.now a.index a.function a.at in
    let no : address x ≡ a.address → ⊥ = λ (e : address x ≡ a.address). omega arith in
    (sym (passed a.address x a.hits (ne_eqb _ _ no)), omega arith)

pub returns-then-gap-offset : goal.returns-then-gap-offset
returns-then-gap-offset c =
    let a = c.args in
    let o = c.requires.0 in
    let x = entry_at a.s.now a.index a.function a.at in
    let h = here-address a.s.now a.index a.function a.at in
    let no : address x ≡ a.address → ⊥ = λ (e : address x ≡ a.address). c.if-gap-offset.true (omega arith) in
    (sym (passed a.address x a.hits (ne_eqb _ _ no)), omega arith)

pub returns-then-hits-lt1 : goal.returns-then-hits-lt1
returns-then-hits-lt1 c =
    let a = c.args in
    let o = c.requires.0 in
    let x = entry_at a.s.now a.index a.function a.at in
    let h = here-address a.s.now a.index a.function a.at in
    let none : a.hits.sharing ≡ 0 = omega arith in
    let yes : address x ≡ a.address = omega arith in
    (sym (fresh_at a.address a.s.now a.index a.function a.at a.hits (eq-eqb _ _ yes) (eq-eqb _ _ none)), omega arith)

pub overflow_add-result : goal.overflow_add-result
overflow_add-result c = omega arith

pub returns : goal.returns
returns c =
    let a = c.args in
    let o = c.requires.0 in
    let x = entry_at a.s.now a.index a.function a.at in
    let h = here-address a.s.now a.index a.function a.at in
    let some : a.hits.sharing ≡ 0 → ⊥ = λ (z : a.hits.sharing ≡ 0). omega arith in
    let yes : address x ≡ a.address = omega arith in
    (rw add-one (sym (again a.address x a.hits (eq-eqb _ _ yes) (ne_eqb _ _ some))), omega arith)
