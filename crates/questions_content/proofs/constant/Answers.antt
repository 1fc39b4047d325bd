use Prim.Native.Nat.{◌*◌, ◌≤◌, ◌<◌}
use mathlib.Core.Path.{◌≡◌, sym, ap, ◌∙◌}
use native.Mathlib.Omega.{arith}
use Rattle.stackmap.specs.Layout.{function_size}
use Rattle.stackmap.specs.Section.{num_functions, num_constants, is_old}
use Rattle.questions.proofs.Content.{constant-plain, constant_negative, constant-pool, constant-none, pool-entry, pool-none}
use Rattle.questions_content.proofs.constant.Goals as goal

-- By the kind: the offset, sign-extended; the pool entry; or 0.

pub returns-in-4 : goal.returns-in-4
returns-in-4 c = λ n g. let a = c.args in rw c.from.ensures (sym (constant-plain _ (record { kind = a.kind; size = n; register = g; offset = a.offset }) c.in-4.is c.if-offset-lt-NEGATIVE_FROM.true))

pub returns-in-4-2 : goal.returns-in-4-2
returns-in-4-2 c = λ n g. let a = c.args in rw c.from-in-4-2.ensures (sym (constant_negative _ (record { kind = a.kind; size = n; register = g; offset = a.offset }) c.in-4.is c.if-offset-lt-NEGATIVE_FROM.false))

pub returns-in-5 : goal.returns-in-5
returns-in-5 c =
    λ n g.
    let r = c.function_size.result in
    let z : r ≡ function_size (is_old c.args.s.now) = c.function_size.ensures.0 ∙ ap function_size c.is_old.ensures in
    let m : r * c.u32_at-functions.result ≡ function_size (is_old c.args.s.now) * num_functions c.args.s.now = rw (z, c.u32_at-functions.ensures) in
    let a = c.args in
    let h : a.offset < num_constants a.s.now = rw (← c.u32_at.ensures) c.if-offset-u32_at.true in
    c.u64_at.ensures
    ∙ rw m (sym (pool-entry a.s.now a.offset h))
    ∙ sym (constant-pool _ (record { kind = a.kind; size = n; register = g; offset = a.offset }) c.in-5.is)

pub returns-in_default : goal.returns-in_default
returns-in_default c =
    λ n g.
    let a = c.args in
    let h : num_constants a.s.now ≤ a.offset = rw (← c.u32_at.ensures) c.if-offset-u32_at.false in
    sym (pool-none a.s.now a.offset h)
    ∙ sym (constant-pool _ (record { kind = a.kind; size = n; register = g; offset = a.offset }) c.in-5.is)

pub returns-in_default-2 : goal.returns-in_default-2
returns-in_default-2 c = λ n g. let a = c.args in sym (constant-none _ (record { kind = a.kind; size = n; register = g; offset = a.offset }) (λ z. omega arith) (λ z. omega arith))
