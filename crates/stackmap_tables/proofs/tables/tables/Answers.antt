use native.Mathlib.Omega.{arith}
use Prim.Native.Nat.{◌*◌, ◌-◌, ◌/◌, ◌≤◌, ◌<◌}
use lib.ListN.{length}
use mathlib.Core.Path.{◌≡◌, sym, ap, ◌∙◌}
use mathlib.Core.Bool.{false}
use Rattle.stackmap.specs.Layout.{function_size}
use Rattle.stackmap.specs.Check.{counts_right, tables_check}
use Rattle.stackmap.specs.Section.{num_records, is_old, constants_at, records_at, read_functions}
use Rattle.stackmap.specs.Verdict.{must}
use Rattle.stackmap.proofs.Tests.{tests}
use Rattle.stackmap.proofs.Steps.{times_most, function-least, functions-most}
use Rattle.stackmap.proofs.Cut.{function-cut, constant-cut}
use borrow.Author.Rules.{rules}
use Rattle.stackmap_tables.proofs.tables.tables.Goals as goal

pub overflow_mul-after : goal.overflow_mul-after
overflow_mul-after c = let h = times_most _ 24 c.u32_at-functions.result c.function_size-step.ensures.1 in search rules

pub overflow_add-after : goal.overflow_add-after
overflow_add-after c = let h = times_most _ 24 c.u32_at-functions.result c.function_size-step.ensures.1 in search rules

pub nonzero_div-whole : goal.nonzero_div-whole
nonzero_div-whole c =
    let h = function-least c.is_old.result in omega (arith, c.function_size-step.ensures.0)

-- the functions that are wholly inside take no more than there is

pub overflow_mul-result : goal.overflow_mul-result
overflow_mul-result c =
    let whole : c.function_size-step.result * ((length c.args.s.now - 16) / c.function_size-step.result)
    ≤ length c.args.s.now - 16 = rw c.function_size-step.ensures.0 (functions-most c.is_old.result (length c.args.s.now - 16)) in
    let h = whole in omega arith

pub overflow_add-result : goal.overflow_add-result
overflow_add-result c =
    let whole : c.function_size-step.result * ((length c.args.s.now - 16) / c.function_size-step.result)
    ≤ length c.args.s.now - 16 = rw c.function_size-step.ensures.0 (functions-most c.is_old.result (length c.args.s.now - 16)) in
    let h = whole in omega arith

pub returns-then-after-s : goal.returns-then-after-s
unfolding tables_check must
returns-then-after-s c =
    let l : length c.args.s.now < constants_at c.args.s.now =
    rw (← c.u32_at-functions.ensures, ← c.is_old.ensures, ← c.function_size-step.ensures.0) (omega arith) in
    rw (function-cut c.args.s.now c.requires l, ← c.u32_at-functions.ensures, ← c.is_old.ensures, ← c.function_size-step.ensures.0) (search tests)

pub returns-then-end-s : goal.returns-then-end-s
unfolding tables_check must
returns-then-end-s c =
    let n = c.u32_at-constants.ensures in
    let m = c.u32_at-functions.ensures in
    let l : constants_at c.args.s.now ≤ length c.args.s.now =
    rw (← m, ← c.is_old.ensures, ← c.function_size-step.ensures.0) (omega arith) in
    let h : length c.args.s.now < records_at c.args.s.now =
    rw (← m, ← n, ← c.is_old.ensures, ← c.function_size-step.ensures.0) (omega arith) in
    rw (constant-cut c.args.s.now l h, ← m, ← n, ← c.is_old.ensures, ← c.function_size-step.ensures.0) (search tests)

pub returns-then-is_old : goal.returns-then-is_old
unfolding tables_check counts_right must
returns-then-is_old c =
    let v = c.is_old.ensures ∙ sym c.is_old-2.ensures ∙ c.if-is_old.true in
    rw (← c.u32_at-functions.ensures, ← c.u32_at-constants.ensures, ← c.is_old.ensures, ← c.function_size-step.ensures.0, v) (search tests)

pub counts_add_up-requires : goal.counts_add_up-requires
counts_add_up-requires c =
    let w : c.function_size-step.result ≡ 24 =
    c.function_size-step.ensures.0 ∙ ap function_size (c.is_old.ensures ∙ sym c.is_old-2.ensures ∙ c.if-is_old.false) in
    let h = rw w at c.if-after-s.false in omega arith

-- version 3's test of the record counts

pub returns-then-counts_add_up : goal.returns-then-counts_add_up
unfolding tables_check must counts_right read_functions
returns-then-counts_add_up c =
    let counts : counts_right
    (is_old c.args.s.now)
    (read_functions c.args.s.now)
    (num_records c.args.s.now)
    ≡ c.counts_add_up.result = let v : is_old c.args.s.now ≡ false = sym c.is_old-2.ensures ∙ c.if-is_old.false in
    rw (v, ← c.u32_at-functions.ensures, ← c.u32_at-records.ensures, ← c.counts_add_up.ensures) in
    let k = counts in
    rw (k, c.if-counts_add_up.true, ← c.u32_at-functions.ensures, ← c.u32_at-constants.ensures, ← c.is_old.ensures, ← c.function_size-step.ensures.0) (search tests)

pub returns-else-counts_add_up : goal.returns-else-counts_add_up
unfolding tables_check must counts_right read_functions
returns-else-counts_add_up c =
    let counts : counts_right
    (is_old c.args.s.now)
    (read_functions c.args.s.now)
    (num_records c.args.s.now)
    ≡ c.counts_add_up.result = let v : is_old c.args.s.now ≡ false = sym c.is_old-2.ensures ∙ c.if-is_old.false in
    rw (v, ← c.u32_at-functions.ensures, ← c.u32_at-records.ensures, ← c.counts_add_up.ensures) in
    let k = counts in
    rw (k, c.if-counts_add_up.false, ← c.u32_at-functions.ensures, ← c.u32_at-constants.ensures, ← c.is_old.ensures, ← c.function_size-step.ensures.0) (search tests)
