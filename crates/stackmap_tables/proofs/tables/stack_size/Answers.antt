use Prim.Native.Nat.{◌+◌, ◌*◌, ◌≤◌}
use mathlib.Core.Path.{◌≡◌}
use native.Mathlib.Omega.{arith}
use lib.ListN.{length}
use Rattle.stackmap.specs.Layout.{function_size}
use Rattle.stackmap.specs.Section.{num_functions, is_old}
use Rattle.stackmap.proofs.Parts.{function_in, function-size}
use Rattle.stackmap_tables.proofs.tables.stack_size.Goals as goal

-- The stack size stands inside its function.

pub is_old-requires : goal.is_old-requires
is_old-requires c = let w = c.requires.0 in omega arith

pub overflow_mul-step : goal.overflow_mul-step
overflow_mul-step c =
    let room : 16 + c.function_size-step.result * c.args.function + 16 ≤ length c.args.s.now = let a = c.args in
    let w = c.requires.0 in
    let i = function_in (is_old a.s.now) a.function (num_functions a.s.now) c.requires.1 in
    let m : c.function_size-step.result * a.function ≡ function_size (is_old a.s.now) * a.function = rw (c.function_size-step.ensures.0, c.is_old.ensures) in
    omega arith in
    let r = room in omega arith

pub overflow_add-step : goal.overflow_add-step
overflow_add-step c =
    let room : 16 + c.function_size-step.result * c.args.function + 16 ≤ length c.args.s.now = let a = c.args in
    let w = c.requires.0 in
    let i = function_in (is_old a.s.now) a.function (num_functions a.s.now) c.requires.1 in
    let m : c.function_size-step.result * a.function ≡ function_size (is_old a.s.now) * a.function = rw (c.function_size-step.ensures.0, c.is_old.ensures) in
    omega arith in
    let r = room in omega arith

pub overflow_add-step-2 : goal.overflow_add-step-2
overflow_add-step-2 c =
    let room : 16 + c.function_size-step.result * c.args.function + 16 ≤ length c.args.s.now = let a = c.args in
    let w = c.requires.0 in
    let i = function_in (is_old a.s.now) a.function (num_functions a.s.now) c.requires.1 in
    let m : c.function_size-step.result * a.function ≡ function_size (is_old a.s.now) * a.function = rw (c.function_size-step.ensures.0, c.is_old.ensures) in
    omega arith in
    let r = room in omega arith

pub u64_at-requires : goal.u64_at-requires
u64_at-requires c =
    let room : 16 + c.function_size-step.result * c.args.function + 16 ≤ length c.args.s.now = let a = c.args in
    let w = c.requires.0 in
    let i = function_in (is_old a.s.now) a.function (num_functions a.s.now) c.requires.1 in
    let m : c.function_size-step.result * a.function ≡ function_size (is_old a.s.now) * a.function = rw (c.function_size-step.ensures.0, c.is_old.ensures) in
    omega arith in
    let r = room in omega arith

pub returns : goal.returns
returns c = rw (function-size c.args.s.now c.args.function c.requires.1, ← c.is_old.ensures, ← c.function_size-step.ensures.0) c.u64_at.ensures
