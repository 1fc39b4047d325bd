use mathlib.Core.Path.{refl}
use native.Mathlib.Omega.{arith}
use Rattle.flat_match.proofs.Lookup.{past}
use Rattle.flat_match.proofs.Ordered.{too_far, from_key, none-at}
use Rattle.flat_match.proofs.keys.first.Goals as goal

pub returns-in_err-rest : goal.returns-in_err-rest
returns-in_err-rest c =
    rw c.from_residual.ensures (past _ _ _ _ _ _ _ _ c.offset-frames.ensures.0 c.u64_at-function.ensures (omega (arith, c.in_err-rest.ensures)) refl)

pub returns-then-rest-ge-OFFSETS : goal.returns-then-rest-ge-OFFSETS
returns-then-rest-ge-OFFSETS c =
    too_far _ _ _ _ _ _ _ _ _ c.requires.4 (omega arith)
    c.offset-frames.ensures.0 c.u64_at-function.ensures _ (omega (arith, c.in_ok-rest.ensures)) (omega (arith, c.in_ok-rest.ensures)) refl

pub returns-in_err-key : goal.returns-in_err-key
returns-in_err-key c =
    let r = c.in_ok-rest.ensures in
    let out = c.in_err-key.ensures.lookup.3 in
    rw c.from_residual-in_err-key.ensures (none-at _ _ _ _ _ _ _ _ _ c.requires.4 (omega arith)
    c.offset-frames.ensures.0 c.u64_at-function.ensures _
    (omega arith) (rw r.1 at c.lower_bound-p.ensures.1) _ (λ l. omega arith) refl)

pub returns-then-key-base : goal.returns-then-key-base
returns-then-key-base c =
    let r = c.in_ok-rest.ensures in
    let key = c.in_ok-key.ensures.lookup.3.1 0 in
    none-at _ _ _ _ _ _ _ _ _ c.requires.4 (omega arith)
    c.offset-frames.ensures.0 c.u64_at-function.ensures _
    (omega arith) (rw r.1 at c.lower_bound-p.ensures.1) _ (λ l. omega arith) refl

pub returns : goal.returns
returns c =
    let r = c.in_ok-rest.ensures in
    let there = c.in_ok-key.ensures.lookup.3 in
    let key = there.1 0 in
    from_key _ _ _ _ _ _ _ _ _ c.requires.4
    (omega arith) c.offset-frames.ensures.0
    c.u64_at-function.ensures _ (omega arith)
    (rw r.1 at c.lower_bound-p.ensures.1) _ _ there.0 (omega arith) (omega arith) c.in_frame-2.ensures
