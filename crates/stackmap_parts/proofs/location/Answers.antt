use Rattle.std.proofs.Common.{inl, inr}
use native.Mathlib.Omega.{arith}
use Rattle.stackmap.specs.Record.{location_zeros, location_check}
use Rattle.stackmap.specs.Verdict.{must}
use Rattle.stackmap.proofs.Tests.{tests}
use Rattle.stackmap.proofs.Steps.{location_least}
use borrow.Author.Rules.{rules}
use Rattle.stackmap_parts.proofs.location.Goals as goal

pub bounds-s-at : goal.bounds-s-at
bounds-s-at c = let h = location_least c.args.old in search rules

pub returns-then-kind-lt-KIND_LEAST : goal.returns-then-kind-lt-KIND_LEAST
unfolding location_check must
returns-then-kind-lt-KIND_LEAST c = elim c.then-kind-lt-KIND_LEAST.either [ inl h ↦ search tests | inr h ↦ search tests ]

pub pool-requires : goal.pool-requires
pool-requires c = let h = rw c.if-old.true at c.requires in omega arith

pub returns-then-old : goal.returns-then-old
unfolding location_check location_zeros must
returns-then-old c = rw (c.pool.ensures, c.if-old.true) (search tests)

pub bounds-s-at-2 : goal.bounds-s-at-2
bounds-s-at-2 c = let h = rw c.if-old.false at c.requires in omega arith

pub returns-then-s-at-ne0 : goal.returns-then-s-at-ne0
unfolding location_check location_zeros must
returns-then-s-at-ne0 c = rw c.if-old.false (search tests)

pub bounds-s-at-3 : goal.bounds-s-at-3
bounds-s-at-3 c = let h = rw c.if-old.false at c.requires in omega arith

pub returns-then-s-at-ne0-2 : goal.returns-then-s-at-ne0-2
unfolding location_check location_zeros must
returns-then-s-at-ne0-2 c = rw c.if-old.false (search tests)

pub bounds-s-at-4 : goal.bounds-s-at-4
bounds-s-at-4 c = let h = rw c.if-old.false at c.requires in omega arith

pub returns-then-s-at-ne0-3 : goal.returns-then-s-at-ne0-3
unfolding location_check location_zeros must
returns-then-s-at-ne0-3 c = rw c.if-old.false (search tests)

pub pool-requires-2 : goal.pool-requires-2
pool-requires-2 c = let h = rw c.if-old.false at c.requires in omega arith

pub returns : goal.returns
unfolding location_check location_zeros must
returns c = rw (c.pool-2.ensures, c.if-old.false) (search tests)
