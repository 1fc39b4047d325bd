use mathlib.Core.Bool.{◌||◌}
use Rattle.std.proofs.Common.{inl, inr}
use Rattle.stackmap.specs.Check.{header_check}
use Rattle.stackmap.specs.Verdict.{must}
use Rattle.stackmap.proofs.Tests.{tests}
use Rattle.stackmap_header.proofs.check_header.Goals as goal

pub returns-then-s-lt-HEADER_SIZE : goal.returns-then-s-lt-HEADER_SIZE
unfolding header_check must
returns-then-s-lt-HEADER_SIZE c = elim c.then-s-lt-HEADER_SIZE.either [ inl h ↦ search tests | inr h ↦ search tests ]

pub returns-then-version-ne-OLD_VERSION : goal.returns-then-version-ne-OLD_VERSION
unfolding header_check must
returns-then-version-ne-OLD_VERSION c = search tests

pub returns : goal.returns
unfolding header_check must
returns c = rw (← c.zero_bytes.ensures) (elim c.else-version-ne-VERSION.either [ inl h ↦ search tests | inr h ↦ search tests ])
