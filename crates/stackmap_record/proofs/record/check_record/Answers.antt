use native.Mathlib.Omega.{arith}
use mathlib.Core.Path.{sym, ap, ◌∙◌}
use Rattle.stackmap.specs.Record.{record_check}
use Rattle.stackmap.specs.Verdict.{verdict, chain, must}
use Rattle.stackmap.proofs.Passed.{passed}
use Rattle.stackmap.proofs.Within.{is-inside, header_inside}
use Rattle.stackmap_record.proofs.record.check_record.Goals as goal

pub returns-in_err-record_inside : goal.returns-in_err-record_inside
unfolding record_check must chain
returns-in_err-record_inside c = rw (← c.record_inside.ensures, c.in_err-record_inside.was, passed _ _ c.from_residual.ensures.1)

pub u32_at-offset-requires : goal.u32_at-offset-requires
u32_at-offset-requires c = let h = header_inside _ _ (is-inside _ _ _ (sym c.record_inside.ensures ∙ ap verdict c.in_ok-record_inside.was)) in omega arith

pub returns-then-not-address_right : goal.returns-then-not-address_right
unfolding record_check chain must
returns-then-not-address_right c =
    rw (
      ← c.record_inside.ensures,
      c.in_ok-record_inside.was,
      ← c.u32_at-offset.ensures,
      ← c.address_right.ensures,
      c.if-not-address_right.true,
    )

pub record_bytes-requires : goal.record_bytes-requires
record_bytes-requires c = is-inside _ _ _ (sym c.record_inside.ensures ∙ ap verdict c.in_ok-record_inside.was)

pub returns : goal.returns
unfolding record_check chain must
returns c =
    rw (
      ← c.record_inside.ensures,
      c.in_ok-record_inside.was,
      ← c.u32_at-offset.ensures,
      ← c.address_right.ensures,
      c.if-not-address_right.false,
      ← c.record_bytes.ensures,
    )
