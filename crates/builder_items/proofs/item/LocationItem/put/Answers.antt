use native.Mathlib.Omega.{arith}
use Rattle.wire.specs.Word.{Bytes}
use Rattle.builder_items.proofs.Puts.{old_location_put, location_put}
use Rattle.builder_items.proofs.item.LocationItem.put.Goals as goal

pub returns-then-self : goal.returns-then-self
returns-then-self c =
    let a = c.args in
    let w : Bytes a.l.now = record { below = λ i. omega (arith, c.type_inv.l i) } in
    rw (
      c.if-self.true,
      c.put_u32.ensures,
      c.u32_at-offset.ensures,
      c.put_u16-then-self.ensures,
      c.u16_at-register.ensures,
      c.put_u16.ensures,
      c.u16_at-kind_and_size.ensures,
    )
    (old_location_put a.l.now a.at a.out.now a.to w)

pub returns-else-self : goal.returns-else-self
returns-else-self c =
    let a = c.args in
    let w : Bytes a.l.now = record { below = λ i. omega (arith, c.type_inv.l i) } in
    rw (
      c.if-self.false,
      c.put_u32-else-self-2.ensures,
      c.u32_at-offset.ensures,
      c.put_u16-else-self-2.ensures,
      c.put_u32-else-self.ensures,
      c.u32_at-size_and_register.ensures,
      c.put_u16-else-self.ensures,
      c.from-kind.ensures,
    )
    (location_put a.l.now a.at a.out.now a.to w)
