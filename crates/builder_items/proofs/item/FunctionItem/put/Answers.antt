use Rattle.builder_items.proofs.Puts.{old_function_put, function-put}
use Rattle.builder_items.proofs.item.FunctionItem.put.Goals as goal

pub returns-then-self : goal.returns-then-self
returns-then-self c =
    let a = c.args in
    rw (
      c.if-self.true,
      c.put_u64-2.ensures,
      c.u64_at-stack_size.ensures,
      c.put_u64.ensures,
      c.u64_at-address.ensures,
    )
    (old_function_put a.l.now a.at a.out.now a.to)

pub returns : goal.returns
returns c =
    let a = c.args in
    rw (
      c.if-self.false,
      c.put_u64-3.ensures,
      c.u64_at-records.ensures,
      c.put_u64-2.ensures,
      c.u64_at-stack_size.ensures,
      c.put_u64.ensures,
      c.u64_at-address.ensures,
    )
    (function-put a.l.now a.at a.out.now a.to)
