use Rattle.lister_items.proofs.Stores.{function-put}
use Rattle.lister_items.proofs.items.FunctionItem.put.Goals as goal

pub returns : goal.returns
returns c =
    rw (
      c.put_u64-3.ensures,
      c.put_u64-2.ensures,
      c.put_u64.ensures,
      c.record_count.ensures,
      c.u64_at-2.ensures,
      c.u64_at.ensures,
    )
    (function-put _ _ _ _ _)
