use mathlib.Core.Path.{◌≡◌}
use mathlib.Core.Bool.{false}
use lib.ListN.{length, length-set}
use lib.Seq.{length-sets}
use native.Mathlib.Omega.{arith}
use Rattle.lister_items.proofs.Puts.{put-long}
use Rattle.lister_items.proofs.Stores.{record_put}
use Rattle.lister_items.proofs.items.put_record_item.Goals as goal

pub put_u64-requires : goal.put_u64-requires
put_u64-requires c = simp length-set (omega arith)

pub put_u32-requires : goal.put_u32-requires
put_u32-requires c =
    let k : length c.put_u64.new.out ≡ length c.args.out.now = rw (c.put_u64.ensures, length-sets, length-set) in
    omega arith

pub returns : goal.returns
returns c =
    λ old.
    rw (c.put_u32.ensures, c.put_u64.ensures, c.u32_at.ensures, c.u64_at.ensures) (record_put old _ _ _)

pub shape_of-out : goal.shape_of-out
shape_of-out c = put-long (returns c false)
