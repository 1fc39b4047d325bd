use Prim.Native.Nat.{◌*◌, ◌+◌}
use mathlib.Core.List.{[], ◌∷◌}
use native.Mathlib.Omega.{arith}
use native.Mathlib.Numerals.{add-one}
use Rattle.index_rows.proofs.Rows.{part-sets}
use Rattle.index_rows.proofs.put_row.Goals as goal

pub returns : goal.returns
returns c =
    rw add-one
    (part-sets (2 * c.args.number) (2 * c.args.number + 2) c.args.index.now _ (c.args.address ∷ c.args.number ∷ []) c.copy_from_slice.ensures.after (omega arith) (omega arith))
