use native.Mathlib.Omega.{arith}
use Rattle.explain_rows.proofs.Writing.{put_slot_told}
use Rattle.explain_rows.proofs.put_told.Goals as goal

pub place-requires : goal.place-requires
place-requires c l = let i = c.requires.5.in_window l in omega (arith, c.requires.4)

pub returns : goal.returns
returns c =
    put_slot_told c.args.rows.now _
    c.args.to _ _ _ _ _ _ _ _ _ c.put_slot.ensures
    c.sort.ensures c.place.ensures c.read-content.ensures
    c.into.ensures
    (c.of_number-why.ensures c.args.frame)
