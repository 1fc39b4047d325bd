use Rattle.std.proofs.Common.{refl}
use Rattle.decimal.proofs.Digits.{part_sets}
use Rattle.decimal.proofs.put_text.Goals as goal

pub returns : goal.returns
returns c =
    let a = c.args in
    (refl, rw c.copy_from_slice.ensures.after (part_sets a.text.now a.out.now a.at c.requires))
