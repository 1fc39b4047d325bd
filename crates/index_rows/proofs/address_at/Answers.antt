use mathlib.Core.Path.{sym}
use native.Mathlib.Omega.{arith}
use Rattle.questions.proofs.Kept.{here-address}
use Rattle.index_rows.proofs.address_at.Goals as goal

pub owner_address-start-requires : goal.owner_address-start-requires
owner_address-start-requires c = (sym c.requires.0, c.requires.1, λ _. c.requires.2)

pub overflow_add-result : goal.overflow_add-result
overflow_add-result c =
    let a = here-address c.args.s.now 0 c.args.function c.args.at in
    omega (arith, c.requires.4)

pub returns : goal.returns
returns c = rw (c.owner_address-start.ensures, c.u32_at.ensures) (sym (here-address c.args.s.now 0 c.args.function c.args.at))
