use Rattle.std.proofs.Common.{◌≡◌, ◌-◌, ap, arith, eqb-true}
use Rattle.stackmap.specs.Verdict.{Valid}
use Rattle.stackmap.specs.Verdict.{shift}
use Rattle.stackmap_check.proofs.walk.one_record.Goals as goal

-- Quick looks, and where they say nothing the exact check.
pub owner_address-address-requires : goal.owner_address-address-requires
owner_address-address-requires g c = (c.requires.0, c.requires.1, c.requires.2)

pub returns-then-end-gt1 : goal.returns-then-end-gt1
unfolding shift
returns-then-end-gt1 g c =
    let v = c.plain-end.ensures.1 c.args.constants (omega arith) in
    let i = v.0 in
    rw (← c.owner_address-address.ensures, ← c.requires.0, v.1) (ap Valid (omega arith))

pub other-next-requires : goal.other-next-requires
other-next-requires g c = (c.requires.3, λ q. let e : c.plain-end.result ≡ 1 = eqb-true _ _ q in c.plain-end.ensures.0 c.args.constants (omega arith))

pub returns-then-next-gt0 : goal.returns-then-next-gt0
unfolding shift
returns-then-next-gt0 g c =
    let v = c.other-next.ensures (omega arith) in
    let i = v.0 in
    rw (← c.owner_address-address.ensures, ← c.requires.0, v.1) (ap Valid (omega arith))

pub returns : goal.returns
returns g c = rw (← c.owner_address-address.ensures, ← c.requires.0) c.exact_at.ensures
