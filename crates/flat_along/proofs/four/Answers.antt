use Rattle.flat_along.proofs.Below.{four_below}
use Rattle.flat_along.proofs.four.Goals as goal

pub returns : goal.returns
returns c = λ limit h. four_below _ _ _ limit h
