use Prim.Native.Nat.{◌+◌, ◌-◌}
use mathlib.Core.Path.{◌≡◌, refl, ap}
use native.Mathlib.Omega.{arith}
use Rattle.questions.specs.declared.Located.{Located}
use Rattle.questions.specs.Questions.{record_part}
use Rattle.questions_locate.proofs.record.Goals as goal

pub returns : goal.returns
unfolding record_part
returns c =
    let l = c.locate-l.result in
    let e : l.first + l.size - l.first ≡ l.size = omega arith in
    let z = ap (λ (x : Located). x.first) c.locate-l.ensures.0 in
    (rw (e, c.locate-l.ensures.0), refl, omega arith)
