use mathlib.Core.Path.{sym, ap, ◌∙◌}
use native.Mathlib.Omega.{arith}
use Rattle.linked_maps.specs.Counted.{counted}
use Rattle.linked_maps.proofs.Putting.{maps_fit, maps-refused, maps-short, maps-all, answers}
use Rattle.linked_maps.proofs.maps.Goals as goal

-- The answer of each case of the definition.
pub returns-then-out-numbers : goal.returns-then-out-numbers
returns-then-out-numbers c =
    let t = sym (ap counted c.in-Ok.is) ∙ c.count_maps.ensures.0 in
    let r = c.refused-then-out-numbers.ensures in
    answers (rw (r.0, r.1, r.2) (maps-short _ _ _ t (omega arith)))

pub returns-in-Err : goal.returns-in-Err
returns-in-Err c =
    let t = sym (ap counted c.in-Err.is) ∙ c.count_maps.ensures.0 in
    let r = c.refused.ensures in
    answers (rw (r.0, r.1, r.2, c.number.ensures) (maps-refused _ _ _ _ t))

pub returns-else-out-numbers : goal.returns-else-out-numbers
returns-else-out-numbers c =
    let t = sym (ap counted c.in-Ok.is) ∙ c.count_maps.ensures.0 in
    answers (maps-all _ _ _ t _ (omega arith) c.put_maps.ensures)

pub overflow_mul-numbers : goal.overflow_mul-numbers
overflow_mul-numbers c =
    let t = sym (ap counted c.in-Ok.is) ∙ c.count_maps.ensures.0 in
    let f = maps_fit _ _ t in
    omega arith

pub put_maps-requires : goal.put_maps-requires
put_maps-requires c =
    let t = sym (ap counted c.in-Ok.is) ∙ c.count_maps.ensures.0 in
    let k = c.count_maps.ensures.1 in
    (t, rw c.in-Ok.is at k, omega arith)
