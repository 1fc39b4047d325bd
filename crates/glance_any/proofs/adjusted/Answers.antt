use Prim.Native.Nat.{◌+◌, ◌-◌, ◌%◌, ◌<◌}
use mathlib.Core.Path.{◌≡◌}
use native.Mathlib.Omega.{arith}
use Rattle.wire.specs.Word.{Bytes, word}
use Rattle.glance.specs.Look.{size, less}
use Rattle.glance.proofs.Laws.{of_low, of_index}
use Rattle.glance_any.proofs.adjusted.Goals as goal

pub returns-then-v-eq4 : goal.returns-then-v-eq4
returns-then-v-eq4 c =
    λ l.
    let a = c.args in
    let b : Bytes a.s.now = record { below = λ i. (c.type_inv.s i).fits } in
    let q : c.place.result - 4 ≡ a.at + size a.old - 4 = omega (arith, c.place.ensures) in
    let p : word 4 a.s.now (a.at + size a.old - 4) < a.limit = rw (← q, ← c.u32_at-index.ensures) (omega arith) in
    let e : less a.s.now a.at % 256 ≡ 4 = rw (← c.word_less-v.ensures) (omega arith) in
    of_index a.s.now a.at b a.old a.limit e p (rw c.word_less-v.ensures at l)

pub returns-else-index-limit : goal.returns-else-index-limit
returns-else-index-limit c =
    λ l.
    let a = c.args in
    let b : Bytes a.s.now = record { below = λ i. (c.type_inv.s i).fits } in
    of_low a.s.now a.at b a.old (rw c.word_less-v.ensures at l) a.limit
