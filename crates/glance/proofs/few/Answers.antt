use Rattle.std.proofs.Common.{◌+◌, ◌-◌, ◌*◌, ◌/◌}
use lib.Bits.{bit_or}
use Rattle.wire.specs.Word.{Bytes}
use Rattle.glance.specs.Look.{size}
use Rattle.glance.proofs.Laws.{low-left, low-right, of_low, three_cover}
use Rattle.glance.proofs.few.Goals as goal

pub returns : goal.returns
returns c =
    λ h limit.
    let a = c.args in
    let b : Bytes a.s.now = record { below = λ i. (c.type_inv.s i).fits } in
    let u = c.word_less-a in
    let v = c.word_less-b in
    let w = c.word_less-c in
    let l = c.low.ensures h in
    let l₂ = low-left a.old (bit_or u.result v.result) w.result l in
    let x = rw u.ensures at (low-left a.old u.result v.result l₂) in
    let y = rw (v.ensures, c.place.ensures) at (low-right a.old u.result v.result l₂) in
    let z = rw (w.ensures, c.place-2.ensures) at (low-right a.old (bit_or u.result v.result) w.result l) in
    three_cover a.old a.s.now limit a.at a.count c.requires.1 c.requires.2 (of_low a.s.now a.at b a.old x limit)
    (of_low a.s.now (a.at + size a.old * (a.count / 2)) b a.old y limit) (of_low a.s.now (a.at + size a.old * (a.count - 1)) b a.old z limit)
