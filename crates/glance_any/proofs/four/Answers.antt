use Rattle.wire.specs.Word.{Bytes}
use Rattle.glance.proofs.Laws.{low_four}
use Rattle.glance_any.proofs.four.Goals as goal

pub returns : goal.returns
returns c =
    λ h limit.
    let a = c.args in
    let b : Bytes a.s.now = record { below = λ i. (c.type_inv.s i).fits } in
    let e =
    rw (
      c.word_less-a.ensures,
      c.word_less-b.ensures,
      c.word_less-c.ensures,
      c.word_less-d.ensures,
      c.place.ensures,
      c.place-2.ensures,
      c.place-3.ensures,
    ) at h in
    low_four a.old a.s.now a.at b e limit
