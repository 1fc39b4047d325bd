use Prim.Native.Nat.{◌+◌}
use Rattle.stackmap.specs.Section.{read_location}
use Rattle.stackmap.proofs.Items.{byte_word}
use Rattle.questions_content.proofs.location_fields.Goals as goal

-- The four numbers, where the version has them.

pub returns-then-old : goal.returns-then-old
unfolding read_location
returns-then-old c =
    let q = c.args in
    let old = c.if-old.true in
    rw (old, byte_word q.s.now q.at, byte_word q.s.now (q.at + 1), c.u32_at.ensures, c.u16_at.ensures, c.from.ensures)

pub returns : goal.returns
unfolding read_location
returns c = rw (c.if-old.false, byte_word, c.u32_at-2.ensures, c.u16_at-3.ensures, c.u16_at-2.ensures)
