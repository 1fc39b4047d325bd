use mathlib.Core.Path.{◌≡◌, ap, ◌∙◌}
use native.Mathlib.Omega.{arith}
use Rattle.stackmap.specs.Layout.{location_size}
use Rattle.stackmap.specs.Section.{is_old, record_length}
use Rattle.stackmap.proofs.Steps.{times_most}
use Rattle.questions.proofs.Content.{location_at_lem, location_past, location_inside}
use Rattle.questions_read.proofs.read.location_in.Goals as goal

-- The location stands after the record's head, one size for each before it.

pub u16_at-requires : goal.u16_at-requires
unfolding record_length
u16_at-requires c = let i = c.requires.1 in omega arith

pub returns-then-number-count : goal.returns-then-number-count
returns-then-number-count c =
    let q = c.args in
    rw (c.no_location.ensures, location_past (is_old q.s.now) q.s.now q.first _ (c.from-count.ensures ∙ c.u16_at.ensures) q.number c.if-number-count.true)

pub is_old-old-requires : goal.is_old-old-requires
is_old-old-requires c = let i = c.requires.0 in omega arith

pub overflow_mul-at : goal.overflow_mul-at
overflow_mul-at c =
    let a = c.args in
    let r = c.location_size.result in
    let z : r ≡ location_size (is_old a.s.now) = c.location_size.ensures.0 ∙ ap location_size c.is_old-old.ensures in
    let t = times_most r 12 a.number c.location_size.ensures.1 in omega arith

pub overflow_add-at-2 : goal.overflow_add-at-2
overflow_add-at-2 c =
    let a = c.args in
    let r = c.location_size.result in
    let z : r ≡ location_size (is_old a.s.now) = c.location_size.ensures.0 ∙ ap location_size c.is_old-old.ensures in
    let t = times_most r 12 a.number c.location_size.ensures.1 in omega arith

pub location_fields-l-requires : goal.location_fields-l-requires
location_fields-l-requires c =
    let a = c.args in
    let r = c.location_size.result in
    let z : r ≡ location_size (is_old a.s.now) = c.location_size.ensures.0 ∙ ap location_size c.is_old-old.ensures in
    rw (z, c.is_old-old.ensures) (location_inside (is_old a.s.now) a.s.now a.first _ (c.from-count.ensures ∙ c.u16_at.ensures) a.number (omega arith) c.requires.1)

pub returns : goal.returns
returns c =
    let a = c.args in
    let r = c.location_size.result in
    let z : r ≡ location_size (is_old a.s.now) = c.location_size.ensures.0 ∙ ap location_size c.is_old-old.ensures in
    rw (
      location_at_lem (is_old a.s.now) a.s.now a.first _ (c.from-count.ensures ∙ c.u16_at.ensures) a.number c.if-number-count.false,
      ← z,
      ← c.is_old-old.ensures,
      c.location_fields-l.ensures,
      c.constant.ensures c.location_fields-l.result.size c.location_fields-l.result.register,
      c.content_place.ensures,
    )
