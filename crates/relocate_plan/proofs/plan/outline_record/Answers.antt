use mathlib.Core.Path.{sym, ap, ◌∙◌}
use mathlib.Core.Bool.{not}
use native.Mathlib.Omega.{arith}
use Rattle.relocate.specs.Restore.{restore}
use Rattle.relocate.specs.Code.{limited, record_of}
use Rattle.relocate_plan.proofs.Following.{extent_tells}
use Rattle.relocate_plan.proofs.Stages.{refuses, outlined, image-most, few-old, record_12, record_16, record_17, record_on}
use Rattle.relocate_plan.proofs.plan.outline_record.Goals as goal

pub pairs_of-p-requires : goal.pairs_of-p-requires
pairs_of-p-requires c = (c.requires.0, sym c.is_statepoint.ensures ∙ c.if-not-is_statepoint.false)

pub is_old-old-requires : goal.is_old-old-requires
is_old-old-requires c = let t = c.requires.0.tables in omega arith

pub returns-then-too_many : goal.returns-then-too_many
returns-then-too_many c olds news =
    let a = c.args in
    let R = restore a.s.now olds news a.first (limited a.most) in
    refuses R a.frame _ _ a.long 17 0 (omega arith) c.refused-then-too_many.ensures
    (record_17 R a.long a.frame a.size (record_of a.s.now a.at) (sym c.is_statepoint.ensures ∙ c.if-not-is_statepoint.false) (sym c.extent_right.ensures ∙ c.if-not-extent_right.false) _ c.pairs_of-p.ensures.counted
    (rw c.is_old-old.ensures at (sym c.too_many.ensures ∙ ap not c.if-too_many.true)))

pub outline_pairs-requires : goal.outline_pairs-requires
outline_pairs-requires c = (c.pairs_of-p.ensures, c.is_old-old.ensures, few-old _ _ _ (sym c.too_many.ensures ∙ ap not c.if-too_many.false), c.requires.2)

pub returns : goal.returns
returns c olds news =
    let a = c.args in
    let R = restore a.s.now olds news a.first (limited a.most) in
    let x = sym c.extent_right.ensures ∙ c.if-not-extent_right.false in
    let t = extent_tells a.first a.long a.frame.sp a.size x in
    let m = image-most a.first a.long c.requires.1 in
    rw (record_on R a.long a.frame a.size (record_of a.s.now a.at) (sym c.is_statepoint.ensures ∙ c.if-not-is_statepoint.false) x _ c.pairs_of-p.ensures.counted)
    (outlined R a.frame _ _ a.long a.size x (omega arith) (c.outline_pairs.ensures olds news a.first))

pub returns-then-not-extent_right : goal.returns-then-not-extent_right
returns-then-not-extent_right c olds news =
    let a = c.args in
    let R = restore a.s.now olds news a.first (limited a.most) in
    refuses R a.frame _ _ a.long 16 0 (omega arith) c.refused-then-not-extent_right.ensures
    (record_16 R a.long a.frame a.size (record_of a.s.now a.at) (sym c.is_statepoint.ensures ∙ c.if-not-is_statepoint.false) (sym c.extent_right.ensures ∙ c.if-not-extent_right.true))

pub returns-then-not-is_statepoint : goal.returns-then-not-is_statepoint
returns-then-not-is_statepoint c olds news =
    let a = c.args in
    let R = restore a.s.now olds news a.first (limited a.most) in
    refuses R a.frame _ _ a.long 12 0 (omega arith) c.refused.ensures
    (record_12 R a.long a.frame a.size (record_of a.s.now a.at) (sym c.is_statepoint.ensures ∙ c.if-not-is_statepoint.true))
