use mathlib.Core.Path.{◌≡◌, sym, ap, ◌∙◌}
use native.Mathlib.Omega.{arith}
use Rattle.wire.specs.Word.{Bytes}
use Rattle.relocate.specs.Code.{record_of, pool_of, count_of}
use Rattle.relocate.proofs.Records.{pair_inside}
use Rattle.relocate_pairs.proofs.Forms.{look-start, look_on, look_hit, look-end, pair-from}
use Rattle.relocate_pairs.proofs.Counting.{locations-most, count-start, count_on, count-end}
use Rattle.relocate_pairs.proofs.pairs.check_forms.Goals as goal

pub loop-p-init : goal.loop-p-init
loop-p-init c = (look-start _ _ _, count-start _ _)

pub overflow_mul-p : goal.overflow_mul-p
overflow_mul-p c = omega (arith, pair_inside c.requires c.loop-p.p (omega arith))

pub overflow_add-start : goal.overflow_add-start
overflow_add-start c = omega (arith, pair_inside c.requires c.loop-p.p (omega arith))

pub form_of-requires : goal.form_of-requires
form_of-requires c = (c.requires.stands, omega (arith, c.requires.room))

pub overflow_add-pointers : goal.overflow_add-pointers
overflow_add-pointers c =
    let w : Bytes c.args.s.now = record { below = λ i. omega (arith, c.type_inv.s i) } in
    omega (arith, c.in-Some.ensures.counted.1, c.loop-p.invariant.1.few, c.requires.room, locations-most c.args.s.now c.args.at w)

pub returns-in_default : goal.returns-in_default
returns-in_default c = (look_hit c.loop-p.invariant.0 c.requires.starts (omega arith) (sym c.in_default.ensures.right), λ h. absurd (omega arith))

pub loop-p-preserved : goal.loop-p-preserved
loop-p-preserved c =
    let e = pair-from (record_of c.args.s.now c.args.at) c.args.start c.loop-p.p c.requires.starts in
    let k = c.in-Some.ensures in (
      look_on c.loop-p.invariant.0 c.requires.starts (omega arith) (sym k.right),
      count_on _ _ _ _ _ c.loop-p.invariant.1 (omega (arith, c.requires.counted)) (k.counted.0 ∙ ap (count_of c.args.old (pool_of c.args.s.now)) e) k.counted.1,
    )

pub returns : goal.returns
returns c =
    let l = c.loop-p in
    let e : l.p ≡ c.args.count = omega arith in
    (rw e at (look-end l.invariant.0 (omega arith)), λ h. count-end _ _ _ _ l.invariant.1 (omega (arith, c.requires.counted)))
