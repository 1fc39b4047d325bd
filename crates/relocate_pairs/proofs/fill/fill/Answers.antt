use mathlib.Core.Path.{◌≡◌, sym, ap, ◌∙◌}
use native.Mathlib.Omega.{arith}
use lib.ListN.{length}
use Rattle.relocate.specs.Statepoint.{pointers_of}
use Rattle.relocate.specs.Code.{record_of, pool_of, pair_number}
use Rattle.relocate.proofs.Records.{pair_inside}
use Rattle.relocate_pairs.proofs.Forms.{look-start, look_on, look_hit, look-end, pair-from}
use Rattle.relocate_pairs.proofs.Held.{held-length, held_none, placed-none}
use Rattle.relocate_pairs.proofs.Counting.{pair-length, fill_start, fill_long, fill_on, fill_end}
use Rattle.relocate_pairs.proofs.fill.fill.Goals as goal

pub loop-p-init : goal.loop-p-init
loop-p-init c = (look-start _ _ _, c.requires.0, rw (held_none c.args.live.now c.args.bases.now c.args.derived.now) (fill_start _ _ _ _), placed-none _ _ _ _)

pub overflow_mul-p : goal.overflow_mul-p
overflow_mul-p c = omega (arith, pair_inside c.requires.1 c.loop-p.p (omega arith))

pub overflow_add-start : goal.overflow_add-start
overflow_add-start c = omega (arith, pair_inside c.requires.1 c.loop-p.p (omega arith))

pub look-requires : goal.look-requires
look-requires c =
    let e = pair-from (record_of c.args.s.now c.args.at) c.args.start c.loop-p.p c.requires.1.starts in
    (c.requires.1.stands, omega (arith, c.requires.1.room), c.requires.2, rw e (c.requires.3 c.loop-p.p (omega arith)))

pub returns-in_default : goal.returns-in_default
returns-in_default c = (look_hit c.loop-p.invariant.0 c.requires.1.starts (omega arith) (sym c.in_default.ensures.all_inside), c.loop-p.invariant.1, λ h. absurd (omega arith), λ h. absurd (omega arith))

pub put-n-requires : goal.put-n-requires
put-n-requires c =
    let a = c.args in
    let r = record_of a.s.now a.at in
    let pool = pool_of a.s.now in
    let e = pair-from r a.start c.loop-p.p c.requires.1.starts in
    let k = c.in-Some.ensures.looked in
    let f = fill_long a.old pool a.frame r _ _ c.loop-p.invariant.2 (omega (arith, c.requires.1.counted)) in
    let g = ap length (k.pointers_are ∙ ap (pointers_of a.old pool a.frame) e) ∙ pair-length a.old pool a.frame (pair_number r c.loop-p.p) in
    let h = held-length c.loop-p.n c.loop-p.live c.loop-p.bases c.loop-p.derived in
    (c.loop-p.invariant.1, omega (arith, f, g, h, c.requires.4), c.requires.2, k.base_placed, k.derived_placed)

pub loop-p-preserved : goal.loop-p-preserved
loop-p-preserved c =
    let a = c.args in
    let r = record_of a.s.now a.at in
    let e = pair-from r a.start c.loop-p.p c.requires.1.starts in
    let k = c.in-Some.ensures in (
      look_on c.loop-p.invariant.0 c.requires.1.starts (omega arith) (sym k.all_inside),
      c.put-n.ensures.0,
      fill_on _ _ _ _ _ _ _ c.loop-p.invariant.2 (omega (arith, c.requires.1.counted)) (c.put-n.ensures.1 ∙ rw (k.looked.pointers_are, e)),
      c.put-n.ensures.2 c.loop-p.invariant.3,
    )

pub returns : goal.returns
returns c =
    let l = c.loop-p in
    let w = fill_end _ _ _ _ _ _ l.invariant.2 (omega (arith, c.requires.1.counted)) in
    let z = sym (ap length w) ∙ held-length l.n l.live l.bases l.derived in
    let e : l.p ≡ c.args.count = omega arith in
    (rw e at (look-end l.invariant.0 (omega arith)), l.invariant.1, λ h. rw z w, λ h. rw z l.invariant.3)
