use mathlib.Core.Path.{◌≡◌, ap, ◌∙◌}
use native.Mathlib.Omega.{arith}
use Rattle.relocate.specs.Code.{record_of, pool_of, count_of}
use Rattle.relocate.proofs.Records.{pair_inside}
use Rattle.relocate_pairs.proofs.Forms.{pair-from}
use Rattle.relocate_pairs.proofs.Counting.{seek_start, seek_hit, seek_on, seek_end}
use Rattle.relocate_pairs.proofs.pairs.pair_of.Goals as goal

pub loop-p-init : goal.loop-p-init
loop-p-init c = λ f. seek_start _ _ _ _ _

pub overflow_mul-p : goal.overflow_mul-p
overflow_mul-p c = omega (arith, pair_inside c.requires c.loop-p.p (omega arith))

pub overflow_add-start : goal.overflow_add-start
overflow_add-start c = omega (arith, pair_inside c.requires c.loop-p.p (omega arith))

pub pointers_of-n-requires : goal.pointers_of-n-requires
pointers_of-n-requires c = (c.requires.stands, omega (arith, c.requires.room))

pub returns-then-left-n : goal.returns-then-left-n
returns-then-left-n c =
    let e = pair-from (record_of c.args.s.now c.args.at) c.args.start c.loop-p.p c.requires.starts in
    λ f. seek_hit _ _ _ _ _ _ _ _ (c.loop-p.invariant f) (omega (arith, c.requires.counted)) (c.pointers_of-n.ensures.0 ∙ ap (count_of c.args.old (pool_of c.args.s.now)) e) (omega arith)

pub loop-p-preserved : goal.loop-p-preserved
loop-p-preserved c =
    let e = pair-from (record_of c.args.s.now c.args.at) c.args.start c.loop-p.p c.requires.starts in
    λ f. seek_on _ _ _ _ _ _ _ _ (c.loop-p.invariant f) (omega (arith, c.requires.counted)) (c.pointers_of-n.ensures.0 ∙ ap (count_of c.args.old (pool_of c.args.s.now)) e) (omega arith)

pub returns : goal.returns
returns c =
    let l = c.loop-p in
    let e : l.p ≡ c.args.count = omega arith in
    λ f. seek_end _ _ _ _ _ _ _ (rw e at (l.invariant f)) (omega (arith, c.requires.counted))
