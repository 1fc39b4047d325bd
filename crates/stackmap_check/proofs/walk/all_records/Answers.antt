use Rattle.std.proofs.Common.{sym, ap, ◌∙◌, arith}
use Rattle.std.specs.Prelude.{◌≡◌, ◌-◌}
use Rattle.stackmap.specs.Section.{num_records}
use Rattle.stackmap.specs.Verdict.{verdict, bind}
use Rattle.stackmap.proofs.Passed.{passed}
use Rattle.stackmap.proofs.Steps.{fewer}
use Rattle.stackmap.proofs.Turns.{walk_start, walk_here, walk_on, walk_end}
use Rattle.stackmap_check.proofs.walk.all_records.Goals as goal

pub u32_at-constants-requires : goal.u32_at-constants-requires
u32_at-constants-requires c = let w = c.requires.0.inside in omega arith

pub u32_at-count-requires : goal.u32_at-count-requires
u32_at-count-requires c = let w = c.requires.0.inside in omega arith

pub is_old-old-requires : goal.is_old-old-requires
is_old-old-requires c = let w = c.requires.0.inside in omega arith

pub start-turn-requires : goal.start-turn-requires
start-turn-requires c = (c.is_old-old.ensures, c.requires.0)

pub loop-passed-init : goal.loop-passed-init
loop-passed-init c =
    let all : num_records c.args.s.now - 0 ≡ num_records c.args.s.now = omega arith in
    rw (c.u32_at-count.ensures, all) (walk_start c.requires.0 c.requires.1 c.start-turn.ensures)

pub owner-t-requires : goal.owner-t-requires
owner-t-requires c =
    let w = c.loop-passed.invariant in
    let n = w.counted in
    (c.requires.0.inside, w.turning, omega arith)

pub one_record-requires : goal.one_record-requires
one_record-requires c =
    let m = c.owner-t.ensures.3 in
    (c.is_old-old.ensures, c.requires.0.inside, λ v. let h = m v in omega arith, c.loop-passed.invariant.inside)

pub returns-in_err-p : goal.returns-in_err-p
unfolding bind
returns-in_err-p c =
    rw (
      ← c.u32_at-constants.ensures,
      walk_here c.owner-t.result.next c.owner-t.result.left c.loop-passed.invariant c.owner-t.ensures.0 c.owner-t.ensures.1,
      ← c.one_record.ensures,
      c.in_err-p.was,
      passed _ _ c.from_residual.ensures.1,
    )

pub loop-passed-preserved : goal.loop-passed-preserved
loop-passed-preserved c =
    rw (← fewer) (walk_on c.owner-t.result.next c.owner-t.result.left c.loop-passed.invariant c.owner-t.ensures.0 c.owner-t.ensures.1
    c.owner-t.ensures.2 c.owner-t.ensures.3 (sym c.one_record.ensures ∙ ap verdict c.in_ok-p.was))

pub returns : goal.returns
returns c = sym (rw (← c.u32_at-constants.ensures) (walk_end c.loop-passed.invariant (omega arith)))
