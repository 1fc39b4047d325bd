use mathlib.Core.Path.{refl, sym, ◌∙◌}
use native.Mathlib.Omega.{arith}
use Rattle.relocate.specs.Restore.{restore}
use Rattle.relocate.specs.Statepoint.{right_form}
use Rattle.relocate.specs.Code.{limited, record_of, pool_of}
use Rattle.relocate_pairs.proofs.Counting.{pointers_length}
use Rattle.relocate_plan.proofs.Following.{each-passed}
use Rattle.relocate_plan.proofs.Stages.{refuses_pairs, pairs_18, pairs_17, pairs_on}
use Rattle.relocate_plan.proofs.plan.outline_pairs.Goals as goal

pub returns-then-wrong-count : goal.returns-then-wrong-count
returns-then-wrong-count c olds news first =
    let a = c.args in
    let R = restore a.s.now olds news first (limited a.most) in
    refuses_pairs R a.frame _ _ a.size 18 _ (omega arith) c.refused.ensures
    (pairs_18 R a.frame a.size (record_of a.s.now a.at) a.count c.requires.0.counted a.old c.requires.1 c.requires.2 _ c.check_forms-forms.ensures.0 c.if-wrong-count.true)

pub returns-then-pointers-most : goal.returns-then-pointers-most
returns-then-pointers-most c olds news first =
    let a = c.args in
    let R = restore a.s.now olds news first (limited a.most) in
    let h = c.if-wrong-count.false in
    refuses_pairs R a.frame _ _ a.size 17 0 (omega arith) c.refused-then-pointers-most.ensures
    (pairs_17 R a.frame a.size (record_of a.s.now a.at) a.count c.requires.0.counted a.old c.requires.1 c.requires.2 _ c.check_forms-forms.ensures.0 h _ (c.check_forms-forms.ensures.1 h ∙ sym (pointers_length a.old (pool_of a.s.now) a.frame (record_of a.s.now a.at))) c.if-pointers-most.true)

pub returns : goal.returns
returns c olds news first =
    let a = c.args in
    let R = restore a.s.now olds news first (limited a.most) in
    let h = c.if-wrong-count.false in
    let e = c.check_forms-forms.ensures.1 h ∙ sym (pointers_length a.old (pool_of a.s.now) a.frame (record_of a.s.now a.at)) in
    record {
      refused = λ z. absurd (z refl);
      formed = λ z. record {
        paired = c.requires.0;
        old_is = c.requires.1;
        forms = each-passed (right_form a.frame.machine a.old (pool_of a.s.now)) (record_of a.s.now a.at) a.count c.check_forms-forms.result.wrong c.check_forms-forms.ensures.0 h;
        counted = e;
        few = omega (arith, c.if-pointers-most.false, c.requires.3);
      };
      sized = λ z. refl;
      goes_on = λ z. pairs_on R a.frame a.size (record_of a.s.now a.at) a.count c.requires.0.counted a.old c.requires.1 c.requires.2 _ c.check_forms-forms.ensures.0 h _ e c.if-pointers-most.false;
    }
