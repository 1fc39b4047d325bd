use Rattle.stackmap.proofs.Passed.{passed}
use mathlib.Core.Path.{ap}
use Rattle.stackmap.specs.Verdict.{Valid, verdict}
use mathlib.Core.Path.{◌≡◌, sym, ◌∙◌}
use native.Mathlib.Omega.{arith}
use Rattle.thread_marks.proofs.Marks.{counted-more}
use Rattle.thread_search.proofs.Walked.{section_stop, section-end, sought, never_valid}
use Rattle.thread_search.proofs.search.find_all.Goals as goal

pub scan_all-requires : goal.scan_all-requires
scan_all-requires c = (c.requires.0, c.requires.1, counted-more _ _ _ (omega arith) c.requires.3, omega arith)

pub returns-in_err-end : goal.returns-in_err-end
returns-in_err-end c = rw (passed _ _ c.from_residual.ensures.1) (section_stop _ _ _ (sym c.scan_all.ensures.0 ∙ ap verdict c.in_err-end.was), λ e z. never_valid z)

pub returns : goal.returns
returns c =
    let a = c.scan_all.ensures in
    let v = ap verdict c.in_ok-end.was in (
      section-end _ _ (verdict c.ended.result) (sym a.0 ∙ v) c.ended.ensures.0 c.ended.ensures.1,
      λ e z. sought _ _ _ _ _ c.requires.2 (a.1.noted_all _ v),
    )
