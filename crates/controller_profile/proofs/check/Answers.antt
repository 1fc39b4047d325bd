use mathlib.Core.Path.{ap}
use Rattle.stackmap.specs.Verdict.{verdict}
use mathlib.Core.Path.{sym, ◌∙◌}
use Rattle.stackmap.proofs.Passed.{passed}
use Rattle.stackmap.proofs.Forth.{accepted-length}
use Rattle.controller.proofs.Profiles.{profile_section}
use Rattle.controller_profile.proofs.check.Goals as goal

pub of_accepted-requires : goal.of_accepted-requires
of_accepted-requires c = let w = sym c.check.ensures ∙ ap verdict c.in_ok-check.was in rw (accepted-length _ _ w).0 at w

pub returns-in_err-check : goal.returns-in_err-check
returns-in_err-check c = rw (passed _ _ c.from_residual.ensures.1) (profile_section _ _ (sym c.check.ensures ∙ ap verdict c.in_err-check.was))
