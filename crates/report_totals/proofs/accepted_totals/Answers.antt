use Rattle.report_totals.proofs.Whole.{accepted-are}
use Rattle.report_totals.proofs.accepted_totals.Goals as goal

pub returns : goal.returns
returns c = let a = c.args in accepted-are a.functions a.stacks.known a.stacks.unknown a.counts
