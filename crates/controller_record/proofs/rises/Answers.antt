use Rattle.controller_record.proofs.Keeping.{later_above}
use Rattle.controller_record.proofs.rises.Goals as goal

pub returns : goal.returns
returns c = later_above c.args.number c.args.last c.args.address c.if-number-eq0.false
