use Rattle.relocate.proofs.Records.{location_there}
use Rattle.relocate_pairs.proofs.reader.location.Goals as goal

pub returns : goal.returns
returns c = rw (c.location_in.ensures, location_there c.args.s.now c.args.at c.args.number c.requires.1)
