use Rattle.relocate.proofs.Records.{header_there}
use Rattle.relocate_glance.proofs.plain.Goals as goal

pub is_old-requires : goal.is_old-requires
is_old-requires c = header_there _ _ c.requires.0

pub are_slots-requires : goal.are_slots-requires
are_slots-requires c = (c.requires.0, cc, c.requires.1)
