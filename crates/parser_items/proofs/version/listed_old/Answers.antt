use Rattle.parser_items.proofs.Versions.{old_starts}
use Rattle.parser_items.proofs.version.listed_old.Goals as goal

pub returns : goal.returns
returns c = rw c.starts_with.ensures.value (old_starts _)
