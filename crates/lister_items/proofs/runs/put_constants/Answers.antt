use Rattle.stackmap.specs.Section.{read_constant}
use Rattle.listing.specs.Listing.{constant_item}
use Rattle.lister_items.proofs.Puts.{all_fields}
use Rattle.lister_items.proofs.runs.put_constants.Goals as goal

pub returns : goal.returns
returns c = rw (← all_fields constant_item read_constant) c.put_items.ensures
