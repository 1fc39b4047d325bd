use Rattle.stackmap.specs.Section.{constant_fields}
use Rattle.listing.specs.Listing.{listed_constant}
use Rattle.builder_items.proofs.Puts.{all_fields}
use Rattle.builder_items.proofs.runs.constants.Goals as goal

pub returns : goal.returns
returns c = rw (← all_fields constant_fields listed_constant) c.items.ensures
