use Rattle.stackmap.specs.Section.{location_fields}
use Rattle.listing.specs.Listing.{listed_location}
use Rattle.builder_items.proofs.Puts.{all_fields}
use Rattle.builder_items.proofs.runs.locations.Goals as goal

pub returns : goal.returns
returns c = rw (← all_fields (location_fields c.args.old) listed_location) c.items.ensures
