use Rattle.stackmap.specs.Section.{read_location}
use Rattle.listing.specs.Listing.{location_item}
use Rattle.lister_items.proofs.Puts.{all_fields}
use Rattle.lister_items.proofs.runs.put_locations.Goals as goal

pub returns : goal.returns
returns c = rw (← all_fields location_item (read_location c.args.old)) c.put_items.ensures
