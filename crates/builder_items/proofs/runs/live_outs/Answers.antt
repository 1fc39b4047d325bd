use Rattle.stackmap.specs.Section.{live_out_fields}
use Rattle.listing.specs.Listing.{listed_live_out}
use Rattle.builder_items.proofs.Puts.{all_fields}
use Rattle.builder_items.proofs.runs.live_outs.Goals as goal

pub returns : goal.returns
returns c = rw (← all_fields live_out_fields listed_live_out) c.items.ensures
