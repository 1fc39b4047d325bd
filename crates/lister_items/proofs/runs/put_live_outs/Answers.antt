use Rattle.stackmap.specs.Section.{read_live_out}
use Rattle.listing.specs.Listing.{live_out_item}
use Rattle.lister_items.proofs.Puts.{all_fields}
use Rattle.lister_items.proofs.runs.put_live_outs.Goals as goal

pub returns : goal.returns
returns c = rw (← all_fields live_out_item read_live_out) c.put_items.ensures
