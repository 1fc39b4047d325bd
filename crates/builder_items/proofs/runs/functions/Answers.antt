use Rattle.stackmap.specs.Section.{function_fields}
use Rattle.listing.specs.Listing.{listed_function}
use Rattle.builder_items.proofs.Puts.{all_fields}
use Rattle.builder_items.proofs.runs.functions.Goals as goal

pub returns : goal.returns
returns c = rw (← all_fields (function_fields c.args.old) listed_function) c.items.ensures
