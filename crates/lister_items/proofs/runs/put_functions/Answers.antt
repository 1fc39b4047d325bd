use Rattle.stackmap.specs.Section.{read_function}
use Rattle.listing.specs.Listing.{function_item}
use Rattle.lister_items.proofs.Puts.{all_fields}
use Rattle.lister_items.proofs.runs.put_functions.Goals as goal

pub returns : goal.returns
returns c = rw (← all_fields function_item (read_function c.args.old)) c.put_items.ensures
