use Rattle.listing.specs.Listing.{listed_function}
use Rattle.parser_fault.specs.Walk.{listed_owner}
use Rattle.parser_fault.proofs.owner_address.Goals as goal

pub returns-then-old : goal.returns-then-old
unfolding listed_owner
returns-then-old c = rw c.if-old.true

pub returns : goal.returns
unfolding listed_owner listed_function
returns c = rw (c.if-old.false, c.u64_at.ensures)
