use native.Mathlib.Omega.{arith}
use Rattle.linked_search.proofs.Table.{site_stored}
use Rattle.linked_search.proofs.put_site.Goals as goal

pub returns : goal.returns
returns c = site_stored c.args.sites.now c.args.i c.args.first c.args.size (omega arith)
