use Rattle.lister_items.proofs.Loops.{Running}
use Rattle.lister_items.proofs.runs.put_items.Given as goal

-- What is left to be written gives what the whole gives.
abbrev pub invariant-loop-i : goal.invariant-loop-i
invariant-loop-i g l =
    Running (g.T.Item.fields l.item) (g.T.Item.section_size l.item) g.T.Item.listing_size l.s l.at l.count l.initial.out l.to l.out l.i l.next
