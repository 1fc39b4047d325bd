use Rattle.builder_items.proofs.Puts.{Putting}
use Rattle.builder_items.proofs.runs.items.Given as goal

abbrev pub invariant-loop-i : goal.invariant-loop-i
invariant-loop-i g l =
    Putting (g.T.Item.fields l.item) g.T.Item.listing_size (g.T.Item.section_size l.item) l.l l.at l.n l.initial.out l.to l.out l.i
