use Rattle.builder_items.proofs.Puts.{zeros-put}
use Rattle.builder_items.proofs.item.zeros.Goals as goal

pub returns : goal.returns
returns c = zeros-put c.args.to c.args.n c.args.out.now _ c.requires (c.fill.ensures.after (λ y e. e))
