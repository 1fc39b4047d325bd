use Rattle.stackmap.proofs.Steps.{times_most}
use borrow.Author.Rules.{rules}
use Rattle.parser_items.proofs.shape.record_size.Goals as goal

pub overflow_mul-pad : goal.overflow_mul-pad
overflow_mul-pad c = let h = times_most _ 12 c.args.shape.locations c.location_size.ensures.1 in search rules

pub overflow_add-pad : goal.overflow_add-pad
overflow_add-pad c = let h = times_most _ 12 c.args.shape.locations c.location_size.ensures.1 in search rules

pub overflow_add-end : goal.overflow_add-end
overflow_add-end c = let h = times_most _ 12 c.args.shape.locations c.location_size.ensures.1 in search rules

pub overflow_add-result : goal.overflow_add-result
overflow_add-result c = let h = times_most _ 12 c.args.shape.locations c.location_size.ensures.1 in search rules

pub overflow_add-result-2 : goal.overflow_add-result-2
overflow_add-result-2 c = let h = times_most _ 12 c.args.shape.locations c.location_size.ensures.1 in search rules

pub overflow_add-result-4 : goal.overflow_add-result-4
overflow_add-result-4 c = let h = times_most _ 12 c.args.shape.locations c.location_size.ensures.1 in search rules

pub returns : goal.returns
returns c = rw (c.location_size.ensures.0, c.locations_padding.ensures.0)
