use native.Mathlib.Omega.{arith}
use Rattle.stackmap.proofs.Numbers.{signed_offsets}
use Rattle.treskibben_answers.proofs.location_answer.Goals as goal

pub returns : goal.returns
returns c = rw (signed_offsets.one_number c.args.l.offset (omega arith), c.content_number.ensures)
