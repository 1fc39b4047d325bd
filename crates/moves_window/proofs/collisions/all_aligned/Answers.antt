use borrow.Author.Tests.{eqb-true}
use Rattle.moves_window.proofs.Aligned.{none_overlaps}
use Rattle.moves_window.proofs.collisions.all_aligned.Goals as goal

pub returns : goal.returns
returns c = λ h. none_overlaps _ _ _ _ (eqb-true _ _ h)
