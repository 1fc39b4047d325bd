use Rattle.std.proofs.Common.{refl, sym, ◌∙◌, arith}
use Rattle.sorted_pairs.proofs.Halving.{placed-none}
use Rattle.sorted_pairs.proofs.place_of.Goals as goal
use Rattle.sorted_pairs.proofs.place_of.Goals.{else-i-n-via-then-i-n+else-is_at-3, else-i-n-via-else-i-n}

pub returns-else-i-n : goal.returns-else-i-n
returns-else-i-n c =
    placed-none _ _ _ _ _ c.requires.1 c.lower-i.ensures
    (elim c.else-i-n.branch [
      | else-i-n-via-then-i-n+else-is_at-3 w ↦ λ m. sym w.is_at-then-i-n.ensures ∙ w.if-is_at-3.false
      | else-i-n-via-else-i-n w ↦ λ m. absurd (omega arith)
    ])
    _ refl
