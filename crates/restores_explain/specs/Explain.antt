-- Why a slot moves or does not, under the edition that the frame's move names.
use Rattle.std.specs.Prelude.{ℕ, List}
use Rattle.moves.specs.Slots.{Slot}
use Rattle.explain.specs.declared.Reason.{Reason}
use Rattle.explain.specs.declared.Reason.TheVariants.{Refused}
use Rattle.explain.specs.Explain.{explained}
use Rattle.restores.specs.Restores.{Request, by_edition}
use Rattle.restores.specs.Moves.{Numbered, stopped_of}

-- refused by 31, 1 to 9 or 33 as the move is; and else the reason that the restore with the edition's settings gives
abbrev pub explained_under : Request → List ℕ → Numbered → Slot → Reason
explained_under Q im g x = by_edition Q g.machine Refused (λ R. explained R im (stopped_of g) x)
