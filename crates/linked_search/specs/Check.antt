-- The verdict on a linked section: the refusal of its maps, or 27 at the first byte of a map of version 1.
use Rattle.std.specs.Prelude.{ℕ, List, length}
use Rattle.stackmap.specs.Verdict.{Verdict}
use Rattle.stackmap.specs.Verdict.{Valid, Refused}
use Rattle.linked.specs.Linked.{cut, ask_maps}
use Rattle.linked.specs.Find.{none_old}

unfoldable pub linked_check : List ℕ → Verdict
linked_check s = ask_maps Refused (λ ms. none_old Refused ms (Valid (length s))) (cut s)
