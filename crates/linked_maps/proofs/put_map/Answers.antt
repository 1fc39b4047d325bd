use mathlib.Core.Path.{refl}
use Rattle.linked_maps.proofs.put_map.Goals as goal

-- The first byte, and then the length.
pub returns : goal.returns
returns c = refl
