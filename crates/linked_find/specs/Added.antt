-- For the code alone: nothing here has to be believed.
-- The question by address, one map after the other.
use Rattle.std.specs.Prelude.{ℕ, suc, ◌+◌, Bool, cond, List, [], ◌∷◌, eqb}
use Rattle.stackmap.specs.Section.{is_old, entries}
use Rattle.stackmap.proofs.OneWalk.{fold}
use Rattle.questions.specs.declared.Hits.{Hits}
use Rattle.questions.specs.Kept.{no_hits, noted}
use Rattle.linked.specs.declared.FoundIn.{FoundIn}
use Rattle.linked.specs.Linked.{Map}
use Rattle.linked.specs.Find.{not_found_in}

-- a record is found: its map, its number, its function, how many share the address, its first byte
abbrev pub found_in : ℕ → ℕ → ℕ → ℕ → ℕ → FoundIn
found_in m x g n p = record { number = 0; place = 0; map = m; index = x; function = g; sharing = n; first = p }

-- The answer f over some maps, and one more: of version 1 or not, number i, at `at`, with the hits h. The first map of version 1 decides;
-- else the first one that has a record with the address, and those of the others are counted.
unfoldable pub added : Bool → ℕ → ℕ → Hits → FoundIn → FoundIn
added old i at h f =
    cond (eqb f.number 27) f
    (cond old (not_found_in 27 at)
    (cond (eqb h.sharing 0) f
    (cond (eqb f.sharing 0) (found_in i h.index h.function h.sharing (at + h.first))
    (found_in f.map f.index f.function (f.sharing + h.sharing) f.first))))

-- all maps, from number i on
unfoldable pub added_all : ℕ → ℕ → FoundIn → List Map → FoundIn
added_all a i f [] = f
added_all a i f (m ∷ ms) =
    added_all a (suc i) (added (is_old m.content) i m.first (fold (noted a) (entries m.content) no_hits) f) ms
