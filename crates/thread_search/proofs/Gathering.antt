-- The addresses are copied and put in order.
use Prim.Native.Nat.{ℕ, ◌+◌, ◌*◌, ◌<◌}
use mathlib.Core.Path.{◌≡◌, ◌∙◌}
use mathlib.Core.List.{List}
use native.Mathlib.Omega.{arith}
use native.Mathlib.Decide.{dec_lt}
use lib.ListN.{length, get_or, set}
use lib.Seq.{get_or-set_same, get_or-set_other}
use Rattle.sorted.specs.Sorted.{Sorted}
use Rattle.sorted_numbers.specs.Numbers.{Rearranged}
use Rattle.thread.specs.Code.{Gathered}

-- the first k are copied
pub record Copied (ns keys : List ℕ) (k : ℕ) : Type 0 where
  pub at : (j : ℕ) → j < k → get_or keys j 0 ≡ get_or ns (2 * j) 0

pub copied_start : (ns keys : List ℕ) → Copied ns keys 0
copied_start ns keys = record { at = λ j l. absurd (omega arith) }

pub copied_on : {ns keys : List ℕ} {k : ℕ} (v : ℕ) → Copied ns keys k → k < length keys → v ≡ get_or ns (2 * k) 0 → Copied ns (set keys k v) (k + 1)
copied_on {ns} {keys} {k} v c l e = record { at = λ j m. go j m (dec_lt j k) }
  where
    go : (j : ℕ) → j < k + 1 → Dec (j < k) → get_or (set keys k v) j 0 ≡ get_or ns (2 * j) 0
    go j m (yes d) = get_or-set_other keys k j v 0 (λ z. omega arith) ∙ c.at j d
    go j m (no d) =
        let z : j ≡ k = omega arith in
        rw z (get_or-set_same keys k v 0 l ∙ e)

-- copied and put in order
pub gathered : (ns before after : List ℕ) (n : ℕ) → ((j : ℕ) → j < n → get_or before j 0 ≡ get_or ns (2 * j) 0) → Rearranged before after n → Sorted after n
    → Gathered ns after n
gathered ns before after n c r s =
    record { sorted = s; each = λ k l. record { place = r.place k; inside = r.inside k l; same = r.same k l ∙ c k l } }
