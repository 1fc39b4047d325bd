-- The addresses are copied and put in order.
use Prim.Native.Nat.{ℕ, ◌+◌, ◌*◌, ◌-◌, ◌≤◌, ◌<◌}
use mathlib.Core.Path.{◌≡◌, ◌∙◌}
use mathlib.Core.List.{List}
use native.Mathlib.Omega.{arith}
use native.Mathlib.Decide.{dec_lt}
use lib.ListN.{length, get_or, set}
use lib.Seq.{get_or-set_same, get_or-set_other}
use Rattle.wire.specs.Word.{word}
use Rattle.sorted.specs.Sorted.{Sorted, EntryOf}
use Rattle.sorted_numbers.specs.Numbers.{Rearranged}
use Rattle.replay.specs.Trace.{frame_at}
use Rattle.replay.specs.Code.{Gathered}

-- the first k are copied
pub record Copied (t : List ℕ) (i : ℕ) (keys : List ℕ) (k : ℕ) : Type 0 where
  pub each : (j : ℕ) → j < k → get_or keys j 0 ≡ (frame_at t (284 * (i + j))).address

module _ (t : List ℕ) (i : ℕ) where
  pub copied_start : (keys : List ℕ) → Copied t i keys 0
  copied_start keys = record { each = λ j l. absurd (omega arith) }

  pub copied_on : {keys : List ℕ} {k : ℕ} (v : ℕ) → Copied t i keys k → k < length keys → v ≡ word 8 t (284 * (i + k) + 2) → Copied t i (set keys k v) (k + 1)
  unfolding frame_at
  copied_on {keys} {k} v c l e = record { each = λ j m. go j m (dec_lt j k) }
    where
      go : (j : ℕ) → j < k + 1 → Dec (j < k) → get_or (set keys k v) j 0 ≡ (frame_at t (284 * (i + j))).address
      go j m (yes d) = get_or-set_other keys k j v 0 (λ z. omega arith) ∙ c.each j d
      go j m (no d) =
          let z : j ≡ k = omega arith in
          rw z (get_or-set_same keys k v 0 l ∙ e)

  pub gathered : (before after : List ℕ) (n : ℕ) → ((j : ℕ) → j < n → get_or before j 0 ≡ (frame_at t (284 * (i + j))).address) → Rearranged before after n → Sorted after n
      → Gathered t i after n
  gathered before after n c r s =
      record { sorted = s; each = λ k l. record { place = r.place k; inside = r.inside k l; same = r.same k l ∙ c k l } }

  -- the frame number k is among them
  pub gathered-at : (keys : List ℕ) (n k : ℕ) → Gathered t i keys n → i ≤ k → k < i + n → EntryOf keys n (frame_at t (284 * k)).address
  gathered-at keys n k g a b =
      let z : i + (k - i) ≡ k = omega arith in
      rw z at (g.each (k - i) (omega arith))
