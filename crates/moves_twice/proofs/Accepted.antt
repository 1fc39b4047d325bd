-- A move is accepted exactly if no two of its pointers clash and none has an unknown base.
use Prim.Native.Nat.{ℕ, suc, ◌≤◌}
use mathlib.Core.Path.{◌≡◌}
use mathlib.Core.Bool.{false}
use mathlib.Core.Option.{Option}
use mathlib.Core.List.{List, Memᴰ}
use native.Mathlib.Omega.{arith}
use borrow.Author.Tests.{le-ltb}
use lib.ListN.{length, get_or}
use Rattle.moves.specs.Slots.{State}
use Rattle.moves.specs.Pointers.{Pointer, null, clash, unknown}
use Rattle.moves.specs.Settle.{first20, first21, at_lowest, settled}
use Rattle.moves.proofs.Searches.{Fine, fine_lowest, no_any, index_mem, pairwise_no, each_no}
use Rattle.moves.proofs.Order.{clash_sym, passed}

pub record Accepted (table : ℕ → Option ℕ) (ps : List Pointer) (w : State) : Type 0 where
  pub apart : (p q : Pointer) → Memᴰ p ps → Memᴰ q ps → clash w p q ≡ false
  pub known : (p : Pointer) → Memᴰ p ps → unknown table w p ≡ false

module _ (table : ℕ → Option ℕ) (ps : List Pointer) (w : State) where
  pub accepted_tells : (settled table ps w).number ≡ 0 → Accepted table ps w
  unfolding first20 first21
  accepted_tells e =
      let o = passed table ps w e in
      record { apart = pairwise_no null (clash w) (clash_sym w) ps o.0; known = each_no null (unknown table w) ps o.1 }

  none-clash : Accepted table ps w → length ps ≤ first20 ps w
  unfolding first20 Fine
  none-clash a =
      fine_lowest _ (length ps)
      (λ k h. no_any _ (suc k)
      (λ q l. a.apart (get_or ps k null) (get_or ps q null) (index_mem null ps k h) (index_mem null ps q (omega arith))))

  none-unknown : Accepted table ps w → length ps ≤ first21 table ps w
  unfolding first21 Fine
  none-unknown a = fine_lowest _ (length ps) (λ k h. a.known (get_or ps k null) (index_mem null ps k h))

  pub accepted_when : Accepted table ps w → (settled table ps w).number ≡ 0
  unfolding settled at_lowest
  accepted_when a = rw (le-ltb _ _ (none-clash a), le-ltb _ _ (none-unknown a))
