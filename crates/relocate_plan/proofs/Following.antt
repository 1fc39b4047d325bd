-- What the code answers and leaves is what the plan gives: the refusals of pairs, and the move of a window.
use Prim.Native.Nat.{ℕ, suc, ◌+◌, ◌-◌, ◌^◌, ◌≤◌, ◌<◌}
use mathlib.Core.Path.{◌≡◌, refl, sym, ap, ◌∙◌}
use mathlib.Core.Bool.{Bool, true, false, not, cond, ◌&&◌}
use mathlib.Core.Option.{Option}
use mathlib.Core.List.{List, [], ◌∷◌, flatten}
use native.Mathlib.Omega.{arith}
use native.Mathlib.Nat.{zero-add}
use borrow.Author.Tests.{leb-true, lt-ltb, le-ltb, not-false}
use lib.Dec.{eqb, leb, ltb}
use lib.ListN.{length, get_or}
use Rattle.stackmap.specs.Section.{Record, is_old}
use Rattle.stackmap.proofs.Tests.{and_true}
use Rattle.moves.specs.declared.Move.{Move}
use Rattle.moves.specs.Search.{lowest_from, lowest}
use Rattle.moves.specs.Slots.{State, state}
use Rattle.moves.specs.Pointers.{Pointer}
use Rattle.moves.specs.Plan.{Plan, refuse, window, at_pair}
use Rattle.moves.specs.Window.{part, splice}
use Rattle.moves.specs.Settle.{refused_move, settled}
use Rattle.moves.specs.Code.{settle_if, SettlesIn, Follows}
use Rattle.moves.proofs.Searches.{lowest-all}
use Rattle.moves.proofs.Splice.{splice_if, registers_if_lem}
use Rattle.relocate.specs.declared.Cursor.{Cursor}
use Rattle.relocate.specs.Restore.{Restore}
use Rattle.relocate.specs.Statepoint.{Pair, pairs, inside}
use Rattle.relocate.specs.Plan.{every, extent_right}
use Rattle.relocate.specs.Code.{pool_of, plan_slots, pair_number, pointers_by}
use Rattle.relocate.proofs.Pairing.{no_pair, pair-at}
use Rattle.relocate.proofs.Planned.{every_yes, every_no}

-- Every pair passes, or the lowest that does not is refused.

abbrev verdict : ℕ → ℕ → ℕ → Plan → Plan
verdict n j end k = cond (ltb j end) (refuse n j) k

every-from : (good : Pair → Bool) (n : ℕ) (ps : List Pair) (i : ℕ) (k : Plan) (f : ℕ → Bool)
    → ((q : ℕ) → q < length ps → f (i + q) ≡ not (good (get_or ps q no_pair)))
    → every good n i ps k ≡ verdict n (lowest_from f (length ps) i) (i + length ps) k
every-from good n [] i k f h = unfold every in rw (le-ltb i (i + 0) (omega arith))
every-from good n (p ∷ ps) i k f h = go (every-from good n ps (suc i) k f) (good p) refl
  where
    here : f i ≡ not (good p)
    here = ap f (omega arith) ∙ h 0 (omega arith)

    go : (((q : ℕ) → q < length ps → f (suc i + q) ≡ not (good (get_or ps q no_pair)))
        → every good n (suc i) ps k ≡ verdict n (lowest_from f (length ps) (suc i)) (suc i + length ps) k)
        → (b : Bool) → good p ≡ b → every good n i (p ∷ ps) k ≡ verdict n (lowest_from f (suc (length ps)) i) (i + suc (length ps)) k
    go rest true e =
        let z : f i ≡ false = here ∙ ap not e in
        let w : i + suc (length ps) ≡ suc i + length ps = omega arith in
        every_yes good n i p ps k e ∙ rw (z, w) (rest (λ q l. ap f (omega arith) ∙ h (suc q) (omega arith)))
    go rest false e =
        let z : f i ≡ true = here ∙ ap not e in
        every_no good n i p ps k e ∙ rw (z, lt-ltb i (i + suc (length ps)) (omega arith))

module _ (good : Pair → Bool) (n : ℕ) (r : Record) (k : Plan) (count j : ℕ) (c : count ≡ length (pairs r))
    (e : j ≡ lowest (λ p. not (good (pair_number r p))) count) where
  all : every good n 0 (pairs r) k ≡ verdict n j count k
  unfolding lowest
  all =
      every-from good n (pairs r) 0 k (λ p. not (good (pair_number r p)))
      (λ q l. ap (λ (p : Pair). not (good p)) (let z : 0 + q ≡ q = omega arith in rw z (sym (pair-at r q l))))
      ∙ rw (e, c, zero-add)

  pub every-refused : j < count → every good n 0 (pairs r) k ≡ refuse n j
  every-refused h = all ∙ rw (lt-ltb j count h)

  pub every-passed : count ≤ j → every good n 0 (pairs r) k ≡ k
  every-passed h = all ∙ rw (le-ltb j count h)

pub each-passed : (good : Pair → Bool) (r : Record) (count j : ℕ) → j ≡ lowest (λ p. not (good (pair_number r p))) count → count ≤ j
    → (p : ℕ) → p < count → good (pair_number r p) ≡ true
each-passed good r count j e h p l =
    not-false (good (pair_number r p)) (lowest-all (λ q. not (good (pair_number r q))) count (rw e at h) p l)

-- A window's answer, with the pair for the pointer, follows the plan.
pub follows_pairs : (table : ℕ → Option ℕ) (write : Bool) (m r : Move) (im after rs rs' : List ℕ) (off n : ℕ) (ps : List Pointer) (pss : List (List Pointer))
    → ps ≡ flatten pss → r ≡ at_pair pss m → SettlesIn table write m im after rs rs' off n ps
    → Follows write r after rs' table im rs (window off n pss)
follows_pairs table write m r im after rs rs' off n ps pss e a h =
    record {
      answer = a ∙ ap (at_pair pss) h.answer ∙ ap (λ (qs : List Pointer). at_pair pss (settled table qs w)) e;
      left = h.left ∙ ap (λ (qs : List Pointer). splice im off n (settle_if table write qs w).window) e ∙ splice_if write table im rs off n pss;
      registers_left = h.registers_left ∙ ap (λ (qs : List Pointer). (settle_if table write qs w).registers) e ∙ registers_if_lem write table im rs off n pss;
    }
  where
    w : State
    w = state (part im off n) rs

-- a refusal follows a plan that is one
pub refuses : (write : Bool) (r : Move) (table : ℕ → Option ℕ) (im rs : List ℕ) (p : Plan) (n i : ℕ) → r ≡ refused_move n i → p ≡ refuse n i
    → Follows write r im rs table im rs p
refuses true r table im rs p n i h e = rw (h, e) (record { answer = refl; left = refl; registers_left = refl })
refuses false r table im rs p n i h e = rw (h, e) (record { answer = refl; left = refl; registers_left = refl })

-- an extent that is right is inside the image
module _ (first n rsp size : ℕ) where
  pub extent_tells : extent_right first n rsp size ≡ true → (first ≤ rsp) × (rsp + size ≤ first + n)
  unfolding extent_right
  extent_tells h =
      let a = and_true (not (eqb size (2 ^ 64 - 1))) (leb first rsp && leb (rsp + size) (first + n)) h in
      let b = and_true (leb first rsp) (leb (rsp + size) (first + n)) a.1 in
      (leb-true _ _ b.0, leb-true _ _ b.1)

-- 19

module _ (R : Restore) (f : Cursor) (size : ℕ) (r : Record) (count : ℕ) (c : count ≡ length (pairs r)) (old : Bool) (is : old ≡ is_old R.section) where
  abbrev pool : List ℕ
  pool = pool_of R.section

  module _ (out : ℕ) (o : out ≡ lowest (λ p. not (inside old pool f size (pair_number r p))) count) where
    pub slots_19 : out < count → plan_slots R f size (pairs r) ≡ refuse 19 out
    unfolding plan_slots
    slots_19 h = rw (← is) (every-refused (inside old pool f size) 19 r _ count out c o h)

    pub slots_on : count ≤ out → (off : ℕ) → off ≡ f.sp - R.first → plan_slots R f size (pairs r) ≡ window off (off + size - off) (pointers_by old pool f r)
    unfolding plan_slots
    slots_on h off e =
        let z : off + size - off ≡ size = omega arith in
        rw (← is) (every-passed (inside old pool f size) 19 r _ count out c o h ∙ rw (z, e))
