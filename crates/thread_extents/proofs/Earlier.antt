-- Extents, each against those of the frames before it.
use Prim.Native.Nat.{ℕ, zero, suc, ◌+◌, ◌-◌, ◌≤◌, ◌<◌}
use mathlib.Core.Path.{◌≡◌, refl, sym, ◌∙◌}
use mathlib.Core.Bool.{true, false, cond, ◌||◌}
use mathlib.Core.List.{List, [], ◌∷◌, map}
use native.Mathlib.Omega.{arith}
use borrow.Author.Tests.{lt-ltb, le-ltb, ne_eqb}
use lib.Dec.{ltb}
use lib.ListN.{length}
use Rattle.wire.specs.Word.{Bytes}
use Rattle.stackmap.specs.Section.{num_functions, constants_at}
use Rattle.stackmap.specs.Walk.{function_number}
use Rattle.stackmap.specs.Check.{Accepted}
use Rattle.questions.specs.declared.Found.{Found}
use Rattle.questions.specs.Questions.{first_of}
use Rattle.moves.specs.declared.Move.{Move}
use Rattle.moves.specs.Settle.{refused_move}
use Rattle.relocate.specs.Stopped.{Stopped, cursor}
use Rattle.relocate.specs.Plan.{records_of, stack_size}
use Rattle.relocate.specs.Relocation.{Extent, extent_of}
use Rattle.relocate_frame.proofs.Asking.{functions_inside, owner-number, size_is}
use Rattle.thread.specs.Thread.{Thread, stopped_at, frames_from, share, shares_one, apart}
use Rattle.thread.specs.Code.{shares_any, Apart, Sited}
use Rattle.thread.proofs.StretchesApart.{share_empty_2, apart_none, none_shares}
use Rattle.thread.proofs.Frames.{frames_step, frames-end, frames-start}
use Rattle.thread_stretches.specs.Listed.{AllApart}

-- One frame's extent.

module _ (s : List ℕ) (f : Stopped) (t : Sited s f) where
  pub extent-is : ((extent_of s f).start ≡ (cursor f).sp) × ((extent_of s f).end ≡ (cursor f).sp + stack_size t.entry)
  unfolding extent_of
  extent-is = rw (t.right, t.one, ne_eqb _ _ t.known) (refl, refl)

  module _ (k : Accepted s) (w : Bytes s) (r : Found) (e : r ≡ first_of (records_of s f.frame)) where
    here : r.function ≡ t.entry.owner.number
    here = rw (e, t.one)

    pub sited-function : (constants_at s ≤ length s) × (r.function < num_functions s)
    unfolding records_of
    sited-function = (functions_inside s k, rw here (owner-number s f.frame.function f.frame.address k w t.entry t.one))

    pub sited-size : (function_number s r.function).stack_size ≡ stack_size t.entry
    unfolding records_of
    sited-size = rw here (sym (size_is s f.frame.function f.frame.address k w t.entry t.one))

-- The extents that were kept, whatever says what a frame's extent is.

module _ (ext : Stopped → Extent) (ns : Thread) where
  -- those of the first k frames, the last one first
  abbrev earlier_of : ℕ → List Extent
  earlier_of zero = []
  earlier_of (suc k) = ext (stopped_at ns k) ∷ earlier_of k

  module _ (n : ℕ) where
    abbrev from : ℕ → Move → Move
    from k m = apart k (earlier_of k) (map ext (frames_from ns (n - k) k)) m

    abbrev pub whole : Move → Move
    whole m = apart 0 [] (map ext (frames_from ns n 0)) m

    -- the first k frames share no byte, and `kept` of them are not empty
    pub record Keeping (k kept : ℕ) (starts ends : List ℕ) : Type 0 where
      pub same : (m : Move) → whole m ≡ from k m
      pub in_order : Apart starts ends kept
      pub shares : (a b : ℕ) → shares_any starts ends kept a b ≡ shares_one (record { start = a; end = b }) (earlier_of k)
      pub fewer : kept ≤ k
      pub most : k ≤ n

    pub keeping_start : (starts ends : List ℕ) → Keeping 0 0 starts ends
    keeping_start starts ends =
        record {
          same = λ m. rw (frames-start ns n);
          in_order = apart_none starts ends;
          shares = none_shares starts ends;
          fewer = omega arith;
          most = omega arith;
        }

    -- the next frame's extent
    module _ {k kept : ℕ} {starts ends : List ℕ} (g : Keeping k kept starts ends) (l : k < n) (a b : ℕ)
        (ea : a ≡ (ext (stopped_at ns k)).start) (eb : b ≡ (ext (stopped_at ns k)).end) where
      shared_is : shares_one (ext (stopped_at ns k)) (earlier_of k) ≡ shares_any starts ends kept a b
      shared_is = sym (g.shares a b ∙ rw (ea, eb))

      pub keeping_stop : shares_any starts ends kept a b ≡ true → (m : Move) → whole m ≡ cond (ltb k n) (refused_move 26 k) m
      unfolding apart
      keeping_stop h m = g.same m ∙ rw (frames_step ns n k l, shared_is, h, lt-ltb k n l)

      goes_on : shares_any starts ends kept a b ≡ false → (m : Move) → whole m ≡ from (k + 1) m
      unfolding apart
      goes_on h m = let z : k + 1 ≡ suc k = omega arith in g.same m ∙ rw (frames_step ns n k l, shared_is, h, z)

      pub keeping_empty : shares_any starts ends kept a b ≡ false → b ≤ a → Keeping (k + 1) kept starts ends
      keeping_empty h e =
          let z : k + 1 ≡ suc k = omega arith in
          record {
            same = goes_on h;
            in_order = g.in_order;
            shares = λ c d. rw (z, ← ea, ← eb, share_empty_2 c d a b e) (g.shares c d);
            fewer = omega (arith, g.fewer);
            most = omega arith;
          }

      pub keeping_kept : (starts' ends' : List ℕ) → shares_any starts ends kept a b ≡ false → Apart starts' ends' (kept + 1)
          → ((c d : ℕ) → shares_any starts' ends' (kept + 1) c d ≡ (share c d a b || shares_any starts ends kept c d)) → Keeping (k + 1) (kept + 1) starts' ends'
      keeping_kept starts' ends' h o q =
          let z : k + 1 ≡ suc k = omega arith in
          record {
            same = goes_on h;
            in_order = o;
            shares = λ c d. q c d ∙ rw (z, ← ea, ← eb, g.shares c d);
            fewer = omega (arith, g.fewer);
            most = omega arith;
          }

    pub keeping_end : {k kept : ℕ} {starts ends : List ℕ} → Keeping k kept starts ends → n ≤ k → (m : Move) → whole m ≡ cond (ltb k n) (refused_move 26 k) m
    unfolding apart
    keeping_end {k} g l m = g.same m ∙ rw (frames-end ns n k l, le-ltb k n l)

    -- Where no two share a byte, none is refused.
    module _ (c : AllApart (λ j. (ext (stopped_at ns j)).start) (λ j. (ext (stopped_at ns j)).end) n) where
      none_earlier : (k j : ℕ) → k < n → j ≤ k → shares_one (ext (stopped_at ns k)) (earlier_of j) ≡ false
      none_earlier k zero l m = refl
      none_earlier k (suc j) l m = rw (c.apart k j l (omega arith) (λ z. omega arith)) (none_earlier k j l (omega arith))

      up_to : (k : ℕ) → k ≤ n → (m : Move) → whole m ≡ from k m
      unfolding apart
      up_to zero l m = rw (frames-start ns n)
      up_to (suc k) l m =
          let z : k + 1 ≡ suc k = omega arith in
          up_to k (omega arith) m ∙ rw (frames_step ns n k l, none_earlier k k l (omega arith), z)

      pub none_shared : (m : Move) → whole m ≡ cond (ltb n n) (refused_move 26 n) m
      unfolding apart
      none_shared m = up_to n (omega arith) m ∙ rw (frames-end ns n n (omega arith), le-ltb n n (omega arith))
