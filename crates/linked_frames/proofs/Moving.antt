-- The moves of a list's frames, one after another, each by its own map and in its own registers.
use Prim.Native.Nat.{ℕ, ◌+◌, ◌*◌, ◌-◌, ◌≤◌, ◌<◌}
use mathlib.Core.Path.{◌≡◌, refl, sym, ap, ◌∙◌}
use mathlib.Core.List.{List, [], ◌++◌, flatten, append_assoc}
use native.Mathlib.Omega.{arith}
use lib.ListN.{length, take, drop, length-append, drop_of_length-le}
use lib.Seq.{take_at, drop_at, drop-drop}
use Rattle.moves.specs.Window.{splice}
use Rattle.relocate.specs.declared.Machine.{Machine}
use Rattle.relocate.specs.Restore.{Restore}
use Rattle.relocate.specs.Stopped.{Stopped}
use Rattle.linked.specs.Linked.{Map}
use Rattle.thread.specs.Thread.{Thread, thread_of, stopped_at, frames_from}
use Rattle.thread.proofs.Frames.{frames_step, frames-end, frames-start}
use Rattle.thread.proofs.Parts.{own_registers}
use Rattle.linked_moves.specs.Thread.{moved_over, moved_registers_over, final_over, final_registers_over}
use Rattle.linked_moves.specs.Code.{registers_after}
use Rattle.linked_frames.proofs.ByMap.{over_wide}

-- The registers of the frames before the position k are moved, and from there on they are as they were lent.
module _ (R : Restore) (ms : List Map) (im : List ℕ) (m : Machine) (ns lent : List ℕ) (n : ℕ) where
  abbrev th : Thread
  th = thread_of m ns lent

  abbrev ahead : ℕ → List Stopped
  ahead k = frames_from th (n - k) k

  pub record Moving (k : ℕ) (now rs : List ℕ) : Type 0 where
    pub same : final_over R ms (frames_from th n 0) im ≡ final_over R ms (ahead k) now
    pub done : List ℕ
    pub done_long : length done ≡ 32 * k
    pub registers_are : rs ≡ done ++ drop (32 * k) lent
    pub left : flatten (final_registers_over R ms (frames_from th n 0) im) ≡ done ++ flatten (final_registers_over R ms (ahead k) now)
    pub long : length now ≡ length im
    pub wide : length rs ≡ length lent
    pub most : k ≤ n

  pub moving_start : Moving 0 im lent
  moving_start =
      record {
        same = rw (frames-start th n);
        done = [];
        done_long = refl;
        registers_are = refl;
        left = rw (frames-start th n);
        long = refl;
        wide = refl;
        most = omega arith;
      }

  module _ (each : length lent ≡ 32 * n) {k : ℕ} {now rs : List ℕ} (g : Moving k now rs) where
    -- the next frame is as it was lent
    next_lent : drop (32 * k) rs ≡ drop (32 * k) lent
    next_lent = rw g.registers_are (drop_at g.done (drop (32 * k) lent) (32 * k) g.done_long)

    as_lent : stopped_at (thread_of m ns rs) k ≡ stopped_at th k
    unfolding stopped_at
    as_lent = rw next_lent

    module _ (l : k < n) where
      abbrev f : Stopped
      f = stopped_at th k

      abbrev own : List ℕ
      own = moved_registers_over R ms now f

      own_long : length own ≡ 32
      own_long = over_wide R ms now f ∙ own_registers th n k each l

      next-registers : flatten (final_registers_over R ms (ahead k) now) ≡ own ++ flatten (final_registers_over R ms (ahead (k + 1)) (moved_over R ms now f))
      unfolding flatten
      next-registers = rw (frames_step th n k l)

      spliced : splice rs (32 * k) 32 own ≡ (g.done ++ own) ++ drop (32 * k + 32) lent
      unfolding splice
      spliced =
          let a : take (32 * k) rs ≡ g.done = rw g.registers_are (take_at g.done (drop (32 * k) lent) (32 * k) g.done_long) in
          let b : drop (32 * k + 32) rs ≡ drop (32 * k + 32) lent = sym (drop-drop 32 (32 * k) rs) ∙ ap (λ (x : List ℕ). drop 32 x) next_lent ∙ drop-drop 32 (32 * k) lent in
          rw (a, b) (sym (append_assoc g.done own (drop (32 * k + 32) lent)))

      pub moving_on : {after rs' : List ℕ} → after ≡ moved_over R ms now (stopped_at (thread_of m ns rs) k) → rs' ≡ registers_after R ms now (thread_of m ns rs) k
          → length after ≡ length now → length rs' ≡ length rs → Moving (k + 1) after rs'
      moving_on {after} {rs'} e d p q =
          let z : 32 * (k + 1) ≡ 32 * k + 32 = omega arith in
          let a : after ≡ moved_over R ms now f = rw as_lent at e in
          let s : rs' ≡ splice rs (32 * k) 32 own = rw as_lent at d in
          record {
            same = g.same ∙ rw (frames_step th n k l, a);
            done = g.done ++ own;
            done_long = length-append g.done own ∙ omega (arith, g.done_long, own_long);
            registers_are = rw (z, s) spliced;
            left =
                g.left ∙ ap (λ (x : List ℕ). g.done ++ x) next-registers
                ∙ rw a (sym (append_assoc g.done own (flatten (final_registers_over R ms (ahead (k + 1)) (moved_over R ms now f)))));
            long = p ∙ g.long;
            wide = q ∙ g.wide;
            most = omega arith;
          }

    pub moving_end : n ≤ k
        → (now ≡ final_over R ms (frames_from th n 0) im) × (rs ≡ flatten (final_registers_over R ms (frames_from th n 0) im))
    unfolding flatten
    moving_end l = (
      sym (g.same ∙ rw (frames-end th n k l)),
      rw (g.registers_are, drop_of_length-le lent {i = 32 * k} (omega arith)) (sym (g.left ∙ rw (frames-end th n k l))),
    )
