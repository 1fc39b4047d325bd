-- The moves of a list's frames, one after another, each in its own registers.
use Prim.Native.Nat.{ℕ, ◌+◌, ◌*◌, ◌-◌, ◌≤◌, ◌<◌}
use mathlib.Core.Path.{◌≡◌, refl, sym, ap, ◌∙◌}
use mathlib.Core.Bool.{Bool, true, false}
use mathlib.Core.List.{List, ◌++◌, flatten, append_assoc, append-nil}
use native.Mathlib.Omega.{arith}
use borrow.Author.Tests.{eq-eqb}
use lib.ListN.{length, take, drop}
use lib.Seq.{length-take-le, take_all, take_at, drop_at, take-append-add, drop-append-add, drop-drop}
use Rattle.stackmap.specs.Check.{Accepted}
use Rattle.questions.specs.Questions.{sought}
use Rattle.moves.specs.declared.Move.{Move}
use Rattle.moves.specs.Table.{table_right, look_up}
use Rattle.moves.specs.Window.{splice}
use Rattle.moves.specs.Code.{Follows}
use Rattle.moves.proofs.Splice.{splice_mid, splice-same}
use Rattle.relocate.specs.declared.Cursor.{Cursor}
use Rattle.relocate.specs.declared.Machine.{Machine}
use Rattle.relocate.specs.Restore.{Restore, restore, allowed}
use Rattle.relocate.specs.Stopped.{Stopped, registers_right, cursor}
use Rattle.relocate.specs.Plan.{image_right, only}
use Rattle.relocate.specs.Code.{limited, plan_entry}
use Rattle.relocate.specs.Relocation.{answer, moved, moved_registers}
use Rattle.relocate.specs.Lists.{final, final_registers}
use Rattle.relocate_frame.proofs.Stages.{plan-at, limited-entry}
use Rattle.thread.specs.Thread.{Thread, thread_of, frame_at, stopped_at, frames_from}
use Rattle.thread.specs.Code.{moved_if, registers_if}
use Rattle.thread.proofs.Frames.{frames_step, frames-end, frames-start}
use Rattle.thread.proofs.Parts.{own_registers, moved-registers}

-- One frame, moved or only judged.

abbrev left_if : Bool → Restore → List ℕ → Stopped → List ℕ
left_if true R im f = moved R im f
left_if false R im f = im

abbrev own_if : Bool → Restore → List ℕ → Stopped → List ℕ
own_if true R im f = moved_registers R im f
own_if false R im f = f.registers

module _ (R : Restore) (im : List ℕ) (k : Accepted R.section) (i : image_right R.first (length im) ≡ true) (t : table_right R.olds R.news ≡ true) where
  abbrev Q : Restore
  Q = restore R.section R.olds R.news R.first (limited R.settings.most)

  abbrev Followed : Bool → Move → List ℕ → List ℕ → List ℕ → Cursor → Type 0
  Followed write r after v rs f =
      Follows write r after v (look_up R.olds R.news) im rs (only (sought R.section f.function f.address) (plan_entry Q (length im) f))

  same-entry : (f : Cursor) → only (sought R.section f.function f.address) (plan_entry Q (length im) f) ≡ only (sought R.section f.function f.address) (plan_entry R (length im) f)
  same-entry f = limited-entry R.section R.olds R.news R.first R.settings (length im) f (sought R.section f.function f.address)

  one_left : (f : Stopped) → allowed R f.frame.machine ≡ true → registers_right f.registers ≡ true → (at : Cursor) → at ≡ cursor f → (write : Bool) (r : Move) (after v : List ℕ)
      → Followed write r after v f.registers at → (r ≡ answer R im f) × (after ≡ left_if write R im f) × (v ≡ own_if write R im f)
  unfolding answer moved moved_registers
  one_left f l g at e true r after v h = rw (plan-at R im f k l i t g at e, ← same-entry at) (h.answer, h.left, h.registers_left)
  one_left f l g at e false r after v h = rw (plan-at R im f k l i t g at e, ← same-entry at) (h.answer, h.left, h.registers_left)

  -- the frame at the position p of a thread of n frames, whose 32 registers are lent
  pub one-moved : (th : Thread) → allowed R th.machine ≡ true → (n p : ℕ) → length th.registers ≡ 32 * n → p < n → (at : Cursor) → at ≡ cursor (stopped_at th p)
      → (write : Bool) (r : Move) (after v : List ℕ) (m : ℕ) → m ≡ 32 → Followed write r after v (take m (drop (32 * p) th.registers)) at
      → (r ≡ answer R im (stopped_at th p)) × (after ≡ moved_if write R im th p)
      × (take (32 * p) th.registers ++ (v ++ drop m (drop (32 * p) th.registers)) ≡ registers_if write R im th p)
  unfolding stopped_at frame_at registers_right
  one-moved th y n p w l at e true r after v m z h =
      let o = one_left (stopped_at th p) y (eq-eqb _ 32 (own_registers th n p w l)) at e true r after v (rw z at h) in
      (o.0, o.1, rw z (splice_mid th.registers (32 * p) 32 v _ o.2))
  one-moved th y n p w l at e false r after v m z h =
      let o = one_left (stopped_at th p) y (eq-eqb _ 32 (own_registers th n p w l)) at e false r after v (rw z at h) in
      (o.0, o.1, rw z (splice_mid th.registers (32 * p) 32 v _ o.2 ∙ splice-same th.registers (32 * p) 32))

-- A list with one part replaced: up to its end, and from there on.

module _ (rs : List ℕ) (a n : ℕ) (w : List ℕ) (fits : a + n ≤ length rs) (long : length w ≡ n) where
  front : length (take a rs) ≡ a
  front = length-take-le a rs (omega arith)

  splice_front : take (a + n) (splice rs a n w) ≡ take a rs ++ w
  unfolding splice
  splice_front =
      let e = take-append-add (take a rs) (w ++ drop (a + n) rs) n in
      rw front at e ∙ ap (λ (l : List ℕ). take a rs ++ l) (take_at w (drop (a + n) rs) n long)

  splice-back : drop (a + n) (splice rs a n w) ≡ drop (a + n) rs
  unfolding splice
  splice-back =
      let e = drop-append-add (take a rs) (w ++ drop (a + n) rs) n in
      rw front at e ∙ drop_at w (drop (a + n) rs) n long

-- The registers of the frames before the position k are moved, and from there on they are as they were lent.

module _ (R : Restore) (im : List ℕ) (m : Machine) (ns lent : List ℕ) (n : ℕ) where
  abbrev th : Thread
  th = thread_of m ns lent

  pub record Moving (k : ℕ) (now rs : List ℕ) : Type 0 where
    pub same : final R (frames_from th n 0) im ≡ final R (frames_from th (n - k) k) now
    pub done : flatten (final_registers R (frames_from th n 0) im) ≡ take (32 * k) rs ++ flatten (final_registers R (frames_from th (n - k) k) now)
    pub ahead : drop (32 * k) rs ≡ drop (32 * k) lent
    pub long : length now ≡ length im
    pub wide : length rs ≡ length lent
    pub most : k ≤ n

  pub moving_start : Moving 0 im lent
  moving_start =
      record { same = rw (frames-start th n); done = rw (frames-start th n); ahead = refl; long = refl; wide = refl; most = omega arith }

  module _ (each : length lent ≡ 32 * n) {k : ℕ} {now rs : List ℕ} (g : Moving k now rs) where
    -- the next frame is as it was lent
    as_lent : stopped_at (thread_of m ns rs) k ≡ stopped_at th k
    unfolding stopped_at
    as_lent = rw g.ahead

    module _ (l : k < n) where
      abbrev f : Stopped
      f = stopped_at th k

      next-registers : flatten (final_registers R (frames_from th (n - k) k) now)
          ≡ moved_registers R now f ++ flatten (final_registers R (frames_from th (n - (k + 1)) (k + 1)) (moved R now f))
      unfolding flatten
      next-registers = rw (frames_step th n k l)

      pub moving_on : {after rs' : List ℕ} → after ≡ moved R now (stopped_at (thread_of m ns rs) k) → rs' ≡ registers_if true R now (thread_of m ns rs) k
          → length after ≡ length now → length rs' ≡ length rs → Moving (k + 1) after rs'
      moving_on {after} {rs'} e d p q =
          let z : 32 * (k + 1) ≡ 32 * k + 32 = omega arith in
          let fits : 32 * k + 32 ≤ length rs = omega (arith, g.wide) in
          let w = moved-registers R now th n k each l in
          let a : after ≡ moved R now f = rw as_lent at e in
          let s : rs' ≡ splice rs (32 * k) 32 (moved_registers R now f) = rw as_lent at d in
          record {
            same = g.same ∙ rw (frames_step th n k l, a);
            done =
                g.done ∙ ap (λ (x : List ℕ). take (32 * k) rs ++ x) next-registers
                ∙ sym (rw (z, s, splice_front rs (32 * k) 32 (moved_registers R now f) fits w, a) (append_assoc (take (32 * k) rs) (moved_registers R now f) _));
            ahead =
                rw (z, s) (splice-back rs (32 * k) 32 (moved_registers R now f) fits w
                ∙ sym (drop-drop 32 (32 * k) rs) ∙ ap (λ (x : List ℕ). drop 32 x) g.ahead ∙ drop-drop 32 (32 * k) lent);
            long = p ∙ g.long;
            wide = q ∙ g.wide;
            most = omega arith;
          }

    pub moving_end : n ≤ k
        → (now ≡ final R (frames_from th n 0) im) × (rs ≡ flatten (final_registers R (frames_from th n 0) im))
    unfolding flatten
    moving_end l = (
      sym (g.same ∙ rw (frames-end th n k l)),
      sym (g.done ∙ rw (frames-end th n k l, take_all (32 * k) rs (omega (arith, g.wide))) (append-nil rs)),
    )
