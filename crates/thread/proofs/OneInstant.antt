-- A thread's call is one instant or none: from the definition of its answer, and from demand 3.
use Prim.Native.Nat.{ℕ, suc, ◌+◌, ◌*◌, ◌/◌, ◌<◌}
use mathlib.Core.Path.{◌≡◌, refl, sym, ap, ◌∙◌}
use mathlib.Core.Bool.{Bool, true, false}
use mathlib.Core.List.Memᴰ
use mathlib.Core.List.Permᴰ
use mathlib.Core.List.{List, [], ◌∷◌, map, flatten, Permᴰ}
use native.Mathlib.Omega.{arith}
use borrow.Author.Tests.{ne_eqb}
use lib.ListN.{length}
use Rattle.stackmap.specs.Verdict.{Verdict}
use Rattle.stackmap.specs.Verdict.{Valid, Refused}
use Rattle.stackmap.specs.Verdict.{need}
use Rattle.stackmap.specs.Check.{section_check}
use Rattle.stackmap.proofs.Numbers.{Numbered, section-numbered}
use Rattle.stackmap.proofs.Forth.{accepted-length}
use Rattle.questions.specs.Questions.{ask}
use Rattle.moves.specs.declared.Move.{Move}
use Rattle.moves.specs.Table.{table_right}
use Rattle.moves.specs.Window.{part}
use Rattle.moves.specs.Settle.{refused_move, accepted_move}
use Rattle.moves.proofs.Searches.{perm_mem}
use Rattle.relocate.specs.Restore.{Restore, allowed}
use Rattle.relocate.specs.Stopped.{Stopped}
use Rattle.relocate.specs.Plan.{image_right}
use Rattle.relocate.specs.Relocation.{answer, moved_registers}
use Rattle.relocate.specs.Lists.{final, final_registers, Holds}
use Rattle.relocate.proofs.Demand.{demand3, order_free, disjoint_perm}
use Rattle.thread.specs.Thread.{Thread, list_right, stopped_at, frames_of, pointers_in, thread_answer, thread_image, thread_registers}
use Rattle.thread.specs.Theorems.{Movable, total, plain_registers, AcceptedOnly, ByFrames, FrameByFrame, OrNone, AnyOrder, OneInstant}
use Rattle.thread.proofs.Parts.{right_tells, moved-registers, part_of}
use Rattle.thread.proofs.Judged.{judged_tells, judged-passes}
use Rattle.thread.proofs.Overlaps.{apart-passes, apart_tells}

-- An answer with the number 0 has passed each step.

ask_tells : (v : Verdict) (k : Move) → Numbered 9 v → (ask refused_move k v).number ≡ 0 → ((e : ℕ) × (v ≡ Valid e)) × (k.number ≡ 0)
unfolding ask
ask_tells (Refused n p) k a h = absurd (omega (arith, a.above))
ask_tells (Valid e) k a h = ((e, refl), h)

need_tells : (b : Bool) (n : ℕ) (k : Move) → (need b (refused_move (suc n) 0) k).number ≡ 0 → (b ≡ true) × (k.number ≡ 0)
need_tells true n k h = (refl, h)
need_tells false n k h = absurd (omega arith)

module _ (R : Restore) (im : List ℕ) where
  abbrev ans : Stopped → Move
  ans f = answer R im f

  -- the counts of the plain answers, added; and the same sum in any order
  total-is : (fs : List Stopped) → total (map ans fs) ≡ pointers_in R im fs
  unfolding pointers_in
  total-is [] = refl
  total-is (f ∷ fs) = rw (total-is fs)

  pairs_perm : {fs gs : List Stopped} → Permᴰ fs gs → pointers_in R im fs ≡ pointers_in R im gs
  unfolding pointers_in
  pairs_perm Permᴰ.nil = refl
  pairs_perm (Permᴰ.cons e p) = rw (e, pairs_perm p)
  pairs_perm (Permᴰ.swap e₁ e₂) = rw (e₁, e₂) (omega arith)
  pairs_perm (Permᴰ.trans p q) = pairs_perm p ∙ pairs_perm q

  module _ (ns : Thread) where
    accepted_tells : (thread_answer R im ns).number ≡ 0 → Movable R im ns
    unfolding thread_answer
    accepted_tells h =
        let v = ask_tells (section_check R.section) _ (section-numbered R.section) h in
        let w = need_tells (allowed R ns.machine) 32 _ v.1 in
        let i = need_tells (image_right R.first (length im)) 12 _ w.1 in
        let t = need_tells (table_right R.olds R.news) 13 _ i.1 in
        let l = need_tells (list_right ns.list ns.registers) 24 _ t.1 in
        let j = judged_tells R im 0 (frames_of ns) _ l.1 in
        let d = apart_tells R.section (frames_of ns) _ j.1 in
        record {
          section_right = v.0.1 ∙ ap Valid (accepted-length R.section v.0.0 v.0.1).0;
          allowed_right = w.0;
          image_right = i.0;
          table_right = t.0;
          list_right = l.0;
          each = j.0;
          disjoint = d.0;
        }

    module _ (m : Movable R im ns) where
      movable_answer : thread_answer R im ns ≡ accepted_move (pointers_in R im (frames_of ns))
      unfolding thread_answer ask
      movable_answer =
          rw (m.section_right, m.allowed_right, m.image_right, m.table_right, m.list_right)
          (judged-passes R im 0 (frames_of ns) _ m.each ∙ apart-passes R.section (frames_of ns) _ m.disjoint)

      movable_image : thread_image R im ns ≡ final R (frames_of ns) im
      unfolding thread_image
      movable_image = rw movable_answer

      movable_registers : thread_registers R im ns ≡ flatten (final_registers R (frames_of ns) im)
      unfolding thread_registers
      movable_registers = rw movable_answer

      holds : Holds R im (frames_of ns)
      holds = demand3 R im (frames_of ns) m.disjoint

      plain_registers_lem : thread_registers R im ns ≡ plain_registers R im ns
      plain_registers_lem = movable_registers ∙ ap flatten holds.plain_registers

      at_position : (k : ℕ) → k < length ns.list / 2 → part (plain_registers R im ns) (32 * k) 32 ≡ moved_registers R im (stopped_at ns k)
      unfolding frames_of
      at_position k l =
          let n = length ns.list / 2 in
          let e = (right_tells ns.list ns.registers m.list_right).1 in
          let z : 0 + k ≡ k = omega arith in
          part_of (moved_registers R im) ns n 0 k (λ j p q. moved-registers R im ns n j e (omega arith)) l ∙ rw z

      by_frames : ByFrames R im ns
      by_frames =
          record {
            image_is = movable_image;
            registers_is = movable_registers;
            each_accepted = λ r q.
                let o = Memᴰ.of_map ans (frames_of ns) (rw holds.plain at q) in
                rw (← o.2) (m.each o.0 o.1);
            answer_is = movable_answer ∙ ap accepted_move (sym (ap total holds.plain ∙ total-is (frames_of ns)));
            bytes_are = holds;
            registers_are = plain_registers_lem;
            registers_at = λ k l. rw plain_registers_lem (at_position k l);
          }

pub accepted_only : AcceptedOnly
accepted_only = accepted_tells

pub frame_by_frame : FrameByFrame
frame_by_frame = by_frames

pub or_none : OrNone
unfolding thread_image thread_registers
or_none R im ns h = rw (ne_eqb _ 0 h) (refl, refl)

-- movable frames are movable in every order
movable_perm : (R : Restore) (im : List ℕ) (ns ns' : Thread) → Movable R im ns → ns'.machine ≡ ns.machine → list_right ns'.list ns'.registers ≡ true
    → Permᴰ (frames_of ns) (frames_of ns') → Movable R im ns'
movable_perm R im ns ns' m e l p =
    record {
      section_right = m.section_right;
      allowed_right = ap (allowed R) e ∙ m.allowed_right;
      image_right = m.image_right;
      table_right = m.table_right;
      list_right = l;
      each = λ f q. m.each f (perm_mem (Permᴰ.symm p) q);
      disjoint = disjoint_perm R.section p m.disjoint;
    }

pub any_order : AnyOrder
any_order R im ns ns' h e l p =
    let m = accepted_tells R im ns h in
    let m' = movable_perm R im ns ns' m e l p in
    record {
      same_answer =
          movable_answer R im ns m ∙ ap accepted_move (pairs_perm R im p)
          ∙ sym (movable_answer R im ns' m');
      same_image =
          movable_image R im ns m
          ∙ (order_free R im (frames_of ns) (frames_of ns') p m.disjoint).same_image
          ∙ sym (movable_image R im ns' m');
      registers_are = plain_registers_lem R im ns m;
      other_registers_are = plain_registers_lem R im ns' m';
    }

pub one_instant : OneInstant
one_instant =
    record { accepted_only = accepted_only; frame_by_frame = frame_by_frame; or_none = or_none; any_order = any_order }
