-- The whole call, by the verdict on the section's maps.
use Prim.Native.Nat.{ℕ}
use mathlib.Core.Path.{◌≡◌, refl, sym, ap}
use mathlib.Core.Bool.{Bool, true, false, not, true≢false}
use mathlib.Core.List.{List, [], ◌∷◌}
use lib.ListN.{length}
use Rattle.stackmap.specs.Verdict.{Verdict}
use Rattle.stackmap.specs.Verdict.{Valid, Refused}
use Rattle.stackmap.specs.Verdict.{need, number_of, place_of}
use Rattle.stackmap.specs.Section.{is_old}
use Rattle.moves.specs.declared.Move.{Move}
use Rattle.moves.specs.Settle.{refused_move}
use Rattle.relocate.specs.Restore.{Restore}
use Rattle.thread.specs.Thread.{Thread}
use Rattle.linked.specs.Linked.{Map, Cut, maps, refusal, cut, ask_maps}
use Rattle.linked.specs.Find.{none_old}
use Rattle.linked_moves.specs.Thread.{thread_over, thread_image_over, thread_registers_over, linked_answer, linked_image, linked_registers}
use Rattle.linked_moves.specs.Code.{maps_in, ThreadsOver}
use Rattle.linked_search.specs.Check.{linked_check}
use Rattle.linked_call.specs.Code.{LinkedThreads}

is_valid : Verdict → Bool
is_valid (Valid e) = true
is_valid (Refused n p) = false

-- a map of version 1 is told alike, whichever answer is asked for
old-told : (ms : List Map) (e n p : ℕ) → none_old Refused ms (Valid e) ≡ Refused n p → (n ≡ 27) × ((k : Move) → none_old refused_move ms k ≡ refused_move n p)
unfolding none_old is_valid
old-told [] e n p h = absurd (true≢false (ap is_valid h))
old-told (m ∷ ms) e n p h = go (old-told ms e n p) (is_old m.content) refl h
  where
    go : (none_old Refused ms (Valid e) ≡ Refused n p → (n ≡ 27) × ((k : Move) → none_old refused_move ms k ≡ refused_move n p)) → (b : Bool) → is_old m.content ≡ b
        → need (not b) (Refused 27 m.first) (none_old Refused ms (Valid e)) ≡ Refused n p
        → (n ≡ 27) × ((k : Move) → need (not b) (refused_move 27 m.first) (none_old refused_move ms k) ≡ refused_move n p)
    go rest true q g = (sym (ap number_of g), λ k. ap (λ (v : Verdict). refused_move (number_of v) (place_of v)) g)
    go rest false q g = rest g

module _ (R : Restore) (im : List ℕ) (t : Thread) where
  refused-by : (c : Cut) → cut R.section ≡ c → (n p : ℕ) → ask_maps Refused (λ ms. none_old Refused ms (Valid (length R.section))) c ≡ Refused n p
      → LinkedThreads R im t (refused_move n p) im t.registers
  unfolding linked_answer linked_image linked_registers thread_over thread_image_over thread_registers_over
  refused-by (refusal m q) e n p h =
      record {
        answer_is = rw e (ap (λ (v : Verdict). refused_move (number_of v) (place_of v)) (sym h));
        image_is = rw e;
        registers_is = rw e;
      }
  refused-by (maps ms) e n p h =
      let o = old-told ms (length R.section) n p h in
      record { answer_is = rw e (sym (o.1 _)); image_is = rw (e, o.1 _, o.0); registers_is = rw (e, o.1 _, o.0) }

  -- the refusal of a map, or 27, with image and registers as lent
  pub linked_refused : (n p : ℕ) → linked_check R.section ≡ Refused n p → LinkedThreads R im t (refused_move n p) im t.registers
  unfolding linked_check
  linked_refused n p h = refused-by (cut R.section) refl n p h

  moved_by : (c : Cut) → cut R.section ≡ c → (x : ℕ) → ask_maps Refused (λ ms. none_old Refused ms (Valid (length R.section))) c ≡ Valid x
      → (r : Move) (after registers : List ℕ) → ThreadsOver R (maps_in R.section) im t r after registers → LinkedThreads R im t r after registers
  unfolding linked_answer linked_image linked_registers maps_in is_valid
  moved_by (refusal m q) e x h r after registers o = absurd (true≢false (sym (ap is_valid h)))
  moved_by (maps ms) e x h r after registers o =
      let k = rw e at o in record { answer_is = rw e k.answer_is; image_is = rw e k.image_is; registers_is = rw e k.registers_is }

  -- right maps, and what the call comes to over them
  pub linked_moved : (x : ℕ) → linked_check R.section ≡ Valid x → {r : Move} {after registers : List ℕ} → ThreadsOver R (maps_in R.section) im t r after registers
      → LinkedThreads R im t r after registers
  unfolding linked_check
  linked_moved x h o = moved_by (cut R.section) refl x h _ _ _ o
