-- On a section that is one map the call is the thread's call; and a refused call changes nothing.
use Prim.Native.Nat.{ℕ, zero, suc, ◌+◌, ◌/◌, ◌≤◌, ◌<◌}
use mathlib.Core.Path.{◌≡◌, refl, sym}
use mathlib.Core.Bool.{Bool, true, false, cond}
use mathlib.Core.List.{List, [], ◌∷◌, ◌++◌, map}
use native.Mathlib.Omega.{arith}
use borrow.Author.Tests.{ne_eqb, eq-eqb}
use lib.ListN.{length}
use Rattle.stackmap.specs.Verdict.{Verdict}
use Rattle.stackmap.specs.Verdict.{Valid, Refused}
use Rattle.stackmap.specs.Verdict.{need}
use Rattle.stackmap.specs.Section.{Entry, is_old, entries}
use Rattle.stackmap.specs.Check.{section_check, Accepted}
use Rattle.questions.specs.Questions.{ask, sought, with_address}
use Rattle.moves.specs.declared.Move.{Move}
use Rattle.moves.specs.Table.{table_right}
use Rattle.moves.specs.Plan.{Plan, refuse}
use Rattle.moves.specs.Settle.{refused_move, accepted_move}
use Rattle.relocate.specs.Restore.{Restore, allowed}
use Rattle.relocate.specs.Stopped.{Stopped, registers_right, cursor}
use Rattle.relocate.specs.Plan.{image_right, records_of, only, stack_size, plan_record, plan}
use Rattle.relocate.specs.Relocation.{answer, moved, moved_registers, Extent, extent_of}
use Rattle.relocate.specs.Lists.{final, final_registers}
use Rattle.relocate.specs.Reorder.{with_section}
use Rattle.linked.specs.Linked.{Map, map_at, Cut, maps, refusal, cut_from, cut}
use Rattle.linked.specs.Find.{MapEntry, of_map, all_with_address, none_old}
use Rattle.thread.specs.Thread.{Thread, list_right, frame_at, stopped_at, frames_from, frames_of, apart, judged, pointers_in, thread_answer, thread_image, thread_registers}
use Rattle.thread.proofs.Parts.{right_tells, own_registers}
use Rattle.linked_moves.specs.Thread.{records_over, by_map, no_extent, extent_over, allowed_new, answer_over, moved_over, moved_registers_over, final_over, final_registers_over, judged_over, pointers_over, thread_over, thread_image_over, thread_registers_over, linked_answer, linked_image, linked_registers}
use Rattle.linked_moves.specs.Laws.{OneMap, OrNone}

-- a section that is accepted is one map
cut-one : (s : List ℕ) → Accepted s → cut s ≡ maps (map_at 0 s ∷ [])
unfolding cut cut_from
cut-one s k = rw k

-- Plans that are refused, whatever comes before.

record Refuses (p : Plan) : Type 0 where
  number : ℕ
  place : ℕ
  is : p ≡ refuse number place

need_refuses : (b : Bool) (n p : ℕ) (k : Plan) → Refuses k → Refuses (need b (refuse n p) k)
need_refuses true n p k r = r
need_refuses false n p k r = record { number = n; place = p; is = refl }

ask_refuses : (v : Verdict) (k : Plan) → Refuses k → Refuses (ask refuse k v)
unfolding ask
ask_refuses (Valid e) k r = r
ask_refuses (Refused n p) k r = record { number = n; place = p; is = refl }

same_either : (b : Bool) (x : Extent) → cond b x x ≡ x
same_either true x = refl
same_either false x = refl

-- One frame of a section of version 3 that is one map.
module _ (R : Restore) (new : is_old R.section ≡ false) where
  abbrev ms : List Map
  ms = map_at 0 R.section ∷ []

  abbrev here : Stopped → List Entry
  here f = with_address f.frame.address (entries R.section)

  abbrev over : List Entry → List MapEntry
  over es = of_map 0 (map_at 0 R.section) es ++ []

  records-here : (f : Stopped) → records_of R.section f.frame ≡ here f
  unfolding records_of sought
  records-here f = rw new

  records-over : (f : Stopped) → records_over ms f ≡ over (here f)
  unfolding records_over all_with_address
  records-over f = refl

  module _ (f : Stopped) where
    plan_refuses : (n : ℕ) → ((k : Entry → Plan) → Refuses (only (here f) k)) → Refuses (plan R n f)
    unfolding plan
    plan_refuses n h =
        ask_refuses (section_check R.section) _
        (need_refuses (allowed R f.frame.machine) 33 0 _
        (need_refuses (image_right R.first n) 13 0 _
        (need_refuses (table_right R.olds R.news) 14 0 _
        (need_refuses (registers_right f.registers) 25 0 _ (rw (records-here f) (h _))))))

    refuses_none : here f ≡ [] → (k : Entry → Plan) → Refuses (only (here f) k)
    unfolding only
    refuses_none e k = record { number = 10; place = 0; is = rw e }

    refuses_several : (e e' : Entry) (es : List Entry) → here f ≡ e ∷ e' ∷ es → (k : Entry → Plan) → Refuses (only (here f) k)
    unfolding only
    refuses_several e e' es h k = record { number = 15; place = 0; is = rw h }

    module _ (im : List ℕ) where
      left_alone : Refuses (plan R (length im) f) → (im ≡ moved R im f) × (f.registers ≡ moved_registers R im f)
      unfolding moved moved_registers
      left_alone r = rw r.is (refl, refl)

      moved_by : (es : List Entry) → here f ≡ es
          → (by_map im im (λ s. moved (with_section R s) im f) (over es) ≡ moved R im f)
          × (by_map f.registers f.registers (λ s. moved_registers (with_section R s) im f) (over es) ≡ moved_registers R im f)
      unfolding of_map
      moved_by [] h = left_alone (plan_refuses (length im) (refuses_none h))
      moved_by (e ∷ []) h = (refl, refl)
      moved_by (e ∷ e' ∷ es) h = left_alone (plan_refuses (length im) (refuses_several e e' es h))

      pub one-moved : moved_over R ms im f ≡ moved R im f
      unfolding moved_over
      one-moved = rw (records-over f) (moved_by (here f) refl).0

      pub one-registers : moved_registers_over R ms im f ≡ moved_registers R im f
      unfolding moved_registers_over
      one-registers = rw (records-over f) (moved_by (here f) refl).1

      module _ (k : Accepted R.section) (l : allowed R f.frame.machine ≡ true) (i : image_right R.first (length im) ≡ true)
          (t : table_right R.olds R.news ≡ true) (g : registers_right f.registers ≡ true) where
        plan-here : plan R (length im) f ≡ only (here f) (λ e. plan_record R (length im) (cursor f) (stack_size e) e.body)
        unfolding plan ask
        plan-here = rw (k, l, i, t, g, records-here f)

        answered-by : (es : List Entry) → here f ≡ es
            → by_map (refused_move 10 0) (refused_move 15 0) (λ s. answer (with_section R s) im f) (over es) ≡ answer R im f
        unfolding of_map answer only
        answered-by [] h = rw (plan-here, h)
        answered-by (e ∷ []) h = refl
        answered-by (e ∷ e' ∷ es) h = rw (plan-here, h)

        pub one_answer : answer_over R ms im f ≡ answer R im f
        unfolding answer_over
        one_answer = rw (records-over f) (answered-by (here f) refl)

    extent-by : (es : List Entry) → here f ≡ es → by_map (no_extent f) (no_extent f) (λ s. extent_of s f) (over es) ≡ extent_of R.section f
    unfolding of_map extent_of
    extent-by [] h = rw (records-here f, h) (sym (same_either (registers_right f.registers) (no_extent f)))
    extent-by (e ∷ []) h = refl
    extent-by (e ∷ e' ∷ es) h = rw (records-here f, h) (sym (same_either (registers_right f.registers) (no_extent f)))

    pub one-extent : extent_over ms f ≡ extent_of R.section f
    unfolding extent_over
    one-extent = rw (records-over f) (extent-by (here f) refl)

  -- Lists of frames.

  extents_one : (fs : List Stopped) → map (extent_over ms) fs ≡ map (extent_of R.section) fs
  extents_one [] = refl
  extents_one (f ∷ fs) = rw (one-extent f, extents_one fs)

  final-one : (fs : List Stopped) (im : List ℕ) → final_over R ms fs im ≡ final R fs im
  final-one [] im = refl
  final-one (f ∷ fs) im = rw (one-moved f im) (final-one fs (moved R im f))

  registers-one : (fs : List Stopped) (im : List ℕ) → final_registers_over R ms fs im ≡ final_registers R fs im
  registers-one [] im = refl
  registers-one (f ∷ fs) im = rw (one-moved f im, one-registers f im, registers-one fs (moved R im f))

  module _ (im : List ℕ) (t : Thread) where
    judged-one : (n i p : ℕ) (k : Move) → ((j : ℕ) → i ≤ j → j < i + n → answer_over R ms im (stopped_at t j) ≡ answer R im (stopped_at t j))
        → judged_over R ms im p (frames_from t n i) k ≡ judged R im p (frames_from t n i) k
    unfolding judged_over judged
    judged-one zero i p k h = refl
    judged-one (suc n) i p k h = rw (h i (omega arith) (omega arith), judged-one n (suc i) (suc p) k (λ j a b. h j (omega arith) (omega arith)))

    pointers_one : (n i : ℕ) → ((j : ℕ) → i ≤ j → j < i + n → answer_over R ms im (stopped_at t j) ≡ answer R im (stopped_at t j))
        → pointers_over R ms im (frames_from t n i) ≡ pointers_in R im (frames_from t n i)
    unfolding pointers_over pointers_in
    pointers_one zero i h = refl
    pointers_one (suc n) i h = rw (h i (omega arith) (omega arith), pointers_one n (suc i) (λ j a b. h j (omega arith) (omega arith)))

    module _ (k : Accepted R.section) where
      each-one : allowed R t.machine ≡ true → image_right R.first (length im) ≡ true → table_right R.olds R.news ≡ true → list_right t.list t.registers ≡ true
          → (j : ℕ) → 0 ≤ j → j < 0 + length t.list / 2 → answer_over R ms im (stopped_at t j) ≡ answer R im (stopped_at t j)
      unfolding stopped_at frame_at registers_right
      each-one l i e g j a b =
          one_answer (stopped_at t j) im k l i e
          (eq-eqb _ 32 (own_registers t (length t.list / 2) j (right_tells t.list t.registers g).1 (omega arith)))

      -- the frames of the list and 26, in the definition's words
      abbrev linked_frames : Move
      linked_frames =
          judged_over R ms im 0 (frames_of t) (apart 0 [] (map (extent_over ms) (frames_of t)) (accepted_move (pointers_over R ms im (frames_of t))))

      abbrev plain_frames : Move
      plain_frames = judged R im 0 (frames_of t) (apart 0 [] (map (extent_of R.section) (frames_of t)) (accepted_move (pointers_in R im (frames_of t))))

      frames-one : allowed R t.machine ≡ true → image_right R.first (length im) ≡ true → table_right R.olds R.news ≡ true → list_right t.list t.registers ≡ true
          → linked_frames ≡ plain_frames
      unfolding frames_of
      frames-one l i e g =
          rw (extents_one (frames_from t (length t.list / 2) 0), pointers_one (length t.list / 2) 0 (each-one l i e g))
          (judged-one (length t.list / 2) 0 0 _ (each-one l i e g))

      tests_one : (a b c d : Bool) → allowed R t.machine ≡ a → image_right R.first (length im) ≡ b → table_right R.olds R.news ≡ c → list_right t.list t.registers ≡ d
          → need a (refused_move 33 0) (need b (refused_move 13 0) (need c (refused_move 14 0) (need d (refused_move 25 0) linked_frames)))
          ≡ need a (refused_move 33 0) (need b (refused_move 13 0) (need c (refused_move 14 0) (need d (refused_move 25 0) plain_frames)))
      tests_one true true true true l i e g = frames-one l i e g
      tests_one true true true false l i e g = refl
      tests_one true true false d l i e g = refl
      tests_one true false c d l i e g = refl
      tests_one false b c d l i e g = refl

      allowed-one : allowed_new R t.machine ≡ allowed R t.machine
      unfolding allowed_new allowed
      allowed-one = rw new

      answer-one : thread_over R ms im t ≡ thread_answer R im t
      unfolding thread_over thread_answer none_old ask
      answer-one =
          rw (new, k, allowed-one)
          (tests_one (allowed R t.machine) (image_right R.first (length im)) (table_right R.olds R.news) (list_right t.list t.registers) refl refl refl refl)

      image-one : thread_image_over R ms im t ≡ thread_image R im t
      unfolding thread_image_over thread_image
      image-one = rw (answer-one, final-one (frames_of t) im)

      all_registers_one : thread_registers_over R ms im t ≡ thread_registers R im t
      unfolding thread_registers_over thread_registers
      all_registers_one = rw (answer-one, registers-one (frames_of t) im)

pub one_map : OneMap
unfolding linked_answer linked_image linked_registers
one_map R im t k new =
    record {
      same_answer = rw (cut-one R.section k) (answer-one R new im t k);
      same_image = rw (cut-one R.section k) (image-one R new im t k);
      same_registers = rw (cut-one R.section k) (all_registers_one R new im t k);
    }

-- A refused call changes nothing.

none_of : (R : Restore) (im : List ℕ) (t : Thread) (c : Cut) → cut R.section ≡ c → ((linked_answer R im t).number ≡ 0 → ⊥)
    → (linked_image R im t ≡ im) × (linked_registers R im t ≡ t.registers)
unfolding linked_answer linked_image linked_registers thread_image_over thread_registers_over
none_of R im t (refusal n p) e h = rw e (refl, refl)
none_of R im t (maps ms) e h = rw e (let z = rw e at h in rw (ne_eqb _ 0 z) (refl, refl))

pub or_none : OrNone
or_none R im t h = none_of R im t (cut R.section) refl h
