-- The call after the search, from its stages.
use Prim.Native.Nat.{ℕ, zero, suc, ◌+◌, ◌/◌, ◌≤◌, ◌<◌}
use mathlib.Core.Path.{◌≡◌, refl, sym, ap, ◌∙◌}
use mathlib.Core.Bool.{Bool, true, false, cond, ◌&&◌}
use mathlib.Core.List.{List, [], ◌∷◌, map, flatten, Memᴰ}
use native.Mathlib.Omega.{arith}
use native.Mathlib.Decide.{ℕ_discrete}
use borrow.Author.Tests.{ne_eqb, lt-ltb, le-ltb}
use lib.Dec.{ltb}
use lib.ListN.{length}
use Rattle.moves.specs.declared.Move.{Move}
use Rattle.moves.specs.Table.{table_right}
use Rattle.moves.specs.Settle.{refused_move, accepted_move}
use Rattle.relocate.specs.declared.Machine.{Machine}
use Rattle.relocate.specs.Restore.{Restore, same_machine}
use Rattle.relocate.specs.Stopped.{Stopped}
use Rattle.relocate.specs.Plan.{image_right}
use Rattle.relocate.specs.Relocation.{answer}
use Rattle.relocate.specs.Reorder.{with_section}
use Rattle.linked.specs.Linked.{Map}
use Rattle.linked.specs.Find.{MapEntry, all_with_address, none_old}
use Rattle.thread.specs.Thread.{Thread, list_right, stopped_at, frames_from, frames_of, apart}
use Rattle.thread_call.proofs.Sited.{accepted-sited}
use Rattle.linked_moves.specs.Thread.{records_over, by_map, allowed_new, answer_over, extent_over, judged_over, pointers_over, final_over, final_registers_over, thread_over, thread_image_over, thread_registers_over}
use Rattle.linked_moves.specs.Code.{AllStanding, SitedIn, EachSitedIn, frames_answer_over, FramedOver, ThreadsOver}
use Rattle.linked_moves.proofs.Judged.{judged-passes, judged_tells, judged-ends}
use Rattle.linked_frames.proofs.Sited.{own_map}

-- a frame of the list, by its position
frame_in : (t : Thread) (n i k : ℕ) → i ≤ k → k < i + n → Memᴰ (stopped_at t k) (frames_from t n i)
frame_in t zero i k a b = absurd (omega arith)
frame_in t (suc n) i k a b = go (frame_in t n (suc i) k) (ℕ_discrete i k)
  where
    go : (suc i ≤ k → k < suc i + n → Memᴰ (stopped_at t k) (frames_from t n (suc i))) → Dec (i ≡ k)
        → Memᴰ (stopped_at t k) (frames_from t (suc n) i)
    go rest (yes e) = let g : stopped_at t k ≡ stopped_at t i = ap (stopped_at t) (sym e) in Memᴰ.head g
    go rest (no d) = Memᴰ.tail (rest (omega arith) (omega arith))

module _ (R : Restore) (ms : List Map) (im : List ℕ) where
  -- an accepted frame has one record, and its extent is known
  sited : AllStanding R.section ms → image_right R.first (length im) ≡ true → (f : Stopped) → (answer_over R ms im f).number ≡ 0 → SitedIn ms f
  unfolding answer_over records_over
  sited w i f z = go (all_with_address f.frame.address 0 ms) refl z
    where
      go : (xs : List MapEntry) → all_with_address f.frame.address 0 ms ≡ xs
          → (by_map (refused_move 10 0) (refused_move 15 0) (λ s. answer (with_section R s) im f) xs).number ≡ 0 → SitedIn ms f
      go [] e h = absurd (omega arith)
      go (x ∷ []) e h =
          let o = own_map f.frame.address 0 ms x e in
          record { entry = x; only = e; sited = accepted-sited (with_section R x.map.content) im f (w.each x.map o.member).accepted i h }
      go (x ∷ y ∷ xs) e h = absurd (omega arith)

  module _ (fs : List Stopped) (rs : List ℕ) (r : Move) (e : r ≡ judged_over R ms im 0 fs (accepted_move (pointers_over R ms im fs))) where
    -- a refusal leaves image and registers as lent
    refused_framed : (q : Move) {after after-rs : List ℕ} → (q.number ≡ 0 → ⊥) → q ≡ frames_answer_over R ms im fs → after ≡ im → after-rs ≡ rs → FramedOver R ms im fs rs q after after-rs
    refused_framed q h a x y = record { answer_is = a; image_is = x ∙ rw (← a, ne_eqb q.number 0 h); registers_is = y ∙ rw (← a, ne_eqb q.number 0 h) }

    pub frames-refused : {after after-rs : List ℕ} → (r.number ≡ 0 → ⊥) → after ≡ im → after-rs ≡ rs → FramedOver R ms im fs rs r after after-rs
    unfolding frames_answer_over
    frames-refused h x y = refused_framed r h (e ∙ judged-ends R ms im 0 fs _ _ refl (rw e at h)) x y

    module _ (z : r.number ≡ 0) where
      pub each : (f : Stopped) → Memᴰ f fs → (answer_over R ms im f).number ≡ 0
      each = judged_tells R ms im 0 fs _ (rw e at z)

      r_is : r ≡ accepted_move (pointers_over R ms im fs)
      r_is = e ∙ judged-passes R ms im 0 fs _ each

      answer_is : frames_answer_over R ms im fs ≡ apart 0 [] (map (extent_over ms) fs) (accepted_move (pointers_over R ms im fs))
      unfolding frames_answer_over
      answer_is = judged-passes R ms im 0 fs _ each

      module _ (n p : ℕ) (q : (m : Move) → apart 0 [] (map (extent_over ms) fs) m ≡ cond (ltb p n) (refused_move 26 p) m) where
        pub frames_26 : {after after-rs : List ℕ} → p < n → after ≡ im → after-rs ≡ rs → FramedOver R ms im fs rs (refused_move 26 p) after after-rs
        frames_26 l x y =
            let a : frames_answer_over R ms im fs ≡ refused_move 26 p = answer_is ∙ q _ ∙ rw (lt-ltb p n l) in
            refused_framed (refused_move 26 p) (λ z. omega arith) (sym a) x y

        pub frames-moved : {after after-rs : List ℕ} → n ≤ p → after ≡ final_over R ms fs im → after-rs ≡ flatten (final_registers_over R ms fs im) → FramedOver R ms im fs rs r after after-rs
        frames-moved l x y =
            let a : frames_answer_over R ms im fs ≡ accepted_move (pointers_over R ms im fs) = answer_is ∙ q _ ∙ rw (le-ltb p n l) in
            record { answer_is = r_is ∙ sym a; image_is = x ∙ rw a; registers_is = y ∙ rw a }

  pub each-sited : AllStanding R.section ms → image_right R.first (length im) ≡ true → (t : Thread) (n : ℕ) (r : Move)
      → r ≡ judged_over R ms im 0 (frames_from t n 0) (accepted_move (pointers_over R ms im (frames_from t n 0))) → r.number ≡ 0 → EachSitedIn ms t n
  each-sited w i t n r e z =
      record { at = λ j l. sited w i (stopped_at t j) (each (frames_from t n 0) t.registers r e z _ (frame_in t n 0 j (omega arith) (omega arith))) }

  -- The stages before the frames. No map is of version 1.

  none_old_lem : (k : Move) (ns : List Map) → ((m : Map) → Memᴰ m ns → Memᴰ m ms) → AllStanding R.section ms → none_old refused_move ns k ≡ k
  unfolding none_old
  none_old_lem k [] sub w = refl
  none_old_lem k (m ∷ ns) sub w = rw (w.each m (sub m (Memᴰ.head refl))).new (none_old_lem k ns (λ x h. sub x (Memᴰ.tail h)) w)

  module _ (t : Thread) (w : AllStanding R.section ms) where
    refused_threads : (n p : ℕ) → (n ≡ 0 → ⊥) → thread_over R ms im t ≡ refused_move n p → ThreadsOver R ms im t (refused_move n p) im t.registers
    unfolding thread_image_over thread_registers_over
    refused_threads n p h e = record { answer_is = sym e; image_is = rw (e, ne_eqb n 0 h); registers_is = rw (e, ne_eqb n 0 h) }

    pub thread_33 : allowed_new R t.machine ≡ false → ThreadsOver R ms im t (refused_move 33 0) im t.registers
    unfolding thread_over
    thread_33 h = refused_threads 33 0 (λ z. omega arith) (none_old_lem _ ms (λ m x. x) w ∙ rw h)

    module _ (l : allowed_new R t.machine ≡ true) where
      pub thread_13 : image_right R.first (length im) ≡ false → ThreadsOver R ms im t (refused_move 13 0) im t.registers
      unfolding thread_over
      thread_13 h = refused_threads 13 0 (λ z. omega arith) (none_old_lem _ ms (λ m x. x) w ∙ rw (l, h))

      module _ (i : image_right R.first (length im) ≡ true) where
        pub thread_14 : table_right R.olds R.news ≡ false → ThreadsOver R ms im t (refused_move 14 0) im t.registers
        unfolding thread_over
        thread_14 h = refused_threads 14 0 (λ z. omega arith) (none_old_lem _ ms (λ m x. x) w ∙ rw (l, i, h))

        module _ (b : table_right R.olds R.news ≡ true) where
          pub thread_25 : list_right t.list t.registers ≡ false → ThreadsOver R ms im t (refused_move 25 0) im t.registers
          unfolding thread_over
          thread_25 h = refused_threads 25 0 (λ z. omega arith) (none_old_lem _ ms (λ m x. x) w ∙ rw (l, i, b, h))

          same_answer : (n : ℕ) → list_right t.list t.registers ≡ true → n ≡ length t.list / 2
              → frames_answer_over R ms im (frames_from t n 0) ≡ thread_over R ms im t
          unfolding thread_over frames_answer_over frames_of
          same_answer n h e = sym (none_old_lem _ ms (λ m x. x) w ∙ rw (l, i, b, h, ← e))

          pub thread-frames : (n : ℕ) (r : Move) (after after-rs : List ℕ) → list_right t.list t.registers ≡ true → n ≡ length t.list / 2
              → FramedOver R ms im (frames_from t n 0) t.registers r after after-rs → ThreadsOver R ms im t r after after-rs
          unfolding thread_image_over thread_registers_over frames_of
          thread-frames n r after after-rs h e q =
              let a = same_answer n h e in
              record {
                answer_is = q.answer_is ∙ a;
                image_is = q.image_is ∙ rw (← a, ← e);
                registers_is = q.registers_is ∙ rw (← a, ← e);
              }

-- 33, as the code tests it
pub allowed-is : (R : Restore) (m : Machine) (r : Bool) → r ≡ (cond false R.settings.version1 R.settings.version3 && same_machine m R.settings.machine) → allowed_new R m ≡ r
unfolding allowed_new
allowed-is R m r e = sym e
