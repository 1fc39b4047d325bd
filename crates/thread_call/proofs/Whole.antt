-- The whole call, from its stages.
use Prim.Native.Nat.{ℕ, zero, suc, ◌+◌, ◌*◌, ◌/◌, ◌≤◌, ◌<◌}
use mathlib.Core.Path.{◌≡◌, refl, sym, ap, ◌∙◌}
use mathlib.Core.Bool.{Bool, true, false, cond}
use mathlib.Core.List.{List, [], ◌∷◌, map, flatten, Memᴰ}
use native.Mathlib.Omega.{arith}
use native.Mathlib.Decide.{ℕ_discrete}
use borrow.Author.Tests.{ne_eqb, lt-ltb, le-ltb}
use lib.Dec.{eqb, ltb}
use lib.ListN.{length, get_or, replicate}
use Rattle.stackmap.specs.Verdict.{Valid, Refused}
use Rattle.stackmap.specs.Verdict.{need}
use Rattle.stackmap.specs.Check.{section_check, Accepted}
use Rattle.stackmap.proofs.Numbers.{section-numbered}
use Rattle.stackmap.proofs.Forth.{accepted-length}
use Rattle.questions.specs.Kept.{no_hits}
use Rattle.questions.specs.Questions.{ask}
use Rattle.moves.specs.declared.Move.{Move}
use Rattle.moves.specs.Table.{table_right}
use Rattle.moves.specs.Settle.{refused_move, accepted_move}
use Rattle.relocate.specs.Restore.{Restore, allowed}
use Rattle.relocate.specs.Stopped.{Stopped}
use Rattle.relocate.specs.Plan.{image_right}
use Rattle.relocate.specs.Relocation.{answer, extent_of}
use Rattle.relocate.specs.Lists.{final, final_registers}
use Rattle.thread.specs.Thread.{Thread, list_right, stopped_at, frames_from, frames_of, passes, apart, judged, pointers_in, thread_answer, thread_image, thread_registers}
use Rattle.thread.specs.Code.{Holding, Counted, EachSited, Threads, frames_answer, frames_image, frames_registers, Framed}
use Rattle.thread.proofs.Judged.{judged_tells, judged-passes}
use Rattle.thread_call.proofs.Sited.{accepted-sited}

-- a frame of the list, by its position
frame_in : (ns : Thread) (n i k : ℕ) → i ≤ k → k < i + n → Memᴰ (stopped_at ns k) (frames_from ns n i)
frame_in ns zero i k a b = absurd (omega arith)
frame_in ns (suc n) i k a b = go (frame_in ns n (suc i) k) (ℕ_discrete i k)
  where
    go : (suc i ≤ k → k < suc i + n → Memᴰ (stopped_at ns k) (frames_from ns n (suc i))) → Dec (i ≡ k)
        → Memᴰ (stopped_at ns k) (frames_from ns (suc n) i)
    go rest (yes e) = let g : stopped_at ns k ≡ stopped_at ns i = ap (stopped_at ns) (sym e) in Memᴰ.head g
    go rest (no d) = Memᴰ.tail (rest (omega arith) (omega arith))

module _ (R : Restore) (im : List ℕ) where
  -- a refused frame ends the call, whatever would follow
  judged-ends : (i : ℕ) (fs : List Stopped) (k k' : Move) → k.number ≡ 0 → ((judged R im i fs k).number ≡ 0 → ⊥)
      → judged R im i fs k ≡ judged R im i fs k'
  unfolding judged passes
  judged-ends i [] k k' z h = absurd (h z)
  judged-ends i (f ∷ fs) k k' z h = go (judged-ends (suc i) fs k k' z) (eqb (answer R im f).number 0) refl h
    where
      go : (((judged R im (suc i) fs k).number ≡ 0 → ⊥) → judged R im (suc i) fs k ≡ judged R im (suc i) fs k')
          → (b : Bool) → eqb (answer R im f).number 0 ≡ b
          → ((need b (refused_move (answer R im f).number i) (judged R im (suc i) fs k)).number ≡ 0 → ⊥)
          → need b (refused_move (answer R im f).number i) (judged R im (suc i) fs k)
          ≡ need b (refused_move (answer R im f).number i) (judged R im (suc i) fs k')
      go rest true e g = rest g
      go rest false e g = refl

  module _ (fs : List Stopped) (rs : List ℕ) (r : Move) (e : r ≡ judged R im 0 fs (accepted_move (pointers_in R im fs))) where
    -- a refusal leaves image and registers as lent
    refused_framed : (q : Move) {after after-rs : List ℕ} → (q.number ≡ 0 → ⊥) → q ≡ frames_answer R im fs → after ≡ im → after-rs ≡ rs → Framed R im fs rs q after after-rs
    unfolding frames_image frames_registers
    refused_framed q h a x y = record { answer_is = a; image_is = x ∙ rw (← a, ne_eqb q.number 0 h); registers_is = y ∙ rw (← a, ne_eqb q.number 0 h) }

    pub frames-refused : {after after-rs : List ℕ} → (r.number ≡ 0 → ⊥) → after ≡ im → after-rs ≡ rs → Framed R im fs rs r after after-rs
    unfolding frames_answer
    frames-refused h x y = refused_framed r h (e ∙ judged-ends 0 fs _ _ refl (rw e at h)) x y

    module _ (z : r.number ≡ 0) where
      each : (f : Stopped) → Memᴰ f fs → (answer R im f).number ≡ 0
      each = (judged_tells R im 0 fs _ (rw e at z)).0

      pub r_is : r ≡ accepted_move (pointers_in R im fs)
      r_is = e ∙ judged-passes R im 0 fs _ each

      answer_is : frames_answer R im fs ≡ apart 0 [] (map (extent_of R.section) fs) (accepted_move (pointers_in R im fs))
      unfolding frames_answer
      answer_is = judged-passes R im 0 fs _ each

      module _ (n : ℕ) (p : ℕ) (q : (m : Move) → apart 0 [] (map (extent_of R.section) fs) m ≡ cond (ltb p n) (refused_move 26 p) m) where
        pub frames_26 : {after after-rs : List ℕ} → p < n → after ≡ im → after-rs ≡ rs → Framed R im fs rs (refused_move 26 p) after after-rs
        frames_26 l x y =
            let a : frames_answer R im fs ≡ refused_move 26 p = answer_is ∙ q _ ∙ rw (lt-ltb p n l) in
            refused_framed (refused_move 26 p) (λ z. omega arith) (sym a) x y

        pub frames-moved : {after after-rs : List ℕ} → n ≤ p → after ≡ final R fs im → after-rs ≡ flatten (final_registers R fs im) → Framed R im fs rs r after after-rs
        unfolding frames_image frames_registers
        frames-moved l x y =
            let a : frames_answer R im fs ≡ accepted_move (pointers_in R im fs) = answer_is ∙ q _ ∙ rw (le-ltb p n l) in
            record { answer_is = r_is ∙ sym a; image_is = x ∙ rw a; registers_is = y ∙ rw a }

  pub each-sited : Accepted R.section → image_right R.first (length im) ≡ true → (ns : Thread) (n : ℕ) (r : Move)
      → r ≡ judged R im 0 (frames_from ns n 0) (accepted_move (pointers_in R im (frames_from ns n 0))) → r.number ≡ 0 → EachSited R.section ns n
  each-sited k i ns n r e z =
      record { at = λ j l. accepted-sited R im (stopped_at ns j) k i (each (frames_from ns n 0) ns.registers r e z _ (frame_in ns n 0 j (omega arith) (omega arith))) }

  -- The stages before the frames.

  module _ (ns : Thread) where
    refused_threads : (n p : ℕ) → (n ≡ 0 → ⊥) → thread_answer R im ns ≡ refused_move n p → Threads R im ns (refused_move n p) im ns.registers
    unfolding thread_image thread_registers
    refused_threads n p h e = record { answer_is = sym e; image_is = rw (e, ne_eqb n 0 h); registers_is = rw (e, ne_eqb n 0 h) }

    pub thread-section : (n p : ℕ) → section_check R.section ≡ Refused n p → Threads R im ns (refused_move n p) im ns.registers
    unfolding thread_answer ask
    thread-section n p h =
        let a = (rw h at (section-numbered R.section)).above in
        refused_threads n p (λ z. omega arith) (rw h)

    module _ (k : Accepted R.section) where
      pub thread_33 : allowed R ns.machine ≡ false → Threads R im ns (refused_move 33 0) im ns.registers
      unfolding thread_answer ask
      thread_33 h = refused_threads 33 0 (λ z. omega arith) (rw (k, h))

      module _ (w : allowed R ns.machine ≡ true) where
        pub thread_13 : image_right R.first (length im) ≡ false → Threads R im ns (refused_move 13 0) im ns.registers
        unfolding thread_answer ask
        thread_13 h = refused_threads 13 0 (λ z. omega arith) (rw (k, w, h))

        module _ (i : image_right R.first (length im) ≡ true) where
          pub thread_14 : table_right R.olds R.news ≡ false → Threads R im ns (refused_move 14 0) im ns.registers
          unfolding thread_answer ask
          thread_14 h = refused_threads 14 0 (λ z. omega arith) (rw (k, w, i, h))

          module _ (t : table_right R.olds R.news ≡ true) where
            pub thread_25 : list_right ns.list ns.registers ≡ false → Threads R im ns (refused_move 25 0) im ns.registers
            unfolding thread_answer ask
            thread_25 h = refused_threads 25 0 (λ z. omega arith) (rw (k, w, i, t, h))

            pub thread-frames : (n : ℕ) (r : Move) (after after-rs : List ℕ) → list_right ns.list ns.registers ≡ true → n ≡ length ns.list / 2
                → Framed R im (frames_from ns n 0) ns.registers r after after-rs → Threads R im ns r after after-rs
            unfolding thread_answer thread_image thread_registers frames_answer frames_image frames_registers frames_of ask
            thread-frames n r after after-rs h e q =
                record {
                  answer_is = q.answer_is ∙ rw (k, w, i, t, h, ← e);
                  image_is = q.image_is ∙ rw (k, w, i, t, h, ← e);
                  registers_is = q.registers_is ∙ rw (k, w, i, t, h, ← e);
                }

-- The section is accepted where its check is valid.
pub valid-accepted : (s : List ℕ) (e : ℕ) → Valid e ≡ section_check s → Accepted s
valid-accepted s e h = let v = sym h in v ∙ ap Valid (accepted-length s e v).0

-- Nothing is found before the walk.

blank : (n i : ℕ) → get_or {A = ℕ} (replicate n 0) i 0 ≡ 0
blank zero i = refl
blank (suc n) zero = refl
blank (suc n) (suc i) = blank n i

pub blank_holds : (keys : List ℕ) (n m : ℕ) → Holding keys n (replicate m 0) (λ a. no_hits)
blank_holds keys n m =
    record { at = λ i l b. λ k. record { index = blank m (4 * i) k; function = blank m (4 * i + 1) k; sharing = blank m (4 * i + 2) k; first = blank m (4 * i + 3) k } }

pub blank_counted : (m : ℕ) → Counted (replicate m 0) 0
blank_counted m = record { most = λ i. omega (arith, blank m (4 * i + 2)) }
