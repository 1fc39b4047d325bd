-- Demand 3, from the list theorem of the crate below.
use Prim.Native.Nat.{ℕ, ◌+◌, ◌-◌, ◌≤◌, ◌<◌}
use mathlib.Core.Path.{◌≡◌, refl, sym, ap, ◌∙◌, subst, fun_ext}
use mathlib.Core.Logic.{◌⊎◌, inl, inr, ⊎_elim}
use mathlib.Core.Option.{Option}
use mathlib.Core.List.Memᴰ
use mathlib.Core.List.Permᴰ
use mathlib.Core.List.{List, [], ◌∷◌, map, map-map, flatten, Memᴰ, Permᴰ}
use native.Mathlib.Omega.{arith}
use native.Mathlib.Decide.{ℕ_discrete}
use borrow.Author.Tests.{eq-eqb, ne_eqb}
use lib.ListN.{length, get_or}
use lib.Seq.{ext_get_or}
use Rattle.wire.specs.Word.{bytes}
use Rattle.stackmap.specs.Verdict.{Verdict}
use Rattle.stackmap.specs.Verdict.{Valid, Refused}
use Rattle.stackmap.specs.Layout.{stack_size_unknown}
use Rattle.stackmap.specs.Section.{Entry}
use Rattle.stackmap.specs.Check.{section_check, Accepted}
use Rattle.stackmap.proofs.Numbers.{section-numbered}
use Rattle.stackmap.proofs.Forth.{accepted-length}
use Rattle.questions.specs.Questions.{ask}
use Rattle.moves.specs.declared.Move.{Move}
use Rattle.moves.specs.Window.{In, part}
use Rattle.moves.specs.Table.{look_up}
use Rattle.moves.specs.Slots.{Slot, memory, register, state}
use Rattle.moves.specs.Pointers.{Pointer, slots, new_content}
use Rattle.moves.specs.Settle.{settled, settle}
use Rattle.moves.specs.Plan.{Plan, refuse, window, says, leaves, leaves_registers}
use Rattle.moves.proofs.Searches.{perm_mem}
use Rattle.moves.proofs.Splice.{splice-same}
use Rattle.moves.proofs.Cells.{SlotIn}
use Rattle.moves.proofs.Words.{from_image, read-part}
use Rattle.moves.proofs.Tasks.{Task, answer_in, after, run_answers, run_left, Separate, after-length, run-hit, run_miss}
use Rattle.moves.proofs.Lists.{task_of, window_task, refused_task, Fits, Sound, InWindow, task_good, all-inside, separate, find, final-slot, final-rest, registers-length, register-hit, register_miss, registers-refused}
use Rattle.moves.proofs.Lists.{Disjoint as WindowsApart, answers as list-answers}
use Rattle.relocate.specs.Restore.{Restore}
use Rattle.relocate.specs.Stopped.{Stopped, registers_right, cursor}
use Rattle.relocate.specs.Plan.{plan, stack_size}
use Rattle.relocate.specs.Relocation.{answer, moved, moved_registers, OneRecord, InExtent, extent_of, in_image, new_content_at}
use Rattle.relocate.specs.Lists.{answers, final, final_registers, Disjoint, Written, WrittenRegister, RegistersHold, Holds, Demand3, OrderFree}
use Rattle.relocate.proofs.Planned.{Above, Planned, Stands, planned, plan-above, window-lists, listed-stands, sound}

-- a new content in the image, and in a window of it
content-part : (table : ℕ → Option ℕ) (im rs : List ℕ) (off n m : ℕ) (b d : Slot) → SlotIn n m b → SlotIn n m d
    → new_content table (state (part im off n) rs) b d ≡ new_content table (state im rs) (from_image off b) (from_image off d)
unfolding new_content
content-part table im rs off n m b d h k = rw (read-part im rs off n m b h, read-part im rs off n m d k)

-- a slot counted from the stack pointer, by its place in the image
pub in_image_lem : (first sp off : ℕ) (x : Slot) → first ≤ sp → off ≡ sp - first → in_image first (from_image sp x) ≡ from_image off x
in_image_lem first sp off (memory a) l e = ap memory (omega arith)
in_image_lem first sp off (register r) l e = refl

-- a refused section's number and place are the plan's, and an answer with the number 0 is of an accepted section
pub plan-refused : (R : Restore) (n : ℕ) (f : Stopped) (m p : ℕ) → section_check R.section ≡ Refused m p → plan R n f ≡ refuse m p
unfolding plan ask
plan-refused R n f m p h = rw h

pub accepted-section : (R : Restore) (im : List ℕ) (f : Stopped) → (answer R im f).number ≡ 0 → Accepted R.section
unfolding answer
accepted-section R im f h = go (section_check R.section) refl
  where
    go : (v : Verdict) → section_check R.section ≡ v → Accepted R.section
    go (Valid e) q = q ∙ ap Valid (accepted-length R.section e q).0
    go (Refused m p) q =
        let a = (rw q at (section-numbered R.section)).above in
        let z : m ≡ 0 = rw (plan-refused R (length im) f m p q) at h in
        absurd (omega arith)

-- the extent of a frame that has one
pub extent-is : (s : List ℕ) (f : Stopped) (e : Entry) → length f.registers ≡ 32 → OneRecord s f.frame e → (stack_size e ≡ stack_size_unknown → ⊥)
    → extent_of s f ≡ record { start = (cursor f).sp; end = (cursor f).sp + stack_size e }
unfolding extent_of registers_right
extent-is s f e rs one k = rw (eq-eqb (length f.registers) 32 rs, one, ne_eqb (stack_size e) stack_size_unknown k)

-- a plan as a task of moves
says_task : (table : ℕ → Option ℕ) (im rs : List ℕ) (p : Plan) → says table im rs p ≡ (answer_in im (task_of table rs p)).0
unfolding window_task refused_task
says_task table im rs (refuse n q) = refl
says_task table im rs (window off size ps) = refl

leaves_task : (table : ℕ → Option ℕ) (im rs : List ℕ) (p : Plan) → leaves table im rs p ≡ after im (task_of table rs p)
unfolding window_task refused_task after
leaves_task table im rs (refuse n q) = sym (splice-same im 0 0)
leaves_task table im rs (window off size ps) = refl

registers_task : (table : ℕ → Option ℕ) (im rs : List ℕ) (p : Plan) → leaves_registers table im rs p ≡ (answer_in im (task_of table rs p)).1
unfolding window_task refused_task
registers_task table im rs (refuse n q) = refl
registers_task table im rs (window off size ps) = refl

-- the answer, and the registers that are left
abbrev answer_of : Move × List ℕ → Move
answer_of a = a.0

abbrev registers_in : Move × List ℕ → List ℕ
registers_in a = a.1

abbrev brought : Stopped → List ℕ
brought f = f.registers

module _ (R : Restore) (e : ℕ) (k : section_check R.section ≡ Valid e) where
  abbrev pub P : ℕ → Stopped → Plan
  P = plan R

  abbrev pub table : ℕ → Option ℕ
  table = look_up R.olds R.news

  snd : (n : ℕ) (f : Stopped) → Sound n (length (brought f)) (P n f)
  snd n f = sound R n f e k

  -- a byte of a window is a byte of an extent
  in_extent : (n : ℕ) (f : Stopped) (i : ℕ) → InWindow (P n f) i → InExtent R.section f (R.first + i)
  in_extent n f i = go (P n f) refl
    where
      go : (p : Plan) → P n f ≡ p → InWindow p i → InExtent R.section f (R.first + i)
      go (refuse m p) h q = absurd q
      go (window off size ws) h q =
          let w = planned R n f e k off size ws h in
          let x = extent-is R.section f w.entry w.registers w.one w.known in
          let a : (cursor f).sp ≤ R.first + i = omega (arith, w.off_is, w.low, q.low) in
          let b : R.first + i < (cursor f).sp + stack_size w.entry = omega (arith, w.off_is, w.low, w.size_is, q.high) in
          record { low = rw x a; high = rw x b }

  disjoint : (n : ℕ) (fs : List Stopped) → Disjoint R.section fs → WindowsApart P n fs
  disjoint n [] d = tt
  disjoint n (f ∷ fs) d = (λ g m i q r. d.0 g m (R.first + i) (in_extent n f i q) (in_extent n g i r), disjoint n fs d.1)

  abbrev tasks : ℕ → Stopped → Task (Move × List ℕ)
  tasks n f = task_of table f.registers (P n f)

  -- one move, as a task
  one-says : (im : List ℕ) (f : Stopped) → answer R im f ≡ (answer_in im (tasks (length im) f)).0
  unfolding answer
  one-says im f = says_task table im f.registers (P (length im) f)

  one_leaves : (im : List ℕ) (f : Stopped) → moved R im f ≡ after im (tasks (length im) f)
  unfolding moved
  one_leaves im f = leaves_task table im f.registers (P (length im) f)

  one-registers : (im : List ℕ) (f : Stopped) → moved_registers R im f ≡ (answer_in im (tasks (length im) f)).1
  unfolding moved_registers
  one-registers im f = registers_task table im f.registers (P (length im) f)

  answers-run : (fs : List Stopped) (im : List ℕ) → answers R fs im ≡ map answer_of (run_answers tasks fs im)
  answers-run [] im = refl
  answers-run (f ∷ fs) im = rw (one-says im f, one_leaves im f, answers-run fs (after im (tasks (length im) f)))

  registers-run : (fs : List Stopped) (im : List ℕ) → final_registers R fs im ≡ map registers_in (run_answers tasks fs im)
  registers-run [] im = refl
  registers-run (f ∷ fs) im = rw (one-registers im f, one_leaves im f, registers-run fs (after im (tasks (length im) f)))

  final-run : (fs : List Stopped) (im : List ℕ) → final R fs im ≡ run_left tasks fs im
  final-run [] im = refl
  final-run (f ∷ fs) im = rw (one_leaves im f) (final-run fs (after im (tasks (length im) f)))

  final-length : (fs : List Stopped) (im : List ℕ) → length (final R fs im) ≡ length im
  final-length [] im = refl
  final-length (f ∷ fs) im =
      rw (one_leaves im f)
      (final-length fs (after im (tasks (length im) f)) ∙ after-length im (tasks (length im) f) (task_good table (length im) f.registers (P (length im) f) (snd (length im) f)))

  plain : (fs : List Stopped) (im : List ℕ) → Disjoint R.section fs → answers R fs im ≡ map (answer R im) fs
  plain fs im d =
      answers-run fs im ∙ ap (map answer_of) (list-answers table brought P snd fs im (disjoint (length im) fs d))
      ∙ map-map answer_of (λ f. answer_in im (tasks (length im) f)) fs
      ∙ ap (λ (g : Stopped → Move). map g fs) (fun_ext (λ f. sym (one-says im f)))

  plain_registers : (fs : List Stopped) (im : List ℕ) → Disjoint R.section fs → final_registers R fs im ≡ map (moved_registers R im) fs
  plain_registers fs im d =
      registers-run fs im ∙ ap (map registers_in) (list-answers table brought P snd fs im (disjoint (length im) fs d))
      ∙ map-map registers_in (λ f. answer_in im (tasks (length im) f)) fs
      ∙ ap (λ (g : Stopped → List ℕ). map g fs) (fun_ext (λ f. sym (one-registers im f)))

  -- an accepted frame has a window, and its pairs are settled
  pub record Passed (im : List ℕ) (f : Stopped) : Type 0 where
    pub off : ℕ
    pub size : ℕ
    pub pairs : List (List Pointer)
    pub is_window : P (length im) f ≡ window off size pairs
    pub settled_0 : (settled table (flatten pairs) (state (part im off size) f.registers)).number ≡ 0

  pub accepts : (im : List ℕ) (f : Stopped) → (answer R im f).number ≡ 0 → Passed im f
  unfolding answer
  accepts im f h = go (P (length im) f) refl (plan-above R (length im) f e k) h
    where
      go : (p : Plan) → P (length im) f ≡ p → Above p → (says table im f.registers p).number ≡ 0 → Passed im f
      go (refuse n q) g a z = absurd (omega arith)
      go (window off size ws) g a z = record { off = off; size = size; pairs = ws; is_window = g; settled_0 = z }

  zero_says : (f : Stopped) (off size : ℕ) (ps : List (List Pointer)) (im : List ℕ) → P (length im) f ≡ window off size ps
      → (answer R im f).number ≡ 0 → (settled table (flatten ps) (state (part im off size) f.registers)).number ≡ 0
  unfolding answer
  zero_says f off size ps im g z = rw g at z

  yes_answer : (f : Stopped) (off size : ℕ) (ps : List (List Pointer)) (im : List ℕ) → P (length im) f ≡ window off size ps
      → (settled table (flatten ps) (state (part im off size) f.registers)).number ≡ 0 → (answer R im f).number ≡ 0
  unfolding answer
  yes_answer f off size ps im g z = rw g z

  -- a listed pointer's new content, in the image and in the window
  content_is : (im : List ℕ) (f : Stopped) (off size : ℕ) (b d b' d' : Slot) → R.first ≤ (cursor f).sp → off ≡ (cursor f).sp - R.first
      → SlotIn size 32 b' → SlotIn size 32 d' → b ≡ from_image (cursor f).sp b' → d ≡ from_image (cursor f).sp d'
      → new_content_at R im f.registers b d ≡ new_content table (state (part im off size) f.registers) b' d'
  content_is im f off size b d b' d' low o bi di be de =
      rw (be, de, in_image_lem R.first (cursor f).sp off b' low o, in_image_lem R.first (cursor f).sp off d' low o)
      (sym (content-part table im f.registers off size 32 b' d' bi di))

  slot : (fs : List Stopped) (im : List ℕ) → Disjoint R.section fs → (f : Stopped) (b : Slot) (d i : ℕ) → Written R im fs f b d i
      → get_or (final R fs im) i 0 ≡ get_or (bytes 8 (new_content_at R im f.registers b (memory d))) (R.first + i - d) 0
  slot fs im dis f b d i w = go v.derived refl
    where
      a : Passed im f
      a = accepts im f w.accepted

      q : Planned R (length im) f a.off a.size a.pairs
      q = planned R (length im) f e k a.off a.size a.pairs a.is_window

      v : Stands R (length im) f a.size a.pairs b (memory d)
      v = listed-stands R (length im) f a.off a.size a.pairs q b (memory d) w.lists

      go : (d' : Slot) → v.derived ≡ d'
          → get_or (final R fs im) i 0 ≡ get_or (bytes 8 (new_content_at R im f.registers b (memory d))) (R.first + i - d) 0
      go (register r) z = absurd (let y : memory d ≡ register r = v.derived_is ∙ ap (from_image (cursor f).sp) z in let x : ◌≡◌ {A = ℕ} 0 1 = cc in omega arith)
      go (memory d') z =
          let dm : memory d ≡ memory ((cursor f).sp + d') = v.derived_is ∙ ap (from_image (cursor f).sp) z in
          let de : d ≡ (cursor f).sp + d' = cc in
          let p : R.first + i - d ≡ i - (a.off + d') = omega (arith, q.off_is, q.low, de) in
          let din : d' + 8 ≤ a.size = subst (SlotIn a.size 32) z v.derived_in in
          rw (final-run fs im, p, content_is im f a.off a.size b (memory d) v.base (memory d') q.low q.off_is v.base_in din v.base_is dm)
          (final-slot table brought P snd fs im (disjoint (length im) fs dis) f w.in_list a.off a.size a.pairs v.base d' i
          (record {
            planned = a.is_window;
            accepted = a.settled_0;
            listed = subst (λ (x : Slot). Memᴰ (slots v.base x) (flatten a.pairs)) z v.member;
            inside = record { low = omega (arith, w.inside.low, q.off_is, q.low, de); high = omega (arith, w.inside.high, q.off_is, q.low, de) };
          }))

  rest : (fs : List Stopped) (im : List ℕ) → Disjoint R.section fs → (i : ℕ) → ((f : Stopped) (b : Slot) (d : ℕ) → Written R im fs f b d i → ⊥)
      → get_or (final R fs im) i 0 ≡ get_or im i 0
  rest fs im dis i none =
      rw (final-run fs im)
      (final-rest table brought P snd fs im (disjoint (length im) fs dis) i (λ f m off size ps b d h.
      let q = planned R (length im) f e k off size ps h.planned in
      none f (from_image (cursor f).sp b) ((cursor f).sp + d)
      (record {
        in_list = m;
        accepted = yes_answer f off size ps im h.planned h.accepted;
        lists = window-lists R (length im) f off size ps q b (memory d) h.listed;
        inside = record { low = omega (arith, h.inside.low, q.off_is, q.low); high = omega (arith, h.inside.high, q.off_is, q.low) };
      })))

  -- the registers of one move, by its plan
  plan-registers : (im : List ℕ) (f : Stopped) (p : Plan) → P (length im) f ≡ p → moved_registers R im f ≡ leaves_registers table im f.registers p
  unfolding moved_registers
  plan-registers im f p h = rw h

  registers_hold : (im : List ℕ) (f : Stopped) → RegistersHold R im f
  registers_hold im f = go (P (length im) f) refl
    where
      rs : List ℕ
      rs = f.registers

      go : (p : Plan) → P (length im) f ≡ p → RegistersHold R im f
      go (refuse n q) h =
          record {
            same_length = ap length (plan-registers im f (refuse n q) h);
            slot = λ b r w. absurd (let a = accepts im f w.accepted in let z : refuse n q ≡ window a.off a.size a.pairs = sym h ∙ a.is_window in let y : ◌≡◌ {A = ℕ} 0 1 = cc in omega arith);
            rest = λ r none. ap (λ (l : List ℕ). get_or l r 0) (plan-registers im f (refuse n q) h);
          }
      go (window off size ps) h =
          let q = planned R (length im) f e k off size ps h in
          let m = plan-registers im f (window off size ps) h in
          record {
            same_length = ap length m ∙ registers-length table im rs off size (flatten ps);
            slot = λ b r w. ap (λ (l : List ℕ). get_or l r 0) m ∙ hit q b r w;
            rest = λ r none. ap (λ (l : List ℕ). get_or l r 0) m ∙ miss q r none (ℕ_discrete (settled table (flatten ps) (state (part im off size) rs)).number 0);
          }
        where
          hit : Planned R (length im) f off size ps → (b : Slot) (r : ℕ) → WrittenRegister R im f b r
              → get_or (settle table (flatten ps) (state (part im off size) rs)).registers r 0 ≡ new_content_at R im rs b (register r)
          hit q b r w = on v.derived refl
            where
              v : Stands R (length im) f size ps b (register r)
              v = listed-stands R (length im) f off size ps q b (register r) w.lists

              fits : Fits (length im) (length rs) off size (flatten ps)
              fits = subst (Sound (length im) (length rs)) h (snd (length im) f)

              yes : (settled table (flatten ps) (state (part im off size) rs)).number ≡ 0
              yes = zero_says f off size ps im h w.accepted

              on : (d' : Slot) → v.derived ≡ d'
                  → get_or (settle table (flatten ps) (state (part im off size) rs)).registers r 0 ≡ new_content_at R im rs b (register r)
              on (memory a) z = absurd (let y : register r ≡ memory ((cursor f).sp + a) = v.derived_is ∙ ap (from_image (cursor f).sp) z in let x : ◌≡◌ {A = ℕ} 0 1 = cc in omega arith)
              on (register r') z =
                  let y : register r ≡ register r' = v.derived_is ∙ ap (from_image (cursor f).sp) z in
                  let y' : v.derived ≡ register r = z ∙ sym y in
                  register-hit table im rs off size (flatten ps) yes (all-inside table (length im) off size im rs (flatten ps) fits.window_in fits) v.base r
                  (subst (λ (x : Slot). Memᴰ (slots v.base x) (flatten ps)) y' v.member)
                  ∙ sym (content_is im f off size b (register r) v.base (register r) q.low q.off_is v.base_in (subst (SlotIn size 32) y' v.derived_in) v.base_is refl)

          miss : Planned R (length im) f off size ps → (r : ℕ) → ((b : Slot) → WrittenRegister R im f b r → ⊥)
              → Dec ((settled table (flatten ps) (state (part im off size) rs)).number ≡ 0)
              → get_or (settle table (flatten ps) (state (part im off size) rs)).registers r 0 ≡ get_or rs r 0
          miss q r none (no z) = ap (λ (l : List ℕ). get_or l r 0) (registers-refused table im rs off size (flatten ps) z)
          miss q r none (yes z) =
              register_miss table im rs off size (flatten ps) r (λ b m.
              none (from_image (cursor f).sp b) (record { accepted = yes_answer f off size ps im h z; lists = window-lists R (length im) f off size ps q b (register r) m }))

  -- two orders of one list leave one image
  one-image : (fs gs : List Stopped) (im : List ℕ) → Permᴰ fs gs → Disjoint R.section fs → Disjoint R.section gs
      → final R fs im ≡ final R gs im
  one-image fs gs im perm df dg =
      ext_get_or 0 _ _ (final-length fs im ∙ sym (final-length gs im)) (λ i h. rw (final-run fs im, final-run gs im) (go i (find table brought P snd (length im) fs i)))
    where
      sf : Separate (length im) (map (tasks (length im)) fs)
      sf = separate table brought P snd (length im) fs (disjoint (length im) fs df)

      sg : Separate (length im) (map (tasks (length im)) gs)
      sg = separate table brought P snd (length im) gs (disjoint (length im) gs dg)

      Here : ℕ → Stopped → Type 0
      Here i f = In (tasks (length im) f).off (tasks (length im) f).size i

      go : (i : ℕ) → ((f : Stopped) × Memᴰ f fs × Here i f) ⊎ ((f : Stopped) → Memᴰ f fs → Here i f → ⊥)
          → get_or (run_left tasks fs im) i 0 ≡ get_or (run_left tasks gs im) i 0
      go i (inl o) = run-hit tasks o.1 im sf i o.2 ∙ sym (run-hit tasks (perm_mem perm o.1) im sg i o.2)
      go i (inr n) = run_miss tasks fs im sf i n ∙ sym (run_miss tasks gs im sg i (λ f m. n f (perm_mem (Permᴰ.symm perm) m)))

pub disjoint_perm : (s : List ℕ) {fs gs : List Stopped} → Permᴰ fs gs → Disjoint s fs → Disjoint s gs
disjoint_perm s Permᴰ.nil d = tt
disjoint_perm s (Permᴰ.cons {a = f} {b = g} e p) d =
    (λ h m. rw (← e) (d.0 h (perm_mem (Permᴰ.symm p) m)), disjoint_perm s p d.1)
disjoint_perm s (Permᴰ.swap {a = f} {b = g} {a' = g'} {b' = f'} e₁ e₂) d =
    rw (← e₁, ← e₂) (
      (λ h m a x y. ⊎_elim (λ q. d.0 g (Memᴰ.head refl) a (subst (λ (k : Stopped). InExtent s k a) q y) x) (λ n. d.1.0 h n a x y) (Memᴰ.cases_cons m)),
      ((λ h m. d.0 h (Memᴰ.tail m)), d.1.1),
    )
disjoint_perm s (Permᴰ.trans p q) d = disjoint_perm s q (disjoint_perm s p d)

-- On a refused section nothing moves.
module _ (R : Restore) (m p : ℕ) (k : section_check R.section ≡ Refused m p) where
  refused-moved : (im : List ℕ) (f : Stopped) → moved R im f ≡ im
  unfolding moved
  refused-moved im f = rw (plan-refused R (length im) f m p k)

  refused-registers : (im : List ℕ) (f : Stopped) → moved_registers R im f ≡ f.registers
  unfolding moved_registers
  refused-registers im f = rw (plan-refused R (length im) f m p k)

  refused-final : (fs : List Stopped) (im : List ℕ) → final R fs im ≡ im
  refused-final [] im = refl
  refused-final (f ∷ fs) im = rw (refused-moved im f) (refused-final fs im)

  refused-plain : (fs : List Stopped) (im : List ℕ) → answers R fs im ≡ map (answer R im) fs
  refused-plain [] im = refl
  refused-plain (f ∷ fs) im = rw (refused-moved im f, refused-plain fs im)

  refused-plain_registers : (fs : List Stopped) (im : List ℕ) → final_registers R fs im ≡ map (moved_registers R im) fs
  refused-plain_registers [] im = refl
  refused-plain_registers (f ∷ fs) im = rw (refused-moved im f, refused-plain_registers fs im)

  refused-slot : (im : List ℕ) (f : Stopped) → (answer R im f).number ≡ 0 → ⊥
  refused-slot im f h =
      let z : Valid (length R.section) ≡ Refused m p = sym (accepted-section R im f h) ∙ k in
      let y : ◌≡◌ {A = ℕ} 0 1 = cc in
      omega arith

  refused-holds : (im : List ℕ) (fs : List Stopped) → Holds R im fs
  refused-holds im fs =
      record {
        plain = refused-plain fs im;
        plain_registers = refused-plain_registers fs im;
        registers = λ f h.
            record {
              same_length = ap length (refused-registers im f);
              slot = λ b r w. absurd (refused-slot im f w.accepted);
              rest = λ r n. ap (λ (l : List ℕ). get_or l r 0) (refused-registers im f);
            };
        same_length = ap length (refused-final fs im);
        slot = λ f b d i w. absurd (refused-slot im f w.accepted);
        rest = λ i n. ap (λ (l : List ℕ). get_or l i 0) (refused-final fs im);
      }

pub demand3 : Demand3
demand3 R im fs d = go (section_check R.section) refl
  where
    go : (v : Verdict) → section_check R.section ≡ v → Holds R im fs
    go (Refused m p) k = refused-holds R m p k im fs
    go (Valid e) k =
        record {
          plain = plain R e k fs im d;
          plain_registers = plain_registers R e k fs im d;
          registers = λ f m. registers_hold R e k im f;
          same_length = final-length R e k fs im;
          slot = slot R e k fs im d;
          rest = rest R e k fs im d;
        }

pub order_free : OrderFree
order_free R im fs gs p d =
    let d' = disjoint_perm R.section p d in
    record { disjoint = d'; holds = demand3 R im gs d'; same_image = go d' (section_check R.section) refl }
  where
    go : Disjoint R.section gs → (v : Verdict) → section_check R.section ≡ v → final R fs im ≡ final R gs im
    go d' (Refused m q) k = refused-final R m q k fs im ∙ sym (refused-final R m q k gs im)
    go d' (Valid e) k = one-image R e k fs gs im p d d'
