-- The call frame by frame: a frame's plan by its own map is a plan like any other, so that the theorem on lists of tasks serves.
use Prim.Native.Nat.{ℕ, suc, ◌+◌, ◌≤◌, ◌<◌}
use mathlib.Core.Path.{◌≡◌, refl, sym, ap, ◌∙◌, subst, fun_ext}
use mathlib.Core.Bool.{Bool, true, false, not}
use mathlib.Core.Logic.{◌⊎◌, inl, inr, ⊎_elim}
use mathlib.Core.Option.{Option}
use mathlib.Core.List.Memᴰ
use mathlib.Core.List.Permᴰ
use mathlib.Core.List.{List, [], ◌∷◌, map, map-map, flatten, Memᴰ, Permᴰ}
use native.Mathlib.Omega.{arith}
use borrow.Author.Tests.{eq-eqb}
use lib.ListN.{length, get_or}
use lib.Seq.{ext_get_or}
use Rattle.stackmap.specs.Verdict.{Verdict}
use Rattle.stackmap.specs.Verdict.{Valid, Refused}
use Rattle.stackmap.specs.Verdict.{need}
use Rattle.stackmap.specs.Section.{is_old}
use Rattle.stackmap.specs.Check.{section_check}
use Rattle.moves.specs.declared.Move.{Move}
use Rattle.moves.specs.Window.{In}
use Rattle.moves.specs.Table.{table_right, look_up}
use Rattle.moves.specs.Settle.{refused_move, accepted_move}
use Rattle.moves.specs.Plan.{Plan, refuse, window, leaves, leaves_registers}
use Rattle.moves.proofs.Searches.{perm_mem, or_no}
use Rattle.moves.proofs.Splice.{splice-same}
use Rattle.moves.proofs.Tasks.{Task, answer_in, after, run_answers, run_left, Separate, after-length, run-hit, run_miss}
use Rattle.moves.proofs.Lists.{task_of, window_task, refused_task, Sound, InWindow, task_good, separate, find}
use Rattle.moves.proofs.Lists.{Disjoint as WindowsApart, answers as list-answers}
use Rattle.relocate.specs.Restore.{Restore}
use Rattle.relocate.specs.Stopped.{Stopped, cursor}
use Rattle.relocate.specs.Plan.{plan, image_right, stack_size}
use Rattle.relocate.specs.Relocation.{moved, moved_registers, extent_of}
use Rattle.relocate.specs.Reorder.{with_section}
use Rattle.relocate.proofs.Planned.{planned, sound}
use Rattle.relocate.proofs.Demand.{plan-refused, extent-is}
use Rattle.linked.specs.Linked.{Map, cut, maps}
use Rattle.linked.specs.Find.{MapEntry, none_old}
use Rattle.thread.specs.Thread.{Thread, list_right, frames_of, share, shares_one, apart}
use Rattle.thread.proofs.Overlaps.{Within, share-none}
use Rattle.linked_moves.specs.Thread.{records_over, by_map, extent_over, allowed_new, answer_over, moved_over, moved_registers_over, final_over, final_registers_over, judged_over, pointers_over, thread_over, thread_image_over, thread_registers_over, linked_answer, linked_image, linked_registers}
use Rattle.linked_moves.proofs.Judged.{judged-passes, judged_tells}
use Rattle.linked_laws.specs.Laws.{InExtentOver, DisjointOver, ByFrames, FrameByFrame}

-- a plan as a task of moves
leaves_task : (table : ℕ → Option ℕ) (im rs : List ℕ) (p : Plan) → leaves table im rs p ≡ after im (task_of table rs p)
unfolding window_task refused_task after
leaves_task table im rs (refuse n q) = sym (splice-same im 0 0)
leaves_task table im rs (window off size ps) = refl

registers_task : (table : ℕ → Option ℕ) (im rs : List ℕ) (p : Plan) → leaves_registers table im rs p ≡ (answer_in im (task_of table rs p)).1
unfolding window_task refused_task
registers_task table im rs (refuse n q) = refl
registers_task table im rs (window off size ps) = refl

abbrev registers_in : Move × List ℕ → List ℕ
registers_in a = a.1

abbrev brought : Stopped → List ℕ
brought f = f.registers

module _ (R : Restore) (ms : List Map) where
  abbrev table : ℕ → Option ℕ
  table = look_up R.olds R.news

  abbrev plan_by : ℕ → Stopped → List MapEntry → Plan
  plan_by n f xs = by_map (refuse 10 0) (refuse 15 0) (λ s. plan (with_section R s) n f) xs

  -- the plan of a frame by its own map
  abbrev P : ℕ → Stopped → Plan
  P n f = plan_by n f (records_over ms f)

  abbrev tasks : ℕ → Stopped → Task (Move × List ℕ)
  tasks n f = task_of table f.registers (P n f)

  one_leaves : (im : List ℕ) (f : Stopped) → moved_over R ms im f ≡ after im (tasks (length im) f)
  unfolding moved_over moved
  one_leaves im f = go (records_over ms f) ∙ leaves_task table im f.registers (P (length im) f)
    where
      go : (xs : List MapEntry) → by_map im im (λ s. moved (with_section R s) im f) xs ≡ leaves table im f.registers (plan_by (length im) f xs)
      go [] = refl
      go (x ∷ []) = refl
      go (x ∷ y ∷ xs) = refl

  one-registers : (im : List ℕ) (f : Stopped) → moved_registers_over R ms im f ≡ (answer_in im (tasks (length im) f)).1
  unfolding moved_registers_over moved_registers
  one-registers im f = go (records_over ms f) ∙ registers_task table im f.registers (P (length im) f)
    where
      go : (xs : List MapEntry) → by_map f.registers f.registers (λ s. moved_registers (with_section R s) im f) xs ≡ leaves_registers table im f.registers (plan_by (length im) f xs)
      go [] = refl
      go (x ∷ []) = refl
      go (x ∷ y ∷ xs) = refl

  snd : (n : ℕ) (f : Stopped) → Sound n (length (brought f)) (P n f)
  snd n f = go (records_over ms f)
    where
      by : (s : List ℕ) (v : Verdict) → section_check s ≡ v → Sound n (length f.registers) (plan (with_section R s) n f)
      by s (Valid e) k = sound (with_section R s) n f e k
      by s (Refused m p) k = rw (plan-refused (with_section R s) n f m p k) tt

      go : (xs : List MapEntry) → Sound n (length f.registers) (plan_by n f xs)
      go [] = tt
      go (x ∷ []) = by x.map.content (section_check x.map.content) refl
      go (x ∷ y ∷ xs) = tt

  -- a byte of a window is a byte of an extent
  in_extent : (n : ℕ) (f : Stopped) (i : ℕ) → InWindow (P n f) i → InExtentOver ms f (R.first + i)
  unfolding extent_over
  in_extent n f i = go (records_over ms f) refl
    where
      at : (s : List ℕ) → extent_over ms f ≡ extent_of s f → (e : ℕ) → section_check s ≡ Valid e → (p : Plan) → plan (with_section R s) n f ≡ p → InWindow p i → InExtentOver ms f (R.first + i)
      at s z e k (refuse m p) h q = absurd q
      at s z e k (window off size ws) h q =
          let w = planned (with_section R s) n f e k off size ws h in
          let x = z ∙ extent-is s f w.entry w.registers w.one w.known in
          let a : (cursor f).sp ≤ R.first + i = omega (arith, w.off_is, w.low, q.low) in
          let b : R.first + i < (cursor f).sp + stack_size w.entry = omega (arith, w.off_is, w.low, w.size_is, q.high) in
          record { low = rw x a; high = rw x b }

      by : (s : List ℕ) → extent_over ms f ≡ extent_of s f → (v : Verdict) → section_check s ≡ v → InWindow (plan (with_section R s) n f) i → InExtentOver ms f (R.first + i)
      by s z (Valid e) k q = at s z e k (plan (with_section R s) n f) refl q
      by s z (Refused m p) k q = absurd (subst (λ (y : Plan). InWindow y i) (plan-refused (with_section R s) n f m p k) q)

      go : (xs : List MapEntry) → records_over ms f ≡ xs → InWindow (plan_by n f xs) i → InExtentOver ms f (R.first + i)
      go [] e q = absurd q
      go (x ∷ []) e q = by x.map.content (rw e) (section_check x.map.content) refl q
      go (x ∷ y ∷ xs) e q = absurd q

  disjoint : (n : ℕ) (fs : List Stopped) → DisjointOver ms fs → WindowsApart P n fs
  disjoint n [] d = tt
  disjoint n (f ∷ fs) d = (λ g m i q r. d.0 g m (R.first + i) (in_extent n f i q) (in_extent n g i r), disjoint n fs d.1)

  registers-run : (fs : List Stopped) (im : List ℕ) → final_registers_over R ms fs im ≡ map registers_in (run_answers tasks fs im)
  registers-run [] im = refl
  registers-run (f ∷ fs) im = rw (one-registers im f, one_leaves im f, registers-run fs (after im (tasks (length im) f)))

  final-run : (fs : List Stopped) (im : List ℕ) → final_over R ms fs im ≡ run_left tasks fs im
  final-run [] im = refl
  final-run (f ∷ fs) im = rw (one_leaves im f) (final-run fs (after im (tasks (length im) f)))

  final-length : (fs : List Stopped) (im : List ℕ) → length (final_over R ms fs im) ≡ length im
  final-length [] im = refl
  final-length (f ∷ fs) im =
      rw (one_leaves im f)
      (final-length fs (after im (tasks (length im) f)) ∙ after-length im (tasks (length im) f) (task_good table (length im) f.registers (P (length im) f) (snd (length im) f)))

  plain_registers : (fs : List Stopped) (im : List ℕ) → DisjointOver ms fs → final_registers_over R ms fs im ≡ map (moved_registers_over R ms im) fs
  plain_registers fs im d =
      registers-run fs im ∙ ap (map registers_in) (list-answers table brought P snd fs im (disjoint (length im) fs d))
      ∙ map-map registers_in (λ f. answer_in im (tasks (length im) f)) fs
      ∙ ap (λ (g : Stopped → List ℕ). map g fs) (fun_ext (λ f. sym (one-registers im f)))

  -- two orders of one list leave one image
  one-image : (fs gs : List Stopped) (im : List ℕ) → Permᴰ fs gs → DisjointOver ms fs → DisjointOver ms gs → final_over R ms fs im ≡ final_over R ms gs im
  one-image fs gs im perm df dg =
      ext_get_or 0 _ _ (final-length fs im ∙ sym (final-length gs im)) (λ i h. rw (final-run fs im, final-run gs im) (go i (find table brought P snd (length im) fs i)))
    where
      sf : Separate (length im) (map (tasks (length im)) fs)
      sf = separate table brought P snd (length im) fs (disjoint (length im) fs df)

      sg : Separate (length im) (map (tasks (length im)) gs)
      sg = separate table brought P snd (length im) gs (disjoint (length im) gs dg)

      At : ℕ → Stopped → Type 0
      At i f = In (tasks (length im) f).off (tasks (length im) f).size i

      go : (i : ℕ) → ((f : Stopped) × Memᴰ f fs × At i f) ⊎ ((f : Stopped) → Memᴰ f fs → At i f → ⊥)
          → get_or (run_left tasks fs im) i 0 ≡ get_or (run_left tasks gs im) i 0
      go i (inl o) = run-hit tasks o.1 im sf i o.2 ∙ sym (run-hit tasks (perm_mem perm o.1) im sg i o.2)
      go i (inr n) = run_miss tasks fs im sf i n ∙ sym (run_miss tasks gs im sg i (λ f m. n f (perm_mem (Permᴰ.symm perm) m)))

-- Extents that share no byte.

disjoint_perm : (ms : List Map) {fs gs : List Stopped} → Permᴰ fs gs → DisjointOver ms fs → DisjointOver ms gs
disjoint_perm ms Permᴰ.nil d = tt
disjoint_perm ms (Permᴰ.cons {a = f} {b = g} e p) d =
    (λ h m. rw (← e) (d.0 h (perm_mem (Permᴰ.symm p) m)), disjoint_perm ms p d.1)
disjoint_perm ms (Permᴰ.swap {a = f} {b = g} {a' = g'} {b' = f'} e₁ e₂) d =
    rw (← e₁, ← e₂) (
      (λ h m a x y. ⊎_elim (λ q. d.0 g (Memᴰ.head refl) a (subst (λ (k : Stopped). InExtentOver ms k a) q y) x) (λ n. d.1.0 h n a x y) (Memᴰ.cases_cons m)),
      ((λ h m. d.0 h (Memᴰ.tail m)), d.1.1),
    )
disjoint_perm ms (Permᴰ.trans p q) d = disjoint_perm ms q (disjoint_perm ms p d)

module _ (ms : List Map) where
  abbrev Apart : Stopped → List Stopped → Type 0
  Apart f gs = (g : Stopped) → Memᴰ g gs → (a : ℕ) → InExtentOver ms f a → InExtentOver ms g a → ⊥

  within : (f : Stopped) (a : ℕ) → InExtentOver ms f a → Within (extent_over ms f).start (extent_over ms f).end a
  within f a i = record { low = i.low; high = i.high }

  shares_none : (f : Stopped) (gs : List Stopped) → shares_one (extent_over ms f) (map (extent_over ms) gs) ≡ false → Apart f gs
  shares_none f [] h = λ g m a p q. absurd (Memᴰ.not-nil m)
  shares_none f (x ∷ gs) h =
      λ g m a p q. ⊎_elim
      (λ e. share-none _ _ _ _ o.0 a (within f a p) (within x a (rw e at q)))
      (λ n. shares_none f gs o.1 g n a p q)
      (Memᴰ.cases_cons m)
    where
      o : (share (extent_over ms f).start (extent_over ms f).end (extent_over ms x).start (extent_over ms x).end ≡ false)
          × (shares_one (extent_over ms f) (map (extent_over ms) gs) ≡ false)
      o = or_no _ _ h

  -- the test passes only where no two share a byte, and none shares one with an earlier frame
  apart_tells : (i : ℕ) (gs fs : List Stopped) (k : Move) → (apart i (map (extent_over ms) gs) (map (extent_over ms) fs) k).number ≡ 0
      → DisjointOver ms fs × ((f : Stopped) → Memᴰ f fs → Apart f gs)
  unfolding apart
  apart_tells i gs [] k h = (tt, λ f m. absurd (Memᴰ.not-nil m))
  apart_tells i gs (f ∷ fs) k h = go (apart_tells (suc i) (f ∷ gs) fs k) (shares_one (extent_over ms f) (map (extent_over ms) gs)) refl
    where
      go : ((apart (suc i) (map (extent_over ms) (f ∷ gs)) (map (extent_over ms) fs) k).number ≡ 0
          → DisjointOver ms fs × ((g : Stopped) → Memᴰ g fs → Apart g (f ∷ gs)))
          → (t : Bool) → shares_one (extent_over ms f) (map (extent_over ms) gs) ≡ t
          → DisjointOver ms (f ∷ fs) × ((g : Stopped) → Memᴰ g (f ∷ fs) → Apart g gs)
      go rest true e = absurd (let z : ◌≡◌ {A = ℕ} 26 0 = rw e at h in omega arith)
      go rest false e =
          let r = rest (rw e at h) in (
            ((λ g m a p q. r.1 g m f (Memᴰ.head refl) a q p), r.0),
            λ g m. ⊎_elim (λ x. rw x (shares_none f gs e)) (λ n y o. r.1 g n y (Memᴰ.tail o)) (Memᴰ.cases_cons m),
          )

-- An accepted call has passed each step.

need-rest : (b : Bool) (n p : ℕ) (k : Move) → (need b (refused_move (suc n) p) k).number ≡ 0 → k.number ≡ 0
need-rest true n p k h = h
need-rest false n p k h = absurd (omega arith)

none_rest : (ms : List Map) (k : Move) → (none_old refused_move ms k).number ≡ 0 → k.number ≡ 0
unfolding none_old
none_rest [] k h = h
none_rest (m ∷ ms) k h = none_rest ms k (need-rest (not (is_old m.content)) 26 m.first _ h)

module _ (R : Restore) (im : List ℕ) (t : Thread) (ms : List Map) (c : cut R.section ≡ maps ms) (z : (linked_answer R im t).number ≡ 0) where
  passed : (thread_over R ms im t).number ≡ 0
  unfolding linked_answer
  passed = rw c at z

  judged_0 : (judged_over R ms im 0 (frames_of t) (apart 0 [] (map (extent_over ms) (frames_of t)) (accepted_move (pointers_over R ms im (frames_of t))))).number ≡ 0
  unfolding thread_over
  judged_0 =
      need-rest (list_right t.list t.registers) 24 0 _
      (need-rest (table_right R.olds R.news) 13 0 _
      (need-rest (image_right R.first (length im)) 12 0 _
      (need-rest (allowed_new R t.machine) 32 0 _ (none_rest ms _ passed))))

  each : (f : Stopped) → Memᴰ f (frames_of t) → (answer_over R ms im f).number ≡ 0
  each = judged_tells R ms im 0 (frames_of t) _ judged_0

  apart-all : DisjointOver ms (frames_of t)
  apart-all = (apart_tells ms 0 [] (frames_of t) _ (rw (judged-passes R ms im 0 (frames_of t) _ each) at judged_0)).0

  image-list : linked_image R im t ≡ final_over R ms (frames_of t) im
  unfolding linked_image thread_image_over
  image-list = rw (c, eq-eqb _ 0 passed)

  registers-list : linked_registers R im t ≡ flatten (final_registers_over R ms (frames_of t) im)
  unfolding linked_registers thread_registers_over
  registers-list = rw (c, eq-eqb _ 0 passed)

  by_frames : ByFrames R im t ms
  by_frames =
      record {
        each = each;
        disjoint = apart-all;
        registers_are = registers-list ∙ ap flatten (plain_registers R ms (frames_of t) im apart-all);
        image_is = λ fs p. image-list ∙ one-image R ms (frames_of t) fs im p apart-all (disjoint_perm ms p apart-all);
      }

pub frame_by_frame : FrameByFrame
frame_by_frame = by_frames
