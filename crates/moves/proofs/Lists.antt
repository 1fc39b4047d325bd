-- A list of frames, each refused or with a window: what each move answers, and what the last one leaves.
use Prim.Native.Nat.{ℕ, ◌+◌, ◌-◌, ◌≤◌}
use mathlib.Core.Path.{◌≡◌, refl, ap, ◌∙◌, subst}
use mathlib.Core.Logic.{◌⊎◌, inl, inr}
use mathlib.Core.Option.{Option}
use mathlib.Core.List.Memᴰ
use mathlib.Core.List.{List, [], ◌∷◌, map, flatten, Memᴰ}
use native.Mathlib.Omega.{arith}
use native.Mathlib.Decide.{ℕ_discrete}
use lib.ListN.{length, get_or}
use Rattle.wire.specs.Word.{bytes}
use Rattle.moves.specs.declared.Move.{Move}
use Rattle.moves.specs.Window.{part, In}
use Rattle.moves.specs.Slots.{Slot, memory, register, State, state}
use Rattle.moves.specs.Pointers.{Pointer, slots, new_content}
use Rattle.moves.specs.Settle.{refused_move, settled, settle}
use Rattle.moves.specs.Plan.{Plan, refuse, window, at_pair}
use Rattle.moves.proofs.Splice.{in?, part_length, part_at}
use Rattle.moves.proofs.Cells.{byte, whole, Touches, SlotIn}
use Rattle.moves.proofs.Writes.{Inside}
use Rattle.moves.proofs.Order.{settle_shape, settle-hit, settle_miss, settle-refused}
use Rattle.moves.proofs.Tasks.{Task, Good, answer_in, new_part, AllApart, Separate, run_answers, run_left, run-answers, run-hit, run_miss}

-- What a frame does whose window and pairs are known, and one that is refused before that; rs are its registers. The registers that are
-- left are a part of the answer: no frame sees another's.
unfoldable pub window_task : (ℕ → Option ℕ) → List ℕ → ℕ → ℕ → List (List Pointer) → Task (Move × List ℕ)
window_task table rs off size pss =
    record {
      off = off;
      size = size;
      answer = λ w. (at_pair pss (settled table (flatten pss) (state w rs)), (settle table (flatten pss) (state w rs)).registers);
      bytes = λ w. (settle table (flatten pss) (state w rs)).window;
    }

unfoldable pub refused_task : List ℕ → ℕ → ℕ → Task (Move × List ℕ)
refused_task rs number place = record { off = 0; size = 0; answer = λ w. (refused_move number place, rs); bytes = λ w. w }

abbrev pub task_of : (ℕ → Option ℕ) → List ℕ → Plan → Task (Move × List ℕ)
task_of table rs (refuse number place) = refused_task rs number place
task_of table rs (window off size pss) = window_task table rs off size pss

-- the window lies in an image of n bytes, and the slots in the window or among m registers
pub record Fits (n m off size : ℕ) (ps : List Pointer) : Type 0 where
  pub window_in : off + size ≤ n
  pub base_in : (b d : Slot) → Memᴰ (slots b d) ps → SlotIn size m b
  pub derived_in : (b d : Slot) → Memᴰ (slots b d) ps → SlotIn size m d

abbrev pub Sound : ℕ → ℕ → Plan → Type 0
Sound n m (refuse number place) = Unit {0}
Sound n m (window off size pss) = Fits n m off size (flatten pss)

abbrev pub InWindow : Plan → ℕ → Type 0
InWindow (refuse number place) i = ⊥
InWindow (window off size pss) i = In off size i

module _ {F : Type 0} (plan : ℕ → F → Plan) where
  -- no two frames of the list share a byte of their windows
  abbrev pub Disjoint : ℕ → List F → Type 0
  Disjoint n [] = Unit {0}
  Disjoint n (f ∷ fs) = ((g : F) → Memᴰ g fs → (i : ℕ) → InWindow (plan n f) i → InWindow (plan n g) i → ⊥) × Disjoint n fs

  -- byte i is in the derived slot d in memory, with the base slot b, of the frame f, which is accepted on im with the registers rs
  pub record Moves (table : ℕ → Option ℕ) (im rs : List ℕ) (f : F) (off size : ℕ) (pss : List (List Pointer)) (b : Slot) (d i : ℕ) : Type 0 where
    pub planned : plan (length im) f ≡ window off size pss
    pub accepted : (settled table (flatten pss) (state (part im off size) rs)).number ≡ 0
    pub listed : Memᴰ (slots b (memory d)) (flatten pss)
    pub inside : In (off + d) 8 i

module _ (table : ℕ → Option ℕ) where
  pub task_good : (n : ℕ) (rs : List ℕ) (p : Plan) → Sound n (length rs) p → Good n (task_of table rs p)
  unfolding window_task refused_task
  task_good n rs (refuse number place) s = record { fits = omega arith; keeps = λ w. refl }
  task_good n rs (window off size pss) s = record { fits = s.window_in; keeps = λ w. (settle_shape table (flatten pss) (state w rs)).windows }

  task_in : (rs : List ℕ) (p : Plan) (i : ℕ) → In (task_of table rs p).off (task_of table rs p).size i → InWindow p i
  unfolding window_task refused_task
  task_in rs (refuse number place) i q = omega arith
  task_in rs (window off size pss) i q = q

  -- the derived slots of a plan are inside
  pub all-inside : (n off size : ℕ) (im rs : List ℕ) (ps : List Pointer) → off + size ≤ length im → Fits n (length rs) off size ps
      → Inside (state (part im off size) rs) ps
  all-inside n off size im rs ps h s b d m = rw (part_length im off size h) (s.derived_in b d m)

  module _ {F : Type 0} (registers : F → List ℕ) (plan : ℕ → F → Plan) (sound : (n : ℕ) (f : F) → Sound n (length (registers f)) (plan n f)) where
    abbrev pub tasks : ℕ → F → Task (Move × List ℕ)
    tasks n f = task_of table (registers f) (plan n f)

    all_apart : (n : ℕ) (f : F) (gs : List F) → ((g : F) → Memᴰ g gs → (i : ℕ) → InWindow (plan n f) i → InWindow (plan n g) i → ⊥)
        → AllApart (tasks n f) (map (tasks n) gs)
    all_apart n f [] h = tt
    all_apart n f (g ∷ gs) h =
        (λ i q r. h g (Memᴰ.head refl) i (task_in (registers f) (plan n f) i q) (task_in (registers g) (plan n g) i r), all_apart n f gs (λ k m. h k (Memᴰ.tail m)))

    pub separate : (n : ℕ) (fs : List F) → Disjoint plan n fs → Separate n (map (tasks n) fs)
    separate n [] d = tt
    separate n (f ∷ fs) d = (task_good n (registers f) (plan n f) (sound n f), all_apart n f fs d.0, separate n fs d.1)

    -- each move's answer and the registers that it leaves are its frame's plain ones
    pub answers : (fs : List F) (im : List ℕ) → Disjoint plan (length im) fs
        → run_answers tasks fs im ≡ map (λ f. answer_in im (tasks (length im) f)) fs
    answers fs im d = run-answers tasks fs im (separate (length im) fs d)

    -- a byte in a derived slot of an accepted frame is that byte of the slot's new content, worked out from the starting image
    pub final-slot : (fs : List F) (im : List ℕ) → Disjoint plan (length im) fs
        → (f : F) → Memᴰ f fs → (off size : ℕ) (pss : List (List Pointer)) (b : Slot) (d i : ℕ) → Moves plan table im (registers f) f off size pss b d i
        → get_or (run_left tasks fs im) i 0 ≡ get_or (bytes 8 (new_content table (state (part im off size) (registers f)) b (memory d))) (i - (off + d)) 0
    unfolding window_task
    final-slot fs im dis f m off size pss b d i h =
        let ps = flatten pss in
        let rs = registers f in
        let s : Fits (length im) (length rs) off size ps = subst (Sound (length im) (length rs)) h.planned (sound (length im) f) in
        let e : tasks (length im) f ≡ window_task table rs off size pss = ap (task_of table rs) h.planned in
        let k : d + 8 ≤ size = s.derived_in b (memory d) h.listed in
        let g : i - off - d ≡ i - (off + d) = omega arith in
        run-hit tasks m im (separate (length im) fs dis) i (rw e (record { low = omega arith; high = omega arith }))
        ∙ ap (λ (t : Task (Move × List ℕ)). get_or (new_part im t) (i - t.off) 0) e
        ∙ settle-hit table ps (state (part im off size) rs) h.accepted (all-inside (length im) off size im rs ps s.window_in s) (byte (i - off)) b (memory d) h.listed (record { low = omega arith; high = omega arith })
        ∙ ap (λ (j : ℕ). get_or (bytes 8 (new_content table (state (part im off size) rs) b (memory d))) j 0) g

    -- every other byte is the starting image's
    in_part : (im : List ℕ) (f : F) (p : Plan) → plan (length im) f ≡ p → (i : ℕ) → In (task_of table (registers f) p).off (task_of table (registers f) p).size i
        → ((off size : ℕ) (pss : List (List Pointer)) (b : Slot) (d : ℕ) → Moves plan table im (registers f) f off size pss b d i → ⊥)
        → get_or (new_part im (task_of table (registers f) p)) (i - (task_of table (registers f) p).off) 0 ≡ get_or im i 0
    unfolding window_task refused_task
    in_part im f (refuse number place) e i q n = absurd (omega arith)
    in_part im f (window off size pss) e i q n = go (ℕ_discrete (settled table ps w).number 0)
      where
        ps : List Pointer
        ps = flatten pss

        w : State
        w = state (part im off size) (registers f)

        old : get_or (part im off size) (i - off) 0 ≡ get_or im i 0
        old = part_at im off size (i - off) (omega arith) ∙ ap (λ (j : ℕ). get_or im j 0) (omega arith)

        miss : (settled table ps w).number ≡ 0 → (b d : Slot) → Memᴰ (slots b d) ps → Touches d (byte (i - off)) → ⊥
        miss a b (memory d) m r = n off size pss b d (record { planned = e; accepted = a; listed = m; inside = record { low = omega arith; high = omega arith } })
        miss a b (register k) m r = r

        go : Dec ((settled table ps w).number ≡ 0) → get_or (settle table ps w).window (i - off) 0 ≡ get_or im i 0
        go (no r) = ap (λ (l : State). get_or l.window (i - off) 0) (settle-refused table ps w r) ∙ old
        go (yes a) = settle_miss table ps w (byte (i - off)) (λ h. miss a h.0 h.1 h.2 h.3) ∙ old

    pub find : (n : ℕ) (fs : List F) (i : ℕ)
        → ((f : F) × Memᴰ f fs × In (tasks n f).off (tasks n f).size i) ⊎ ((f : F) → Memᴰ f fs → In (tasks n f).off (tasks n f).size i → ⊥)
    find n [] i = inr (λ f m q. Memᴰ.not-nil m)
    find n (g ∷ gs) i = go (in? (tasks n g).off (tasks n g).size i) (find n gs i)
      where
        Here : F → Type 0
        Here f = In (tasks n f).off (tasks n f).size i

        go : Here g ⊎ (Here g → ⊥) → ((f : F) × Memᴰ f gs × Here f) ⊎ ((f : F) → Memᴰ f gs → Here f → ⊥)
            → ((f : F) × Memᴰ f (g ∷ gs) × Here f) ⊎ ((f : F) → Memᴰ f (g ∷ gs) → Here f → ⊥)
        go (inl q) o = inl (g, Memᴰ.head refl, q)
        go (inr q) (inl o) = inl (o.0, Memᴰ.tail o.1, o.2)
        go (inr q) (inr o) = inr (λ f m r. cases f (Memᴰ.cases_cons m) r)
          where
            cases : (f : F) → (f ≡ g) ⊎ Memᴰ f gs → Here f → ⊥
            cases f (inl e) r = q (subst Here e r)
            cases f (inr m) r = o f m r

    pub final-rest : (fs : List F) (im : List ℕ) → Disjoint plan (length im) fs → (i : ℕ)
        → ((f : F) → Memᴰ f fs → (off size : ℕ) (pss : List (List Pointer)) (b : Slot) (d : ℕ) → Moves plan table im (registers f) f off size pss b d i → ⊥)
        → get_or (run_left tasks fs im) i 0 ≡ get_or im i 0
    final-rest fs im dis i none_moves = go (find (length im) fs i)
      where
        go : ((f : F) × Memᴰ f fs × In (tasks (length im) f).off (tasks (length im) f).size i)
            ⊎ ((f : F) → Memᴰ f fs → In (tasks (length im) f).off (tasks (length im) f).size i → ⊥)
            → get_or (run_left tasks fs im) i 0 ≡ get_or im i 0
        go (inl o) =
            run-hit tasks o.1 im (separate (length im) fs dis) i o.2
            ∙ in_part im o.0 (plan (length im) o.0) refl i o.2 (none_moves o.0 o.1)
        go (inr n) = run_miss tasks fs im (separate (length im) fs dis) i n

-- The registers that one move leaves. Each one that is a derived slot of an accepted move has its new content, worked out from the image
-- and the registers as they were; every other one is as it was, and all of them on a refusal.
module _ (table : ℕ → Option ℕ) (im rs : List ℕ) (off size : ℕ) (ps : List Pointer) where
  pub registers-length : length (settle table ps (state (part im off size) rs)).registers ≡ length rs
  registers-length = (settle_shape table ps (state (part im off size) rs)).lists

  pub register-hit : (settled table ps (state (part im off size) rs)).number ≡ 0 → Inside (state (part im off size) rs) ps
      → (b : Slot) (r : ℕ) → Memᴰ (slots b (register r)) ps
      → get_or (settle table ps (state (part im off size) rs)).registers r 0 ≡ new_content table (state (part im off size) rs) b (register r)
  register-hit e inside b r m = settle-hit table ps (state (part im off size) rs) e inside (whole r) b (register r) m refl

  pub register_miss : (r : ℕ) → ((b : Slot) → Memᴰ (slots b (register r)) ps → ⊥)
      → get_or (settle table ps (state (part im off size) rs)).registers r 0 ≡ get_or rs r 0
  register_miss r n = settle_miss table ps (state (part im off size) rs) (whole r) (λ h. miss h.0 h.1 h.2 h.3)
    where
      miss : (b d : Slot) → Memᴰ (slots b d) ps → Touches d (whole r) → ⊥
      miss b (memory d) m q = q
      miss b (register k) m q = n b (rw q m)

  pub registers-refused : ((settled table ps (state (part im off size) rs)).number ≡ 0 → ⊥) → (settle table ps (state (part im off size) rs)).registers ≡ rs
  registers-refused n = ap (λ (w : State). w.registers) (settle-refused table ps (state (part im off size) rs) n)
