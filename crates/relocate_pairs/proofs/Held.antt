-- The pointers that the arrays hold, as they fill.
use Prim.Native.Nat.{ℕ, zero, suc, ◌+◌, ◌*◌, ◌≤◌, ◌<◌}
use mathlib.Core.Path.{◌≡◌, refl, sym, ap, ◌∙◌}
use mathlib.Core.List.{List, [], ◌∷◌, ◌++◌, append_assoc}
use native.Mathlib.Omega.{arith}
use native.Mathlib.Decide.{dec_lt}
use lib.ListN.{length, get_or, set, length-set}
use lib.Seq.{get_or-set_same, get_or-set_other}
use Rattle.moves.specs.Slots.{Slot}
use Rattle.moves.specs.Pointers.{Pointer, null, slots}
use Rattle.moves.specs.Arrays.{registers_from, slot_of, Placed, AllPlaced, pointer_at, list_from, pointers_of}
use Rattle.moves.proofs.Numbers.{slot-memory, placed-memory, placed-most}
use Rattle.relocate.specs.Statepoint.{next, pointers_from}
use Rattle.relocate.specs.Code.{Room, run_of, RunPlaced}
use Rattle.relocate.proofs.Planned.{ahead, ahead_zero, ahead-next}

-- a list by numbers, with one more at its end, and of two functions that agree
list_snoc : (f : ℕ → Pointer) (n i : ℕ) → list_from f (suc n) i ≡ list_from f n i ++ (f (i + n) ∷ [])
list_snoc f zero i = ap (λ (x : ℕ). f x ∷ []) (omega arith)
list_snoc f (suc n) i =
    let e : suc i + n ≡ i + suc n = omega arith in
    ap (λ (l : List Pointer). f i ∷ l) (list_snoc f n (suc i) ∙ rw e)

list_ext : (f g : ℕ → Pointer) (n i : ℕ) → ((k : ℕ) → i ≤ k → k < i + n → f k ≡ g k) → list_from f n i ≡ list_from g n i
list_ext f g zero i h = refl
list_ext f g (suc n) i h =
    rw (h i (omega arith) (omega arith)) (ap (λ (l : List Pointer). g i ∷ l) (list_ext f g n (suc i) (λ k a b. h k (omega arith) (omega arith))))

list_length : (f : ℕ → Pointer) (n i : ℕ) → length (list_from f n i) ≡ n
list_length f zero i = refl
list_length f (suc n) i = ap suc (list_length f n (suc i))

pub held-length : (n : ℕ) (live bases derived : List ℕ) → length (pointers_of n live bases derived) ≡ n
unfolding pointers_of
held-length n live bases derived = list_length (pointer_at live bases derived) n 0

pub held_none : (live bases derived : List ℕ) → pointers_of 0 live bases derived ≡ []
unfolding pointers_of
held_none live bases derived = refl

run_snoc : (k : ℕ) (b d : Slot) → pointers_from (suc k) b d ≡ pointers_from k b d ++ (slots (ahead k b) (ahead k d) ∷ [])
run_snoc zero b d = rw (ahead_zero b, ahead_zero d)
run_snoc (suc k) b d =
    ap (λ (l : List Pointer). slots b d ∷ l) (run_snoc k (next b) (next d) ∙ rw (ahead-next k b, ahead-next k d))

-- number i of a run of k slots in a window of m bytes
module _ (m k x : ℕ) (small : m ≤ registers_from) (p : RunPlaced m k x) (i : ℕ) (h : i < k) where
  pub slot-ahead : slot_of (x + 8 * i) ≡ ahead i (slot_of x)
  slot-ahead = go i refl
    where
      go : (j : ℕ) → i ≡ j → slot_of (x + 8 * i) ≡ ahead i (slot_of x)
      go zero e =
          let z : x + 8 * i ≡ x = omega arith in
          rw (z, e) (sym (ahead_zero (slot_of x)))
      go (suc j) e =
          let l = p.more (omega arith) in
          rw (slot-memory (x + 8 * i) (omega arith), slot-memory x (omega arith)) refl

  pub placed-ahead : Placed m 32 (x + 8 * i)
  placed-ahead = go i refl
    where
      go : (j : ℕ) → i ≡ j → Placed m 32 (x + 8 * i)
      go zero e = let z : x + 8 * i ≡ x = omega arith in rw z p.first
      go (suc j) e = let l = p.more (omega arith) in placed-memory m 32 (x + 8 * i) small (omega arith)

  -- and is not near the end of the numbers
  pub ahead-most : x + 8 * i + 8 ≤ 4294967552
  ahead-most = placed-most m 32 (x + 8 * i) small (omega arith) placed-ahead

module _ (live bases derived : List ℕ) (n : ℕ) where
  -- one more pointer, of arrays that are the same below
  snoc : (live' bases' derived' : List ℕ) (p : Pointer)
      → ((k : ℕ) → k < n → pointer_at live' bases' derived' k ≡ pointer_at live bases derived k) → pointer_at live' bases' derived' n ≡ p
      → pointers_of (n + 1) live' bases' derived' ≡ pointers_of n live bases derived ++ (p ∷ [])
  unfolding pointers_of
  snoc live' bases' derived' p same here =
      let e : n + 1 ≡ suc n = omega arith in
      let z : 0 + n ≡ n = omega arith in
      rw e
      (list_snoc (pointer_at live' bases' derived') n 0
      ∙ rw (z, here, list_ext (pointer_at live' bases' derived') (pointer_at live bases derived) n 0 (λ k a b. same k (omega arith))))

  module _ (room : Room live bases derived) (h : n < 256) where
    pub hold_slots : (b d : ℕ) → pointers_of (n + 1) (set live n 1) (set bases n b) (set derived n d) ≡ pointers_of n live bases derived ++ (slots (slot_of b) (slot_of d) ∷ [])
    unfolding pointer_at
    hold_slots b d =
        snoc (set live n 1) (set bases n b) (set derived n d) (slots (slot_of b) (slot_of d))
        (λ k l. rw (get_or-set_other live n k 1 0 (λ q. omega arith), get_or-set_other bases n k b 0 (λ q. omega arith), get_or-set_other derived n k d 0 (λ q. omega arith)))
        (rw (get_or-set_same live n 1 0 (omega (arith, room.live_room)), get_or-set_same bases n b 0 (omega (arith, room.bases_room)), get_or-set_same derived n d 0 (omega (arith, room.derived_room))))

    pub hold_null : pointers_of (n + 1) (set live n 0) bases derived ≡ pointers_of n live bases derived ++ (null ∷ [])
    unfolding pointer_at
    hold_null =
        snoc (set live n 0) bases derived null
        (λ k l. rw (get_or-set_other live n k 0 0 (λ q. omega arith)))
        (rw (get_or-set_same live n 0 0 (omega (arith, room.live_room))))

    pub room-null : Room (set live n 0) bases derived
    room-null = record { live_room = simp length-set room.live_room; bases_room = room.bases_room; derived_room = room.derived_room }

    module _ (m : ℕ) (w : AllPlaced m 32 n live bases derived) where
      pub placed-slots : (b d : ℕ) → Placed m 32 b → Placed m 32 d → AllPlaced m 32 (n + 1) (set live n 1) (set bases n b) (set derived n d)
      placed-slots b d x y = record { base_in = λ k a l. base k a l (dec_lt k n); derived_in = λ k a l. derive k a l (dec_lt k n) }
        where
          alive : (k : ℕ) → k < n → (get_or (set live n 1) k 0 ≡ 0 → ⊥) → get_or live k 0 ≡ 0 → ⊥
          alive k a l e = l (get_or-set_other live n k 1 0 (λ q. omega arith) ∙ e)

          base : (k : ℕ) → k < n + 1 → (get_or (set live n 1) k 0 ≡ 0 → ⊥) → Dec (k < n) → Placed m 32 (get_or (set bases n b) k 0)
          base k a l (yes c) = rw (get_or-set_other bases n k b 0 (λ q. omega arith)) (w.base_in k c (alive k c l))
          base k a l (no c) = let e : k ≡ n = omega arith in rw (e, get_or-set_same bases n b 0 (omega (arith, room.bases_room))) x

          derive : (k : ℕ) → k < n + 1 → (get_or (set live n 1) k 0 ≡ 0 → ⊥) → Dec (k < n) → Placed m 32 (get_or (set derived n d) k 0)
          derive k a l (yes c) = rw (get_or-set_other derived n k d 0 (λ q. omega arith)) (w.derived_in k c (alive k c l))
          derive k a l (no c) = let e : k ≡ n = omega arith in rw (e, get_or-set_same derived n d 0 (omega (arith, room.derived_room))) y

      pub placed-null : AllPlaced m 32 (n + 1) (set live n 0) bases derived
      placed-null = record { base_in = λ k a l. base k a l (dec_lt k n); derived_in = λ k a l. derive k a l (dec_lt k n) }
        where
          alive : (k : ℕ) → k < n → (get_or (set live n 0) k 0 ≡ 0 → ⊥) → get_or live k 0 ≡ 0 → ⊥
          alive k a l e = l (get_or-set_other live n k 0 0 (λ q. omega arith) ∙ e)

          never : (k : ℕ) → k ≡ n → (get_or (set live n 0) k 0 ≡ 0 → ⊥) → ⊥
          never k e l = l (rw e (get_or-set_same live n 0 0 (omega (arith, room.live_room))))

          base : (k : ℕ) → k < n + 1 → (get_or (set live n 0) k 0 ≡ 0 → ⊥) → Dec (k < n) → Placed m 32 (get_or bases k 0)
          base k a l (yes c) = w.base_in k c (alive k c l)
          base k a l (no c) = absurd (never k (omega arith) l)

          derive : (k : ℕ) → k < n + 1 → (get_or (set live n 0) k 0 ≡ 0 → ⊥) → Dec (k < n) → Placed m 32 (get_or derived k 0)
          derive k a l (yes c) = w.derived_in k c (alive k c l)
          derive k a l (no c) = absurd (never k (omega arith) l)

pub placed-none : (m : ℕ) (live bases derived : List ℕ) → AllPlaced m 32 0 live bases derived
placed-none m live bases derived = record { base_in = λ k a l. absurd (omega arith); derived_in = λ k a l. absurd (omega arith) }

pub append-nil : (ps : List Pointer) → ps ++ [] ≡ ps
append-nil [] = refl
append-nil (p ∷ ps) = ap (λ (l : List Pointer). p ∷ l) (append-nil ps)

-- A run of pointers after the n of other arrays, as it grows: in a window of m bytes.

module _ (m n k b d : ℕ) (live₀ bases₀ derived₀ : List ℕ) where
  pub record Running (live bases derived : List ℕ) (next : ℕ) : Type 0 where
    pub most : next ≤ k
    pub room : Room live bases derived
    pub holds : pointers_of (n + next) live bases derived ≡ pointers_of n live₀ bases₀ derived₀ ++ pointers_from next (slot_of b) (slot_of d)
    pub placed : AllPlaced m 32 n live₀ bases₀ derived₀ → AllPlaced m 32 (n + next) live bases derived

  pub run-start : Room live₀ bases₀ derived₀ → Running live₀ bases₀ derived₀ 0
  run-start r =
      let e : n + 0 ≡ n = omega arith in
      record { most = omega arith; room = r; holds = rw e (sym (append-nil (pointers_of n live₀ bases₀ derived₀))); placed = λ w. rw e w }

module _ {m n k b d : ℕ} {live₀ bases₀ derived₀ live bases derived : List ℕ} {next : ℕ} where
  pub run_on : Running m n k b d live₀ bases₀ derived₀ live bases derived next → next < k → n + k ≤ 256 → m ≤ registers_from → RunPlaced m k b → RunPlaced m k d
      → Running m n k b d live₀ bases₀ derived₀ (set live (n + next) 1) (set bases (n + next) (b + 8 * next)) (set derived (n + next) (d + 8 * next)) (next + 1)
  run_on r h l small x y =
      let e : n + (next + 1) ≡ n + next + 1 = omega arith in
      let g : next + 1 ≡ suc next = omega arith in
      record {
        most = omega arith;
        room = record { live_room = simp length-set r.room.live_room; bases_room = simp length-set r.room.bases_room; derived_room = simp length-set r.room.derived_room };
        holds = rw (
          e,
          hold_slots live bases derived (n + next) r.room (omega arith) (b + 8 * next) (d + 8 * next),
          r.holds,
          slot-ahead m k b small x next h,
          slot-ahead m k d small y next h,
          g,
          run_snoc next (slot_of b) (slot_of d),
        ) (append_assoc (pointers_of n live₀ bases₀ derived₀) (pointers_from next (slot_of b) (slot_of d)) (slots (ahead next (slot_of b)) (ahead next (slot_of d)) ∷ []));
        placed = λ w. rw e (placed-slots live bases derived (n + next) r.room (omega arith) m (r.placed w) (b + 8 * next) (d + 8 * next) (placed-ahead m k b small x next h) (placed-ahead m k d small y next h));
      }

-- A pair's run: at least one pointer.

pub run_length : (k b d : ℕ) → (k ≤ length (run_of k b d)) × (0 < length (run_of k b d))
run_length zero b d = (omega arith, omega arith)
run_length (suc k) b d = (omega (arith, go (suc k) (slot_of b) (slot_of d)), omega arith)
  where
    go : (n : ℕ) (x y : Slot) → length (pointers_from n x y) ≡ n
    go zero x y = refl
    go (suc n) x y = ap suc (go n (next x) (next y))

pub run-null : (k b d : ℕ) (before : List Pointer) → k ≡ 0 → before ++ (null ∷ []) ≡ before ++ run_of k b d
run-null zero b d before h = refl
run-null (suc k) b d before h = absurd (omega arith)

pub run-slots : (k b d : ℕ) (before : List Pointer) → (k ≡ 0 → ⊥) → before ++ pointers_from k (slot_of b) (slot_of d) ≡ before ++ run_of k b d
run-slots zero b d before h = absurd (h refl)
run-slots (suc k) b d before h = refl
