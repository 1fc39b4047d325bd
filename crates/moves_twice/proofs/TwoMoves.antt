-- Request 11: two moves in a row are one move with the joined table, where every pointer's base slot is also listed with itself.
use Prim.Native.Nat.{ℕ, ◌+◌, ◌-◌, ◌%◌, ◌^◌, ◌<◌}
use mathlib.Core.Path.{◌≡◌, refl, sym, ap, ◌∙◌}
use mathlib.Core.Bool.{Bool, true, false, not, ◌&&◌, true≢false}
use mathlib.Core.Logic.{◌↔◌, ◌⊎◌, inl, inr}
use mathlib.Core.Option.{Option, none, some}
use mathlib.Core.List.{List, Memᴰ}
use native.Mathlib.Omega.{arith}
use borrow.Author.Tests.{eq-eqb, eqb-true, not-false}
use lib.Dec.{eqb}
use Rattle.wire.specs.Word.{Bytes, bytes}
use Rattle.moves.specs.Slots.{Slot, memory, register, State, read, same}
use Rattle.moves.proofs.Cells.{Cell, byte, whole, at, piece}
use Rattle.moves.specs.Pointers.{Pointer, null, slots, any_overlap, clash, slots_clash, is_none, or_zero, unknown, new_derived, new_content}
use Rattle.moves.specs.Settle.{settled, settle}
use Rattle.moves.specs.Table.{table_right, look_up}
use Rattle.moves_twice.specs.Joined.{joined}
use Rattle.moves_twice.specs.Pointers.{and_then, SelfListed, Words}
use Rattle.moves.proofs.Searches.{or_no}
use Rattle.moves.proofs.Writes.{Inside, Shape, Hits, fits_shape, hits?, ext_at}
use Rattle.moves.proofs.Order.{settle_shape, settle-hit, settle_miss, accepted-whole}
use Rattle.wire.proofs.Laws.{word_bound}
use Rattle.moves.proofs.Words.{word_of}
use Rattle.moves_twice.proofs.Joined.{joined-look, look-word}
use Rattle.moves_twice.proofs.Accepted.{accepted_tells, accepted_when}

-- the window holds bytes, and the registers 64-bit numbers
pub record Plain (w : State) : Type 0 where
  pub window : Bytes w.window
  pub registers : Words w.registers

pub read_word : (w : State) (s : Slot) → Plain w → read w s < 2 ^ 64
read_word w (memory x) h = word_bound 8 w.window x h.window
read_word w (register r) h = h.registers.below r

-- One move: what its slots hold after it.

module _ (table : ℕ → Option ℕ) where
  content-word : (w : State) (b d : Slot) → new_content table w b d < 2 ^ 64
  unfolding new_content new_derived
  content-word w b d = omega arith

  -- an accepted move leaves its new content in each derived slot
  pub derived-after : (ps : List Pointer) (w : State) → (settled table ps w).number ≡ 0 → Inside w ps
      → (b d : Slot) → Memᴰ (slots b d) ps → read (settle table ps w) d ≡ new_content table w b d
  derived-after ps w e inside b (memory x) m =
      word_of 8 (settle table ps w).window x (new_content table w b (memory x))
      (λ i q. settle-hit table ps w e inside (byte i) b (memory x) m q)
      ∙ omega (arith, content-word w b (memory x))
  derived-after ps w e inside b (register r) m = settle-hit table ps w e inside (whole r) b (register r) m refl

  self_content : (B N : ℕ) → B < 2 ^ 64 → N < 2 ^ 64 → (B + N + (2 ^ 64 - B)) % 2 ^ 64 ≡ N
  self_content B N h k = omega arith

  -- a base slot that is listed with itself holds its new start
  pub base-after : (ps : List Pointer) (w : State) → (settled table ps w).number ≡ 0 → Inside w ps → Plain w → ((n : ℕ) → or_zero (table n) < 2 ^ 64)
      → (b : Slot) → Memᴰ (slots b b) ps → read (settle table ps w) b ≡ or_zero (table (read w b))
  unfolding new_content new_derived
  base-after ps w e inside plain small b m =
      derived-after ps w e inside b b m ∙ self_content (read w b) (or_zero (table (read w b))) (read_word w b plain) (small (read w b))

-- Two moves, over any tables: the third finds what the second finds of what the first finds.

two_distances : (D B C N : ℕ) → B < 2 ^ 64 → C < 2 ^ 64 → ((D + C + (2 ^ 64 - B)) % 2 ^ 64 + N + (2 ^ 64 - C)) % 2 ^ 64 ≡ (D + N + (2 ^ 64 - B)) % 2 ^ 64
two_distances D B C N h k = omega arith

then_known : (m : Option ℕ) (second : ℕ → Option ℕ) → is_none m ≡ false → and_then m second ≡ second (or_zero m)
then_known none second h = absurd (true≢false h)
then_known (some n) second h = refl

then_first : (m : Option ℕ) (second : ℕ → Option ℕ) → is_none (and_then m second) ≡ false → is_none m ≡ false
then_first none second h = h
then_first (some n) second h = refl

-- equal derived slots have equal bases: only the bases' numbers matter, and equal ones stay equal
clash-kept : (w v : State) (b d b' d' : Slot) → (read w b ≡ read w b' → read v b ≡ read v b')
    → clash w (slots b d) (slots b' d') ≡ false → clash v (slots b d) (slots b' d') ≡ false
unfolding clash slots_clash
clash-kept w v b d b' d' kept h = rw o.0 (go (same d d') o.1)
  where
    o : (any_overlap b d b' d' ≡ false) × ((same d d' && not (eqb (read w b) (read w b'))) ≡ false)
    o = or_no (any_overlap b d b' d') (same d d' && not (eqb (read w b) (read w b'))) h

    go : (t : Bool) → (t && not (eqb (read w b) (read w b'))) ≡ false → (t && not (eqb (read v b) (read v b'))) ≡ false
    go false g = refl
    go true g = rw (eq-eqb _ _ (kept (eqb-true _ _ (not-false _ g))))

module _ (t1 t2 t12 : ℕ → Option ℕ) (small : (n : ℕ) → or_zero (t1 n) < 2 ^ 64) (join : (n : ℕ) → t12 n ≡ and_then (t1 n) t2)
    (ps : List Pointer) (w : State) (self : SelfListed ps) (inside : Inside w ps) (plain : Plain w) where
  module _ (a : (settled t1 ps w).number ≡ 0) where
    base_mid : (b d : Slot) → Memᴰ (slots b d) ps → read (settle t1 ps w) b ≡ or_zero (t1 (read w b))
    base_mid b d m = base-after t1 ps w a inside plain small b (self b d m)

    -- a base that the first move knows is found by the joined table as the second move finds it
    found_mid : (b d : Slot) → Memᴰ (slots b d) ps → t12 (read w b) ≡ t2 (read (settle t1 ps w) b)
    found_mid b d m =
        join (read w b) ∙ then_known (t1 (read w b)) t2 ((accepted_tells t1 ps w a).known (slots b d) m) ∙ ap t2 (sym (base_mid b d m))

    unknown_mid : (p : Pointer) → Memᴰ p ps → unknown t12 w p ≡ unknown t2 (settle t1 ps w) p
    unknown_mid null m = refl
    unknown_mid (slots b d) m = ap is_none (found_mid b d m)

    -- 20 is not given by the second move
    apart_mid : (p q : Pointer) → Memᴰ p ps → Memᴰ q ps → clash (settle t1 ps w) p q ≡ false
    unfolding clash
    apart_mid null q m n = refl
    apart_mid (slots b d) null m n = refl
    apart_mid (slots b d) (slots b' d') m n =
        clash-kept w (settle t1 ps w) b d b' d'
        (λ e. base_mid b d m ∙ ap (λ (k : ℕ). or_zero (t1 k)) e ∙ sym (base_mid b' d' n))
        ((accepted_tells t1 ps w a).apart (slots b d) (slots b' d') m n)

    content_mid : (b d : Slot) → Memᴰ (slots b d) ps → new_content t2 (settle t1 ps w) b d ≡ new_content t12 w b d
    unfolding new_content new_derived
    content_mid b d m =
        let e = derived-after t1 ps w a inside b d m in
        rw (e, ← (found_mid b d m), base_mid b d m)
        (two_distances (read w d) (read w b) (or_zero (t1 (read w b))) (or_zero (t12 (read w b))) (read_word w b plain) (small (read w b)))

  both_one : ((settled t1 ps w).number ≡ 0) × ((settled t2 ps (settle t1 ps w)).number ≡ 0) → (settled t12 ps w).number ≡ 0
  both_one h =
      let a = accepted_tells t1 ps w h.0 in
      let c = accepted_tells t2 ps (settle t1 ps w) h.1 in
      accepted_when t12 ps w (record { apart = a.apart; known = λ p m. unknown_mid h.0 p m ∙ c.known p m })

  first-known : (p : Pointer) → unknown t12 w p ≡ false → unknown t1 w p ≡ false
  first-known null h = refl
  first-known (slots b d) h = then_first (t1 (read w b)) t2 (rw (join (read w b)) at h)

  one-first : (settled t12 ps w).number ≡ 0 → (settled t1 ps w).number ≡ 0
  one-first h =
      let a = accepted_tells t12 ps w h in
      accepted_when t1 ps w (record { apart = a.apart; known = λ p m. first-known p (a.known p m) })

  one-second : (settled t12 ps w).number ≡ 0 → (settled t2 ps (settle t1 ps w)).number ≡ 0
  one-second h =
      let a = one-first h in
      let c = accepted_tells t12 ps w h in
      accepted_when t2 ps (settle t1 ps w) (record { apart = apart_mid a; known = λ p m. sym (unknown_mid a p m) ∙ c.known p m })

  one_left : (settled t12 ps w).number ≡ 0 → settle t2 ps (settle t1 ps w) ≡ settle t12 ps w
  one_left h =
      ext_at (settle t2 ps (settle t1 ps w)) (settle t12 ps w)
      (record { windows = s2.windows ∙ s1.windows ∙ sym s12.windows; lists = s2.lists ∙ s1.lists ∙ sym s12.lists })
      (λ c. go c (hits? c ps))
    where
      s1 : Shape (settle t1 ps w) w
      s1 = settle_shape t1 ps w

      s2 : Shape (settle t2 ps (settle t1 ps w)) (settle t1 ps w)
      s2 = settle_shape t2 ps (settle t1 ps w)

      s12 : Shape (settle t12 ps w) w
      s12 = settle_shape t12 ps w

      go : (c : Cell) → Hits c ps ⊎ (Hits c ps → ⊥) → at (settle t2 ps (settle t1 ps w)) c ≡ at (settle t12 ps w) c
      go c (inl k) =
          settle-hit t2 ps (settle t1 ps w) (one-second h) (λ b d m. fits_shape (settle t1 ps w) w d s1 (inside b d m)) c k.0 k.1 k.2 k.3
          ∙ ap (λ (v : ℕ). piece v k.1 c) (content_mid (one-first h) k.0 k.1 k.2)
          ∙ sym (settle-hit t12 ps w h inside c k.0 k.1 k.2 k.3)
      go c (inr n) = settle_miss t2 ps (settle t1 ps w) c n ∙ settle_miss t1 ps w c n ∙ sym (settle_miss t12 ps w c n)

-- The claim.

-- both tables pass 14, new starts are 64-bit numbers, and the derived slots lie in the state, which holds bytes and 64-bit numbers
pub record Ready (olds news olds2 news2 : List ℕ) (ps : List Pointer) (w : State) : Type 0 where
  pub right : table_right olds news ≡ true
  pub right2 : table_right olds2 news2 ≡ true
  pub starts : Words news
  pub inside : Inside w ps
  pub plain : Plain w

abbrev pub Accepts : (ℕ → Option ℕ) → List Pointer → State → Type 0
Accepts table ps w = (settled table ps w).number ≡ 0

-- the moves with the two tables, one after the other, are the move with the third
pub record OneMove (t1 t2 t12 : ℕ → Option ℕ) (ps : List Pointer) (w : State) : Type 0 where
  pub accepted : (Accepts t1 ps w × Accepts t2 ps (settle t1 ps w)) ↔ Accepts t12 ps w
  pub left : Accepts t12 ps w → settle t2 ps (settle t1 ps w) ≡ settle t12 ps w
  pub answer : Accepts t12 ps w → settled t2 ps (settle t1 ps w) ≡ settled t12 ps w

abbrev pub look_joined : List ℕ → List ℕ → List ℕ → List ℕ → ℕ → Option ℕ
look_joined olds news olds2 news2 = look_up (joined olds news olds2 news2).olds (joined olds news olds2 news2).news

pub two_moves : (olds news olds2 news2 : List ℕ) (ps : List Pointer) (w : State) → Ready olds news olds2 news2 ps w → SelfListed ps
    → OneMove (look_up olds news) (look_up olds2 news2) (look_joined olds news olds2 news2) ps w
two_moves olds news olds2 news2 ps w r self =
    record {
      accepted = (both_one t1 t2 t12 small join ps w self r.inside r.plain, λ h. (first h, second h));
      left = one_left t1 t2 t12 small join ps w self r.inside r.plain;
      answer = λ h. accepted-whole t2 ps (settle t1 ps w) (second h) ∙ sym (accepted-whole t12 ps w h);
    }
  where
    t1 : ℕ → Option ℕ
    t1 = look_up olds news

    t2 : ℕ → Option ℕ
    t2 = look_up olds2 news2

    t12 : ℕ → Option ℕ
    t12 = look_joined olds news olds2 news2

    small : (n : ℕ) → or_zero (look_up olds news n) < 2 ^ 64
    small n = look-word olds news n r.starts

    join : (n : ℕ) → look_joined olds news olds2 news2 n ≡ and_then (look_up olds news n) (look_up olds2 news2)
    join = joined-look olds news olds2 news2 r.right

    first : Accepts t12 ps w → Accepts t1 ps w
    first = one-first t1 t2 t12 small join ps w self r.inside r.plain

    second : Accepts t12 ps w → Accepts t2 ps (settle t1 ps w)
    second = one-second t1 t2 t12 small join ps w self r.inside r.plain
