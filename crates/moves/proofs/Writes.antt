-- What the writes leave, cell by cell.
use Prim.Native.Nat.{ℕ, suc, ◌+◌}
use mathlib.Core.Path.{◌≡◌, refl, ap, ◌∙◌}
use mathlib.Core.Logic.{◌⊎◌, inl, inr, ⊎_elim}
use mathlib.Core.Option.{Option}
use mathlib.Core.List.Memᴰ
use mathlib.Core.List.{List, [], ◌∷◌, ◌++◌, append_assoc, Memᴰ}
use native.Mathlib.Omega.{arith}
use lib.ListN.{length, get_or, set, take, drop, length-set}
use lib.Seq.{sets, sets-eq, length-sets, get_or-set_other, get_or-set_same, ext_get_or}
use Rattle.moves.specs.Window.{splice, In}
use Rattle.wire.specs.Word.{bytes}
use Rattle.wire.proofs.Laws.{length-bytes}
use Rattle.moves.specs.Slots.{Slot, memory, register, State, state, read, put}
use Rattle.moves.specs.Pointers.{Pointer, null, slots, new_content}
use Rattle.moves.specs.Settle.{write, write1}
use Rattle.moves.proofs.Splice.{splice_in}
use Rattle.moves.proofs.Cells.{Cell, byte, whole, at, Touches, touches?, piece, Fits}

-- the two lengths are kept
pub record Shape (w v : State) : Type 0 where
  pub windows : length w.window ≡ length v.window
  pub lists : length w.registers ≡ length v.registers

pub shape_on : (w v u : State) → Shape w v → Shape v u → Shape w u
shape_on w v u a b = record { windows = a.windows ∙ b.windows; lists = a.lists ∙ b.lists }

pub state-same : {w v rs qs : List ℕ} → w ≡ v → rs ≡ qs → state w rs ≡ state v qs
state-same e f = rw (e, f)

pub put_shape : (w : State) (s : Slot) (v : ℕ) → Shape (put w s v) w
put_shape w (memory x) v = record { windows = length-sets w.window x (bytes 8 v); lists = refl }
put_shape w (register r) v = record { windows = refl; lists = simp length-set }

sets_out : (vs l : List ℕ) (s i : ℕ) → (In s (length vs) i → ⊥) → get_or (sets l s vs) i 0 ≡ get_or l i 0
sets_out [] l s i q = refl
sets_out (v ∷ vs) l s i q =
    sets_out vs (set l s v) (suc s) i (λ r. q (record { low = omega arith; high = omega arith }))
    ∙ get_or-set_other l s i v 0 (λ e. q (record { low = omega arith; high = omega arith }))

pub put_out : (w : State) (s : Slot) (v : ℕ) (c : Cell) → (Touches s c → ⊥) → at (put w s v) c ≡ at w c
put_out w (memory x) v (byte i) q = sets_out (bytes 8 v) w.window x i (λ r. q (rw (length-bytes 8 v) at r))
put_out w (memory x) v (whole k) q = refl
put_out w (register r) v (byte i) q = refl
put_out w (register r) v (whole k) q = get_or-set_other w.registers r k v 0 (λ e. q (omega arith))

pub fits_shape : (w v : State) (s : Slot) → Shape w v → Fits v s → Fits w s
fits_shape w v (memory x) h f = omega (arith, h.windows)
fits_shape w v (register r) h f = omega (arith, h.lists)

pub put_in : (w : State) (s : Slot) (v : ℕ) (c : Cell) → Fits w s → Touches s c → at (put w s v) c ≡ piece v s c
unfolding splice
put_in w (memory x) v (byte i) fits q =
    let l : length (bytes 8 v) ≡ 8 = length-bytes 8 v in
    let e : sets w.window x (bytes 8 v) ≡ take x w.window ++ bytes 8 v ++ drop (x + 8) w.window = rw l at (sets-eq (bytes 8 v) w.window x (rw l fits)) in
    ap (λ (y : List ℕ). get_or y i 0) (e ∙ append_assoc (take x w.window) (bytes 8 v) (drop (x + 8) w.window)) ∙ splice_in w.window x 8 (bytes 8 v) fits l i q
put_in w (memory x) v (whole k) fits q = absurd q
put_in w (register r) v (byte i) fits q = absurd q
put_in w (register r) v (whole k) fits q = rw q (get_or-set_same w.registers r v 0 fits)

-- the cell is in the derived slot of some listed pair
abbrev pub Hits : Cell → List Pointer → Type 0
Hits c ps = (b : Slot) × (d : Slot) × Memᴰ (slots b d) ps × Touches d c

pub hits? : (c : Cell) (ps : List Pointer) → Hits c ps ⊎ (Hits c ps → ⊥)
hits? c [] = inr (λ h. Memᴰ.not-nil h.2)
hits? c (null ∷ ps) = go (hits? c ps)
  where
    go : Hits c ps ⊎ (Hits c ps → ⊥) → Hits c (null ∷ ps) ⊎ (Hits c (null ∷ ps) → ⊥)
    go (inl h) = inl (h.0, h.1, Memᴰ.tail h.2, h.3)
    go (inr n) = inr (λ h. ⊎_elim (λ e. let z : ◌≡◌ {A = ℕ} 0 1 = cc in omega arith) (λ m. n (h.0, h.1, m, h.3)) (Memᴰ.cases_cons h.2))
hits? c (slots b d ∷ ps) = go (touches? d c) (hits? c ps)
  where
    go : Touches d c ⊎ (Touches d c → ⊥) → Hits c ps ⊎ (Hits c ps → ⊥) → Hits c (slots b d ∷ ps) ⊎ (Hits c (slots b d ∷ ps) → ⊥)
    go (inl q) h = inl (b, d, Memᴰ.head refl, q)
    go (inr q) (inl h) = inl (h.0, h.1, Memᴰ.tail h.2, h.3)
    go (inr q) (inr n) = inr (λ h. ⊎_elim (λ e. let f : h.1 ≡ d = cc in q (rw f at h.3)) (λ m. n (h.0, h.1, m, h.3)) (Memᴰ.cases_cons h.2))

-- pairs that share a cell of their derived slots have one derived slot and one old base
abbrev pub Agree : State → List Pointer → Type 0
Agree old ps = (c : Cell) (b d b' d' : Slot) → Memᴰ (slots b d) ps → Memᴰ (slots b' d') ps → Touches d c → Touches d' c → (d ≡ d') × (read old b ≡ read old b')

abbrev pub Inside : State → List Pointer → Type 0
Inside w ps = (b d : Slot) → Memᴰ (slots b d) ps → Fits w d

module _ (table : ℕ → Option ℕ) where
  pub write1_shape : (old cur : State) (p : Pointer) → Shape (write1 table old cur p) cur
  write1_shape old cur null = record { windows = refl; lists = refl }
  write1_shape old cur (slots b d) = put_shape cur d (new_content table old b d)

  pub write_shape : (ps : List Pointer) (old cur : State) → Shape (write table old cur ps) cur
  write_shape [] old cur = record { windows = refl; lists = refl }
  write_shape (p ∷ ps) old cur =
      shape_on (write table old (write1 table old cur p) ps) (write1 table old cur p) cur (write_shape ps old (write1 table old cur p)) (write1_shape old cur p)

  pub write_miss : (ps : List Pointer) (old cur : State) (c : Cell) → (Hits c ps → ⊥) → at (write table old cur ps) c ≡ at cur c
  write_miss [] old cur c n = refl
  write_miss (null ∷ ps) old cur c n = write_miss ps old cur c (λ h. n (h.0, h.1, Memᴰ.tail h.2, h.3))
  write_miss (slots b d ∷ ps) old cur c n =
      write_miss ps old (put cur d (new_content table old b d)) c (λ h. n (h.0, h.1, Memᴰ.tail h.2, h.3))
      ∙ put_out cur d (new_content table old b d) c (λ q. n (b, d, Memᴰ.head refl, q))

  same_content : (old : State) (b d b' d' : Slot) → (d ≡ d') × (read old b ≡ read old b') → new_content table old b d ≡ new_content table old b' d'
  unfolding new_content
  same_content old b d b' d' e = rw (e.0, e.1)

  pub write-hit : (ps : List Pointer) (old cur : State) → Agree old ps → Inside cur ps
      → (c : Cell) (b d : Slot) → Memᴰ (slots b d) ps → Touches d c → at (write table old cur ps) c ≡ piece (new_content table old b d) d c
  write-hit [] old cur agree inside c b d m q = absurd (Memᴰ.not-nil m)
  write-hit (x ∷ xs) old cur agree inside c b d m q =
      go (write-hit xs old (write1 table old cur x) (λ j b₁ d₁ b₂ d₂ m₁ m₂. agree j b₁ d₁ b₂ d₂ (Memᴰ.tail m₁) (Memᴰ.tail m₂))
      (λ b₁ d₁ m₁. fits_shape (write1 table old cur x) cur d₁ (write1_shape old cur x) (inside b₁ d₁ (Memᴰ.tail m₁))) c)
      (Memᴰ.cases_cons m) (hits? c xs)
    where
      Goal : Slot → Slot → Type 0
      Goal b₁ d₁ = at (write table old (write1 table old cur x) xs) c ≡ piece (new_content table old b₁ d₁) d₁ c

      go : ((b₁ d₁ : Slot) → Memᴰ (slots b₁ d₁) xs → Touches d₁ c → Goal b₁ d₁)
          → (slots b d ≡ x) ⊎ Memᴰ (slots b d) xs → Hits c xs ⊎ (Hits c xs → ⊥) → Goal b d
      go below (inr m₁) h = below b d m₁ q
      go below (inl e) (inl h) =
          let a : (d ≡ h.1) × (read old b ≡ read old h.0) = agree c b d h.0 h.1 m (Memᴰ.tail h.2) q h.3 in
          below h.0 h.1 h.2 h.3 ∙ rw (same_content old b d h.0 h.1 a, a.0)
      go below (inl e) (inr n) =
          write_miss xs old (write1 table old cur x) c n
          ∙ rw (← e) (put_in cur d (new_content table old b d) c (inside b d m) q)

-- two states of one shape that agree at every cell are one
pub ext_at : (w v : State) → Shape w v → ((c : Cell) → at w c ≡ at v c) → w ≡ v
ext_at w v h e =
    let a = ext_get_or 0 w.window v.window h.windows (λ i l. e (byte i)) in
    let b = ext_get_or 0 w.registers v.registers h.lists (λ r l. e (whole r)) in
    λ k. record { window = a k; registers = b k }
