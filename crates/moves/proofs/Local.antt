-- Bytes and registers outside the listed slots affect no answer and no new content.
use Prim.Native.Nat.{ℕ, suc, ◌<◌}
use mathlib.Core.Path.{◌≡◌, refl}
use mathlib.Core.Option.{Option}
use mathlib.Core.List.{List, Memᴰ}
use native.Mathlib.Omega.{arith}
use lib.ListN.{length, get_or}
use Rattle.moves.specs.Window.{In}
use Rattle.moves.specs.Slots.{Slot, memory, register, State, read}
use Rattle.moves.specs.Pointers.{Pointer, null, slots, clash, unknown}
use Rattle.moves.specs.Settle.{first20, first21, settled}
use Rattle.moves.proofs.Searches.{index_mem, lowest_ext, any_ext}
use Rattle.moves.proofs.Words.{word_local}

-- the two states agree on the cells of a slot, and on the slots of a pair
abbrev pub AgreeOn : State → State → Slot → Type 0
AgreeOn w v (memory x) = (i : ℕ) → In x 8 i → get_or w.window i 0 ≡ get_or v.window i 0
AgreeOn w v (register r) = get_or w.registers r 0 ≡ get_or v.registers r 0

abbrev pub Agrees : State → State → Pointer → Type 0
Agrees w v null = Unit {0}
Agrees w v (slots b d) = AgreeOn w v b × AgreeOn w v d

pub read_local : (w v : State) (s : Slot) → AgreeOn w v s → read w s ≡ read v s
read_local w v (memory x) h = word_local 8 w.window v.window x h
read_local w v (register r) h = h

clash_local : (w v : State) (p q : Pointer) → Agrees w v p → Agrees w v q → clash w p q ≡ clash v p q
unfolding clash
clash_local w v null q a b = refl
clash_local w v (slots b d) null a c = refl
clash_local w v (slots b d) (slots b' d') a c = rw (read_local w v b a.0, read_local w v b' c.0)

module _ (table : ℕ → Option ℕ) where
  unknown_local : (w v : State) (p : Pointer) → Agrees w v p → unknown table w p ≡ unknown table v p
  unknown_local w v null a = refl
  unknown_local w v (slots b d) a = rw (read_local w v b a.0)

  pub settled_local : (ps : List Pointer) (w v : State) → ((p : Pointer) → Memᴰ p ps → Agrees w v p) → settled table ps w ≡ settled table ps v
  unfolding settled first20 first21
  settled_local ps w v h = rw (e₂₀, e₂₁)
    where
      at : (k : ℕ) → k < length ps → Agrees w v (get_or ps k null)
      at k l = h (get_or ps k null) (index_mem null ps k l)

      e₂₀ : first20 ps w ≡ first20 ps v
      e₂₀ =
          lowest_ext _ _ (length ps)
          (λ p l. any_ext (λ q. clash w (get_or ps p null) (get_or ps q null)) (λ q. clash v (get_or ps p null) (get_or ps q null)) (suc p)
          (λ q m. clash_local w v (get_or ps p null) (get_or ps q null) (at p l) (at q (omega arith))))

      e₂₁ : first21 table ps w ≡ first21 table ps v
      e₂₁ = lowest_ext _ _ (length ps) (λ p l. unknown_local w v (get_or ps p null) (at p l))
