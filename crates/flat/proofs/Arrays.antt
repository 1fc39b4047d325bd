-- Refusal 38 as equations, and the plain bounds that follow from them.
use Prim.Native.Nat.{ℕ, ◌+◌, ◌*◌, ◌%◌, ◌≤◌}
use mathlib.Core.Path.{◌≡◌, refl, sym}
use mathlib.Core.Bool.{Bool, true, false}
use mathlib.Core.List.{List}
use native.Mathlib.Omega.{arith}
use borrow.Author.Tests.{eqb-true, eq-eqb}
use lib.Dec.{eqb}
use lib.ListN.{length}
use Rattle.flat.specs.Layout.{align}
use Rattle.flat.specs.Places.{constants_at, frames_at, registers_at, records_at, locations_at, live_outs_at, num_constants, num_frames, num_registers, num_records, num_locations, num_live_outs, offsets_right}
use Rattle.flat.proofs.Steps.{and_true}

pub record Right (s : List ℕ) : Type 0 where
  pub constants : constants_at s ≡ 32
  pub frames : frames_at s ≡ align 8 (constants_at s + 8 * num_constants s)
  pub registers : registers_at s ≡ align 4 (frames_at s + 28 * num_frames s)
  pub records : records_at s ≡ align 8 (registers_at s + 6 * num_registers s)
  pub locations : locations_at s ≡ align 4 (records_at s + 22 * num_records s)
  pub live-outs : live_outs_at s ≡ align 2 (locations_at s + 8 * num_locations s)
  pub end : length s ≡ live_outs_at s + 4 * num_live_outs s

pub right-told : (s : List ℕ) → offsets_right s ≡ true → Right s
unfolding offsets_right
right-told s h =
    let h₁ = and_true _ _ h in
    let h₂ = and_true _ _ h₁.0 in
    let h₃ = and_true _ _ h₂.0 in
    let h₄ = and_true _ _ h₃.0 in
    let h₅ = and_true _ _ h₄.0 in
    let h₆ = and_true _ _ h₅.0 in
    record {
      constants = eqb-true _ _ h₆.0;
      frames = eqb-true _ _ h₆.1;
      registers = eqb-true _ _ h₅.1;
      records = eqb-true _ _ h₄.1;
      locations = eqb-true _ _ h₃.1;
      live-outs = eqb-true _ _ h₂.1;
      end = eqb-true _ _ h₁.1;
    }

-- one of them fails
pub right_not : (s : List ℕ) → (Right s → ⊥) → false ≡ offsets_right s
right_not s f = go (offsets_right s) refl
  where
    go : (b : Bool) → offsets_right s ≡ b → false ≡ offsets_right s
    go true e = absurd (f (right-told s e))
    go false e = sym e

-- the last is left
pub right-last : (s : List ℕ) (stop : ℕ) → constants_at s ≡ 32 → frames_at s ≡ align 8 (constants_at s + 8 * num_constants s)
    → registers_at s ≡ align 4 (frames_at s + 28 * num_frames s) → records_at s ≡ align 8 (registers_at s + 6 * num_registers s)
    → locations_at s ≡ align 4 (records_at s + 22 * num_records s) → live_outs_at s ≡ align 2 (locations_at s + 8 * num_locations s)
    → stop ≡ live_outs_at s + 4 * num_live_outs s → eqb (length s) stop ≡ offsets_right s
unfolding offsets_right
right-last s stop a b c d e f g =
    rw (eq-eqb _ _ a, eq-eqb _ _ b, eq-eqb _ _ c, eq-eqb _ _ d, eq-eqb _ _ e, eq-eqb _ _ f, g)

-- what everything above relies on: each array ends where the next begins, but for at most 7 and 3 bytes of padding
pub record Arranged (s : List ℕ) : Type 0 where
  pub frames : frames_at s ≡ 32 + 8 * num_constants s
  pub registers : registers_at s ≡ frames_at s + 28 * num_frames s
  pub records : registers_at s + 6 * num_registers s ≤ records_at s
  pub locations : records_at s + 22 * num_records s ≤ locations_at s
  pub live-outs : live_outs_at s ≡ locations_at s + 8 * num_locations s
  pub end : length s ≡ live_outs_at s + 4 * num_live_outs s

pub arranged : (s : List ℕ) → Right s → Arranged s
arranged s r =
    let f : frames_at s ≡ 32 + 8 * num_constants s = let a = r.constants in let b = r.frames in omega arith in
    let g : registers_at s ≡ frames_at s + 28 * num_frames s = let a = r.registers in omega arith in
    let h : (registers_at s + 6 * num_registers s ≤ records_at s) × (records_at s % 4 ≡ 0) = let a = r.records in (omega arith, omega arith) in
    let l : (records_at s + 22 * num_records s ≤ locations_at s) × (locations_at s % 2 ≡ 0) = let a = r.locations in (omega arith, omega arith) in
    let o : live_outs_at s ≡ locations_at s + 8 * num_locations s = let a = r.live-outs in omega arith in
    record { frames = f; registers = g; records = h.0; locations = l.0; live-outs = o; end = r.end }

-- the frames are not inside
pub right_outside : (s : List ℕ) → (registers_at s ≤ length s → ⊥) → false ≡ offsets_right s
right_outside s f = right_not s (λ r. f (let a = arranged s r in omega arith))
