-- Laws of the combinators of verdicts: what a valid result tells of its parts.
use Prim.Native.Nat.{ℕ, ◌+◌}
use mathlib.Core.Path.{◌≡◌, refl}
use mathlib.Core.Bool.{Bool, true, false}
use native.Mathlib.Omega.{arith}
use Rattle.stackmap.specs.Verdict.{Verdict}
use Rattle.stackmap.specs.Verdict.{Valid, Refused}
use Rattle.stackmap.specs.Verdict.{must, chain, bind, shift}

pub never : {n p e : ℕ} {A : Type 0} → ◌≡◌ {A = Verdict} (Refused n p) (Valid e) → A
never h = absurd (let z : ◌≡◌ {A = ℕ} 0 1 = cc in omega arith)

pub must-held : (b : Bool) (n p : ℕ) (k : Verdict) (e : ℕ) → must b n p k ≡ Valid e → b ≡ true
unfolding must
must-held true n p k e h = refl
must-held false n p k e h = never h

pub must-rest : (b : Bool) (n p : ℕ) (k : Verdict) (e : ℕ) → must b n p k ≡ Valid e → k ≡ Valid e
unfolding must
must-rest true n p k e h = h
must-rest false n p k e h = never h

pub chain_first : (a k : Verdict) (e : ℕ) → chain a k ≡ Valid e → (f : ℕ) × (a ≡ Valid f)
unfolding chain
chain_first (Valid f) k e h = (f, refl)
chain_first (Refused n p) k e h = never h

pub chain-rest : (a k : Verdict) (e : ℕ) → chain a k ≡ Valid e → k ≡ Valid e
unfolding chain
chain-rest (Valid f) k e h = h
chain-rest (Refused n p) k e h = never h

pub bind-first : (a : Verdict) (k : ℕ → Verdict) (e : ℕ) → bind a k ≡ Valid e → (f : ℕ) × (a ≡ Valid f) × (k f ≡ Valid e)
unfolding bind
bind-first (Valid f) k e h = (f, refl, h)
bind-first (Refused n p) k e h = never h

pub shift-valid : (p : ℕ) (r : Verdict) (e : ℕ) → shift p r ≡ Valid e → (f : ℕ) × (r ≡ Valid f) × (e ≡ p + f)
unfolding shift
shift-valid p (Valid f) e h = (f, refl, cc)
shift-valid p (Refused n q) e h = never h

pub chain-chain : (a b k : Verdict) → chain a (chain b k) ≡ chain (chain a b) k
unfolding chain
chain-chain (Valid e) b k = refl
chain-chain (Refused n p) b k = refl
