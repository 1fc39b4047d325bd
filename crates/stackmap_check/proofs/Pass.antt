-- A walk that passes over records keeps what it has kept.
use Rattle.std.proofs.Common.{◌≡◌, ℕ, suc, ◌+◌, ◌-◌, ◌≤◌, List, ap, arith}
use Rattle.wire.specs.Word.{word}
use Rattle.stackmap.specs.Verdict.{Verdict}
use Rattle.stackmap.specs.Verdict.{Valid}
use Rattle.stackmap.specs.Verdict.{shift}
use Rattle.stackmap.specs.Section.{Entry}
use Rattle.stackmap.specs.Walk.{owner_at, entry_at}
use Rattle.stackmap.proofs.OneWalk.{Folding, fold_on}
use Rattle.stackmap_check.specs.Pass.{Passed, none, more}

-- what a quick look tells of a record at a place
pub shifted : (v : Verdict) (at r : ℕ) → at ≤ r → v ≡ Valid (r - at) → shift at v ≡ Valid r
unfolding shift
shifted v at r i e = rw e (ap Valid (omega arith))

module _ {H : Type 0} (add : Entry → H → H) {s : List ℕ} {c : ℕ} (Over : ℕ → Type 0) {h₀ h : H}
    (keeps : (number i p : ℕ) → Over ((owner_at s i).function.address + word 4 s (p + 8)) → add (entry_at s number i p) h ≡ h) where
  pub fold_passed : {next left remaining number p k n l r q : ℕ} → Passed s c Over next left remaining p k n l r q
      → Folding add s c h₀ next left remaining number p h → Folding add s c h₀ n l r (number + k) q h
  fold_passed {number = number} none f = let z : number + 0 ≡ number = omega arith in rw z f
  fold_passed {number = number} (more {k} {n} {l} {r} {q} n' l' q' m e o b v) f =
      let x = fold_on add n' l' (fold_passed m f) e o.some o.begun o.most b v.right in
      let z : number + suc k ≡ number + k + 1 = omega arith in
      rw z (rw (keeps (number + k) (n' - 1) q v.apart) at x)
