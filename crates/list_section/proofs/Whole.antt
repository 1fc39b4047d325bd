-- What the program writes for the first 65,536 bytes of its input it writes for all of it.
use Rattle.std.proofs.Common.{◌≡◌, ℕ, ◌+◌, ◌<◌, ◌≤◌, List, [], ◌++◌, length, take, drop, Option, None, Some, IfSome, inl, inr, arith, sym, ap, ◌∙◌, subst, append-nil, length-append}
use Rattle.std.proofs.Math.Seq.{take-append_seam, length-sets}
use Rattle.std.proofs.lemmas.Bool.Decides.{leb_tells}
use Rattle.std.proofs.lemmas.List.Edits.{sets, sets-eq}
use Rattle.std.specs.Io.KnownBytes.{Consumes, IsAtEnd}
use Rattle.program.specs.Program.{written}
use Rattle.program.proofs.Written.{written-long}

-- a front is the whole, or as much too long
written-append : (xs ys : List ℕ) → (length xs < 65536 → ys ≡ []) → written (xs ++ ys) ≡ written xs
written-append xs ys end =
    elim (leb_tells 65536 (length xs)) [
      | inl h ↦ written-long (xs ++ ys) (omega (arith, length-append xs ys)) ∙ sym (written-long xs (omega arith))
      | inr h ↦ ap written (ap (λ l. xs ++ l) (end h.1) ∙ append-nil xs)
    ]

-- what holds of what is written for the bytes that a reader gave holds of what is written for all that it had
pub whole : (before after : Option (List ℕ)) (bs : List ℕ) (P : List ℕ → Type 0) → Consumes before after bs → (length bs < 65536 → IsAtEnd after)
    → P (written bs) → IfSome before (λ xs. P (written xs))
whole None after bs P p end h = tt
whole (Some x) None bs P p end h = absurd p
whole (Some x) (Some y) bs P p end h = subst P (sym (ap written p ∙ written-append bs y end)) h

-- what was put at the start of a list is its front
pub take-sets : (n : ℕ) (xs vs out : List ℕ) → n ≡ length vs → out ≡ sets xs 0 vs → n ≤ length out → take n out ≡ vs
take-sets n xs vs out n-is out-is fits =
    let room : 0 + length vs ≤ length xs = omega (arith, ap length out-is, length-sets xs 0 vs) in
    ap (λ l. take n l) (out-is ∙ sets-eq vs xs 0 room) ∙ ap (λ m. take m (vs ++ drop (0 + length vs) xs)) n-is ∙ take-append_seam vs (drop (0 + length vs) xs)
