-- Every place that the check of a section gives is inside the section, or its end.
use Prim.Native.Nat.{ℕ, zero, suc, ◌+◌, ◌≤◌}
use mathlib.Core.Path.{◌≡◌, refl}
use mathlib.Core.Bool.{Bool, true, false}
use mathlib.Core.List.{List}
use native.Mathlib.Omega.{arith}
use borrow.Author.Tests.{leb-true}
use lib.ListN.{length}
use lib.Dec.{leb}
use Rattle.stackmap.specs.Verdict.{Verdict}
use Rattle.stackmap.specs.Verdict.{Valid, Refused}
use Rattle.stackmap.specs.Verdict.{must, chain, bind}
use Rattle.stackmap.specs.Section.{num_constants, is_old, records_at}
use Rattle.stackmap.specs.Record.{zeros}
use Rattle.stackmap.specs.Check.{first_outside, header_check, tables_check, walk_check, section_check}
use Rattle.stackmap.proofs.Within.{Within, walk_within, header_held, tables-held}
use Rattle.stackmap.proofs.Turns.{all_owners}

place-must : (m : ℕ) (b : Bool) (n p : ℕ) (k : Verdict) → p ≤ m → (b ≡ true → Within m k) → Within m (must b n p k)
unfolding must
place-must m true n p k h w = w refl
place-must m false n p k h w = record { most = h }

place-chain : (m : ℕ) (a k : Verdict) → Within m a → ((e : ℕ) → a ≡ Valid e → Within m k) → Within m (chain a k)
unfolding chain
place-chain m (Valid e) k h w = w e refl
place-chain m (Refused n p) k h w = h

place-bind : (m : ℕ) (a : Verdict) (k : ℕ → Verdict) → Within m a → ((e : ℕ) → e ≤ m → Within m (k e)) → Within m (bind a k)
unfolding bind
place-bind m (Valid e) k h w = w e h.most
place-bind m (Refused n p) k h w = h

place-zeros : (m n : ℕ) (s : List ℕ) (at : ℕ) → at + n ≤ m → Within m (zeros n s at)
unfolding zeros
place-zeros m zero s at h = record { most = omega arith }
place-zeros m (suc n) s at h = place-must m _ 3 at _ (omega arith) (λ _. place-zeros m n s (at + 1) (omega arith))

place_outside : (n m : ℕ) (s : List ℕ) (at : ℕ) → at ≤ length s → first_outside n m s at ≤ length s
unfolding first_outside
place_outside n zero s at h = h
place_outside n (suc m) s at h = go (leb (at + n) (length s)) refl (λ k. place_outside n m s (at + n) k)
  where
    go : (b : Bool) → leb (at + n) (length s) ≡ b → (at + n ≤ length s → first_outside n m s (at + n) ≤ length s) → first_outside n (suc m) s at ≤ length s
    go true e rest = rw e (rest (leb-true _ _ e))
    go false e rest = rw e h

module _ (s : List ℕ) where
  place_header : Within (length s) (header_check s)
  unfolding header_check
  place_header =
      place-must _ _ 1 0 _ (omega arith)
      (λ e.
      let l = leb-true 16 (length s) e in
      place-must _ _ 1 0 _ (omega arith) (λ _. place-must _ _ 2 0 _ (omega arith) (λ _. place-zeros (length s) 3 s 1 (omega arith))))

  place-tables : 16 ≤ length s → Within (length s) (tables_check s)
  unfolding tables_check
  place-tables l =
      place-must _ _ 4 _ _ (place_outside _ _ s 16 l)
      (λ e.
      place-must _ _ 4 _ _ (place_outside _ _ s _ (leb-true _ _ e))
      (λ f. place-must _ _ 5 _ _ (omega arith) (λ _. record { most = leb-true _ _ f })))

  place_walk : records_at s ≤ length s → Within (length s) (walk_check s)
  unfolding walk_check
  place_walk l =
      place-bind _ _ _ (walk_within (is_old s) (all_owners s) s (num_constants s) (records_at s) l)
      (λ p h. place-must _ _ 9 p _ h (λ _. record { most = h }))

  pub section_within : Within (length s) (section_check s)
  unfolding section_check
  section_within =
      place-chain _ _ _ place_header
      (λ e h. place-chain _ _ _ (place-tables (header_held s e h)) (λ f k. place_walk (tables-held s f k).inside))
