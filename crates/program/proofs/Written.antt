-- What the conversion answers is what the program writes.
use Prim.Native.Nat.{ℕ, ◌≤◌, ◌<◌}
use mathlib.Core.Path.{◌≡◌, refl}
use mathlib.Core.List.{List}
use native.Mathlib.Omega.{arith}
use borrow.Author.Tests.{le-leb, lt-leb}
use lib.ListN.{length}
use lib.Seq.{sets}
use Rattle.stackmap.specs.Verdict.{Verdict}
use Rattle.stackmap.specs.Verdict.{Valid, Refused}
use Rattle.stackmap.specs.Section.{read_section}
use Rattle.stackmap.specs.Check.{section_check}
use Rattle.stackmap.proofs.Numbers.{Numbered, section-numbered}
use Rattle.listing.specs.Listing.{encode_listing, give, to_listing}
use Rattle.listing.proofs.Short.{listing_short}
use Rattle.listing.proofs.Writes.{sets-whole}
use Rattle.decimal.specs.Line.{line}
use Rattle.program.specs.Program.{written}

-- input that is too long
pub written-long : (s : List ℕ) → 40960 < length s → written s ≡ line 1 0
unfolding written
written-long s h = rw (lt-leb _ _ h)

module _ (s out : List ℕ) (short : length s ≤ 40960) (room : length out ≡ 65536) where
  abbrev result : List ℕ
  result = encode_listing (read_section s)

  -- the listing fits
  fits : (e : ℕ) → section_check s ≡ Valid e → length result ≤ length out
  fits e k = let h = listing_short s e k in omega arith

  -- a refusal: the line is to be written, and the output is as it was
  pub record Refusal : Type 0 where
    pub line-is : written s ≡ line (to_listing s out).number (to_listing s out).place
    pub kept : (to_listing s out).output ≡ out

  pub written-refused : ((to_listing s out).number ≡ 0 → ⊥) → Refusal
  unfolding written to_listing
  written-refused h = go (section_check s) refl
    where
      go : (v : Verdict) → section_check s ≡ v → Refusal
      go (Refused n p) e = record { line-is = rw (le-leb _ _ short, e); kept = rw e }
      go (Valid n) e = absurd (h (rw (e, give, le-leb _ _ (fits n e))))

  -- the listing is written
  pub record Listed : Type 0 where
    pub long : (to_listing s out).written ≡ length (written s)
    pub bytes : (to_listing s out).output ≡ sets out 0 (written s)
    pub fit : (to_listing s out).written ≤ 65536

  pub written_listed : (to_listing s out).number ≡ 0 → Listed
  unfolding written to_listing
  written_listed h = go (section_check s) refl (section-numbered s)
    where
      go : (v : Verdict) → section_check s ≡ v → Numbered 9 (section_check s) → Listed
      go (Refused n p) e a = absurd (let z = (rw e at a).above in let y : n ≡ 0 = rw e at h in omega arith)
      go (Valid n) e a =
          record {
            long = rw (le-leb _ _ short, e, give, le-leb _ _ (fits n e));
            bytes = rw (le-leb _ _ short, e, give, le-leb _ _ (fits n e), sets-whole result out (fits n e));
            fit = rw (e, give, le-leb _ _ (fits n e)) (omega (arith, fits n e));
          }
