-- A second walk over an accepted section: each record is known to be valid, so that nothing of it is checked again.
use Prim.Native.Nat.{ℕ, ◌+◌, ◌*◌, ◌-◌, ◌^◌, ◌≤◌, ◌<◌}
use mathlib.Core.Path.{◌≡◌, refl, sym, ◌∙◌}
use mathlib.Core.Bool.{Bool, false, ◌&&◌}
use mathlib.Core.List.{List}
use native.Mathlib.Omega.{arith}
use lib.Dec.{leb}
use lib.ListN.{length, set, take, drop}
use Rattle.wire.specs.Word.{word}
use Rattle.stackmap.specs.Verdict.{Valid}
use Rattle.stackmap.specs.Section.{num_functions, num_constants, is_old, records_at, record_length, read_record, address}
use Rattle.stackmap.specs.Record.{record_bytes, record_check}
use Rattle.stackmap.specs.Check.{records_check, walk_check, Accepted}
use Rattle.stackmap.specs.Walk.{owner_at, entry_at, ahead}
use Rattle.stackmap.proofs.Addresses.{right-fits}
use Rattle.stackmap.proofs.Verdicts.{must-held, chain_first, chain-rest, bind-first, shift-valid}
use Rattle.stackmap.proofs.Within.{BeforeRecords, begin_held, section_parts, is-inside, here-inside, part-from}
use Rattle.stackmap.proofs.Turns.{all_owners, Walking, checked_at, walk_here}
use Rattle.stackmap.proofs.OneWalk.{Folding, here-ends, fold_on}
use Rattle.index_rows.specs.Filled.{Filling, filled}

module _ (s : List ℕ) (k : Accepted s) where
  -- its tables are inside and its counts add up
  pub tabled : BeforeRecords s (records_at s)
  tabled =
      let t = begin_held s _ (chain_first _ _ _ (sym (section_parts s) ∙ k)).1 in
      record { begins = refl; inside = t.inside; walkable = t.walkable }

  -- all its records are valid
  all_valid : (e : ℕ) × (records_check (is_old s) (all_owners s) s (num_constants s) (records_at s) ≡ Valid e)
  unfolding walk_check
  all_valid = let b = bind-first _ _ _ (chain-rest _ _ _ (sym (section_parts s) ∙ k)) in (b.0, b.1)

  -- the next record of a walk, whose owner stands before next'
  module _ {next left remaining p : ℕ} (w : Walking s (num_constants s) (records_at s) next left remaining p)
      (next' left' : ℕ) (e : ahead s next' left' ≡ ahead s next left) (l : 0 < left') where
    pub next-valid : checked_at s (num_constants s) next' p ≡ Valid (p + record_length (is_old s) (drop p s))
    next-valid =
        let v = bind-first _ _ _ (sym (walk_here next' left' w e l) ∙ all_valid.1) in
        let d = here-ends (is_old s) s (num_constants s) (owner_at s (next' - 1)).function.address p _ v.1 in
        v.1 ∙ rw d

    -- its head is inside
    pub next-head : p + 16 ≤ length s
    next-head = here-inside (is_old s) s (num_constants s) (owner_at s (next' - 1)).function.address p _ w.inside next-valid

    checked : (q : ℕ) × (record_check (is_old s) (drop p s) (num_constants s) (owner_at s (next' - 1)).function.address ≡ Valid q)
    checked = let x = shift-valid _ _ _ next-valid in (x.0, x.1)

    -- it is inside
    pub next-whole : record_length (is_old s) (drop p s) ≤ length (drop p s)
    unfolding record_check
    next-whole = is-inside (is_old s) (drop p s) _ (chain_first _ _ _ checked.1).1

    -- its address is below 2^64
    pub next_address : is_old s ≡ false → address (entry_at s 0 (next' - 1) p) < 2 ^ 64
    unfolding record_check address read_record
    next_address new =
        let h = right-fits (is_old s) ((owner_at s (next' - 1)).function.address + word 4 (drop p s) 8) new
        (must-held _ 8 0 (record_bytes (is_old s) (drop p s) (num_constants s)) _ (chain-rest _ _ _ checked.1)) in
        omega arith

  -- and its row is put after those before it
  pub fill_on : {h₀ h : Filling} {next left remaining number p : ℕ} (f : Folding filled s (num_constants s) h₀ next left remaining number p h)
      (next' left' : ℕ) → ahead s next' left' ≡ ahead s next left → 0 < left' → 0 < next' → (is_old s ≡ false → next' ≤ num_functions s) → 0 < remaining
      → {remaining' : ℕ} → remaining' ≡ remaining - 1 → {a size : ℕ} {list : List ℕ} {rises : Bool}
      → a ≡ address (entry_at s 0 (next' - 1) p) → list ≡ set (set h.list (2 * number) a) (2 * number + 1) number → rises ≡ (h.rises && leb h.last a)
      → size ≡ record_length (is_old s) (drop p s)
      → Folding filled s (num_constants s) h₀ next' (left' - 1) remaining' (number + 1) (p + size) (record { list = list; last = a; rises = rises })
  unfolding filled address
  fill_on f next' left' e l b m r q w x y z = rw (q, z, x, y, w) (fold_on filled next' left' f e l b m r (next-valid f.walking next' left' e l))

-- the part `&s[p..]`, as it is seen by what is called
pub part-whole : (s : List ℕ) (p : ℕ) → is_old s ≡ false → record_length (is_old s) (drop p s) ≤ length (drop p s)
    → record_length false (take (length s - p) (drop p s)) ≤ length (take (length s - p) (drop p s))
part-whole s p new h = rw part-from (rw new at h)

pub part-size : (s : List ℕ) (p : ℕ) → is_old s ≡ false → {size : ℕ} → size ≡ record_length false (take (length s - p) (drop p s)) → size ≡ record_length (is_old s) (drop p s)
part-size s p new h = h ∙ rw (part-from, new)
