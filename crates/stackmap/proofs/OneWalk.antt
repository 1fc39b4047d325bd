-- One walk over the bytes checks the section and folds its entries with any function.
use Prim.Native.Nat.{ℕ, suc, ◌+◌, ◌-◌, ◌≤◌, ◌<◌}
use mathlib.Core.Path.{◌≡◌, refl, ◌∙◌, ap}
use mathlib.Core.Bool.{Bool, false}
use mathlib.Core.List.{List, [], ◌∷◌}
use native.Mathlib.Omega.{arith}
use native.Mathlib.Numerals.{add-one}
use lib.ListN.{length, drop}
use Rattle.stackmap.specs.Verdict.{Valid}
use Rattle.stackmap.specs.declared.Turn.{Turn}
use Rattle.stackmap.specs.Verdict.{shift}
use Rattle.stackmap.specs.Section.{num_functions, num_records, records_at, record_length, read_records, is_old, Owner, Entry, entries_from, entries}
use Rattle.stackmap.specs.Record.{record_check}
use Rattle.stackmap.specs.Walk.{owner_at, entry_at, ahead, first_turn, Walkable}
use Rattle.stackmap.proofs.Verdicts.{shift-valid}
use Rattle.stackmap.proofs.Forth.{ends}
use Rattle.stackmap.proofs.Entries.{entries_step, entries-are}
use Rattle.stackmap.proofs.Turns.{all_owners, Walking, first-ahead, walk_start, walk_on, ahead-one}

-- a valid record that stands at p ends where its length says
pub here-ends : (old : Bool) (s : List ℕ) (c a p q : ℕ) → shift p (record_check old (drop p s) c a) ≡ Valid q → q ≡ p + record_length old (drop p s)
here-ends old s c a p q v =
    let x = shift-valid _ _ _ v in
    x.2 ∙ ap (λ (n : ℕ). p + n) (ends old (drop p s) c a _ x.1)

module _ {H : Type 0} (add : Entry → H → H) where
  -- what is kept, over a list of entries
  abbrev pub fold : List Entry → H → H
  fold [] h = h
  fold (e ∷ es) h = fold es (add e h)

  -- a walk that has kept h so far stands at the record `number` at the place p
  pub record Folding (s : List ℕ) (c : ℕ) (h₀ : H) (next left remaining number p : ℕ) (h : H) : Type 0 where
    pub walking : Walking s c (records_at s) next left remaining p
    pub kept : fold (entries s) h₀ ≡ fold (entries_from (is_old s) number p (ahead s next left) (read_records (is_old s) remaining s p)) h

  pub fold_start : {s : List ℕ} {c at count : ℕ} {t : Turn} (h : H) → Walkable s → t ≡ first_turn (is_old s) s
      → at ≡ records_at s → at ≤ length s → count ≡ num_records s → Folding s c h t.next t.left count 0 at h
  fold_start {s} {c} {at} {count} {t} h w u e i n =
      let a : ahead s t.next t.left ≡ all_owners s = rw u (first-ahead s (is_old s) refl) in
      rw (n, e) (record { walking = walk_start w (rw e at i) u; kept = rw a (ap (λ (es : List Entry). fold es h) (entries-are s)) })

  pub fold_on : {s : List ℕ} {c next left remaining number p q : ℕ} {h₀ h : H} (next' left' : ℕ) → Folding s c h₀ next left remaining number p h
      → ahead s next' left' ≡ ahead s next left → 0 < left' → 0 < next' → (is_old s ≡ false → next' ≤ num_functions s) → 0 < remaining
      → shift p (record_check (is_old s) (drop p s) c (owner_at s (next' - 1)).function.address) ≡ Valid q
      → Folding s c h₀ next' (left' - 1) (remaining - 1) (number + 1) q (add (entry_at s number (next' - 1) p) h)
  fold_on {s} {c} {next} {left} {remaining} {number} {p} {q} {h₀} {h} next' left' f e l b m r v =
      let d = here-ends (is_old s) s c (owner_at s (next' - 1)).function.address p q v in
      let k : remaining ≡ suc (remaining - 1) = omega arith in
      let t : entries_from (is_old s) number p (ahead s next left) (read_records (is_old s) remaining s p)
      ≡ entry_at s number (next' - 1) p ∷ entries_from (is_old s) (number + 1) q (ahead s next' (left' - 1)) (read_records (is_old s) (remaining - 1) s q) =
      ap (λ (n : ℕ). entries_from (is_old s) number p (ahead s next left) (read_records (is_old s) n s p)) k
      ∙ rw (← e, ahead-one s next' left' l, entries_step (is_old s) number p (remaining - 1) (owner_at s (next' - 1)) (ahead s next' (left' - 1)) s, d, add-one) in
      record { walking = walk_on next' left' f.walking e l b m v; kept = f.kept ∙ ap (λ (es : List Entry). fold es h) t }

  pub fold_end : {s : List ℕ} {c next left remaining number p : ℕ} {h₀ h : H} → Folding s c h₀ next left remaining number p h → remaining ≡ 0
      → fold (entries s) h₀ ≡ h
  fold_end {s} {c} {next} {left} {remaining} {number} {p} {h₀} {h} f z = f.kept ∙ rw z (none (is_old s) (ahead s next left))
    where
      none : (old : Bool) (os : List Owner) → fold (entries_from old number p os (read_records old 0 s p)) h ≡ h
      none old [] = unfold entries_from in refl
      none old (o ∷ os) = unfold entries_from read_records in refl
