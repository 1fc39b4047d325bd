-- A walk over all records tells the verdict and what it kept.
use Prim.Native.Nat.{ℕ, suc, ◌+◌, ◌-◌, ◌≤◌, ◌<◌}
use mathlib.Core.Path.{◌≡◌, refl, ◌∙◌, ap}
use mathlib.Core.Bool.{Bool, true, false, cond}
use mathlib.Core.List.{List}
use native.Mathlib.Omega.{arith}
use borrow.Author.Tests.{eq-eqb, ne_eqb}
use lib.Dec.{eqb}
use lib.ListN.{length, drop}
use Rattle.wire.specs.Word.{word}
use Rattle.stackmap.specs.Verdict.{Verdict}
use Rattle.stackmap.specs.Verdict.{Valid, Refused}
use Rattle.stackmap.specs.Verdict.{must, chain, shift, bind}
use Rattle.stackmap.specs.Section.{num_constants, is_old, Entry, entries, address}
use Rattle.stackmap.specs.Record.{record_check}
use Rattle.stackmap.specs.Check.{header_check, tables_check, walk_check, section_check, Accepted}
use Rattle.stackmap.specs.Walk.{owner_at, entry_at, ahead}
use Rattle.stackmap.proofs.Numbers.{Numbered, section-numbered}
use Rattle.stackmap.proofs.Turns.{walk_stop, walk_end}
use Rattle.stackmap.proofs.Within.{section_parts}
use Rattle.stackmap.proofs.OneWalk.{Folding, fold, fold_end}
use Rattle.stackmap_check.specs.Pass.{Not, Stopped}
use Rattle.stackmap_check.proofs.Pass.{fold_passed}
use Rattle.questions.specs.declared.Hits.{Hits}
use Rattle.questions.specs.Kept.{no_hits, noted}
use Rattle.questions.proofs.Kept.{here-address, passed}
use Rattle.questions_find.specs.declared.Scanned.{Scanned}
use Rattle.questions_find.specs.Scan.{all_records, front_check, refused_at, told, scanned}

-- a record with another address is passed over
pub not_noted : (a : ℕ) (s : List ℕ) (h : Hits) (number i p : ℕ) → ((owner_at s i).function.address + word 4 s (p + 8) ≡ a → ⊥)
    → noted a (entry_at s number i p) h ≡ h
not_noted a s h number i p n = passed a (entry_at s number i p) h (ne_eqb _ _ (λ (e : address (entry_at s number i p) ≡ a). n (rw (here-address s number i p) at e)))

-- the first record that is kept lies where one of the records does
pub noted-first : (a n : ℕ) (e : Entry) (h : Hits) → e.first ≤ n → h.first ≤ n → (noted a e h).first ≤ n
unfolding noted
noted-first a n e h i j = go (eqb (address e) a) (eqb h.sharing 0)
  where
    go : (b d : Bool) → (cond b (cond d (record { index = e.number; function = e.owner.number; sharing = 1; first = e.first })
        (record { index = h.index; function = h.function; sharing = suc h.sharing; first = h.first })) h).first ≤ n
    go true true = i
    go true false = j
    go false d = j

-- where a walk over `count` records has stopped, what it had kept is still what it keeps
pub kept_on : (a count : ℕ) {s : List ℕ} {c next left remaining p next' left' remaining' p' : ℕ} {h : Hits}
    (t : Stopped s c (Not a) next left remaining p next' left' remaining' p') → remaining ≤ count
    → Folding (noted a) s c no_hits next left remaining (count - remaining) p h
    → Folding (noted a) s c no_hits t.before_next t.before_left remaining' (count - remaining') p' h
kept_on a count {s} {remaining = remaining} {remaining' = remaining'} {h = h} t l f =
    let n = t.counted in
    let y : count - remaining + t.many ≡ count - remaining' = omega arith in
    rw y at (fold_passed (noted a) (Not a) (not_noted a s h) t.passed f)

module _ (a : ℕ) {s : List ℕ} {c next left remaining number p : ℕ} {h : Hits} (e : c ≡ num_constants s)
    (f : Folding (noted a) s c no_hits next left remaining number p h) where
  -- all records are right, and the last one ends here
  pub all_right : remaining ≡ 0 → record { number = 0; place = p; hits = h } ≡ told (fold (noted a) (entries s) no_hits) (all_records s)
  unfolding told all_records
  all_right z = rw (rw e at (walk_end f.walking z), fold_end (noted a) f z)

  -- the walk stops at a record that is refused, whose owner stands before next'
  pub one_wrong : (next' left' : ℕ) → ahead s next' left' ≡ ahead s next left → 0 < left' → {n q : ℕ}
      → shift p (record_check (is_old s) (drop p s) c (owner_at s (next' - 1)).function.address) ≡ Refused n q
      → refused_at n q ≡ told (fold (noted a) (entries s) no_hits) (all_records s)
  unfolding told all_records
  one_wrong next' left' b l v = rw (rw e at (walk_stop next' left' f.walking b l v))

-- What a walk tells, said of the check of the section.

pub front_parts : (s : List ℕ) → section_check s ≡ bind (front_check s) (λ p. must (eqb p (length s)) 9 p (Valid p))
unfolding front_check all_records walk_check
front_parts s = section_parts s ∙ go (chain (header_check s) (tables_check s)) _ _
  where
    go : (v w : Verdict) (k : ℕ → Verdict) → chain v (bind w k) ≡ bind (chain v w) k
    go (Valid e) w k = unfold chain in refl
    go (Refused n p) w k = unfold chain bind in refl

-- all records are right, and the last one ends at p
pub record Fronted (s : List ℕ) (a p : ℕ) (h : Hits) : Type 0 where
  pub front : front_check s ≡ Valid p
  pub kept : fold (noted a) (entries s) no_hits ≡ h

module _ (s : List ℕ) (a : ℕ) (r : Scanned) (e : r ≡ scanned s a) where
  refused-by : (v : Verdict) → front_check s ≡ v → (r.number ≡ 0 → ⊥) → front_check s ≡ Refused r.number r.place
  unfolding scanned told
  refused-by (Refused n p) q z = let w = rw q at e in rw w q
  refused-by (Valid p) q z = absurd (z (rw (rw q at e)))

  fronted_by : (v : Verdict) → front_check s ≡ v → Numbered 9 (section_check s) → r.number ≡ 0 → Fronted s a r.place r.hits
  unfolding scanned told bind
  fronted_by (Refused n p) q b z =
      let w = rw q at e in
      let x = rw (front_parts s, q) at b in
      absurd (let y = x.above in let k : r.number ≡ n = rw w in omega arith)
  fronted_by (Valid p) q b z = let w = rw q at e in rw w (record { front = q; kept = refl })

  -- a refusal is that of the section
  pub front_refused : (r.number ≡ 0 → ⊥) → section_check s ≡ Refused r.number r.place
  unfolding bind
  front_refused z = front_parts s ∙ rw (refused-by (front_check s) refl z)

  -- else all records are right
  pub front_right : r.number ≡ 0 → Fronted s a r.place r.hits
  front_right z = fronted_by (front_check s) refl (section-numbered s) z

module _ {s : List ℕ} {a p : ℕ} {h : Hits} (f : Fronted s a p h) where
  -- nothing follows the last one
  pub front_whole : p ≡ length s → Accepted s
  unfolding bind must
  front_whole q = front_parts s ∙ rw (f.front, eq-eqb p (length s) q) (ap Valid q)

  -- something does
  pub front_after : (p ≡ length s → ⊥) → section_check s ≡ Refused 9 p
  unfolding bind must
  front_after n = front_parts s ∙ rw (f.front, ne_eqb p (length s) n)
