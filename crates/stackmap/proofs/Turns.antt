-- The owners ahead of a walk.
use Prim.Native.Nat.{ℕ, suc, ◌+◌, ◌-◌, ◌≤◌, ◌<◌}
use mathlib.Core.Path.{◌≡◌, refl, sym, ◌∙◌}
use mathlib.Core.Bool.{Bool, true, false, true≢false}
use mathlib.Core.List.{List, [], ◌∷◌, append-nil}
use native.Mathlib.Omega.{arith}
use lib.ListN.{length, drop, length-replicate}
use Rattle.stackmap.specs.Verdict.{Verdict}
use Rattle.stackmap.specs.Verdict.{Valid, Refused}
use Rattle.stackmap.specs.declared.Turn.{Turn}
use Rattle.stackmap.specs.Verdict.{bind, shift}
use Rattle.stackmap.specs.Section.{Function, num_functions, num_records, is_old, read_function, read_functions, Owner, record_owners, counted}
use Rattle.stackmap.specs.Walk.{function_at, owner_by, owner_at, later_owners, ahead, first_turn, Turning, Walkable}
use Rattle.stackmap.specs.Record.{record_check}
use Rattle.stackmap.specs.Check.{records_check}
use Rattle.stackmap.proofs.Steps.{replicate_step, owners_step, owners-some}
use Rattle.stackmap.proofs.Back.{length-owners}
use Rattle.stackmap.proofs.Within.{at_within}

-- the owners of all records of a section
abbrev pub all_owners : List ℕ → List Owner
all_owners s = record_owners (is_old s) (num_records s) (read_functions s)

pub length-record_owners : (old : Bool) (n : ℕ) (fs : List Function) → (old ≡ false → counted fs ≡ n) → length (record_owners old n fs) ≡ n
unfolding record_owners
length-record_owners true n fs h = length-replicate n _
length-record_owners false n fs h = length-owners 0 fs ∙ h refl

module _ (s : List ℕ) where
  -- version 3: the first function is next
  ahead-start : is_old s ≡ false → ahead s 0 0 ≡ all_owners s
  unfolding ahead later_owners record_owners read_functions
  ahead-start e = let z : num_functions s - 0 ≡ num_functions s = omega arith in rw (e, z)

  -- version 1: all records are nobody's
  ahead-old : is_old s ≡ true → ahead s 1 (num_records s) ≡ all_owners s
  unfolding ahead later_owners owner_by record_owners
  ahead-old e = rw (e, append-nil)

  -- the turn before the first record has all of them ahead
  pub first-ahead : (old : Bool) → is_old s ≡ old → ahead s (first_turn old s).next (first_turn old s).left ≡ all_owners s
  unfolding first_turn
  first-ahead true e = ahead-old e
  first-ahead false e = ahead-start e

  first-turning : (old : Bool) → is_old s ≡ old → Turning s (first_turn old s).next (first_turn old s).left
  unfolding first_turn
  first-turning true e = record { most = λ z. absurd (true≢false (sym e ∙ z)); begun = λ _. omega arith }
  first-turning false e = record { most = λ _. omega arith; begun = λ z. absurd (omega arith) }

  pub start-length : Walkable s → length (all_owners s) ≡ num_records s
  start-length w = length-record_owners (is_old s) (num_records s) (read_functions s) w.adds_up

  -- the next record belongs to the function before `next`
  pub ahead-one : (next left : ℕ) → 0 < left → ahead s next left ≡ owner_at s (next - 1) ∷ ahead s next (left - 1)
  unfolding ahead
  ahead-one next left h = replicate_step left _ _ h

  -- no record is left of a function: those of the next one follow
  pub ahead-next : (next : ℕ) → is_old s ≡ false → next < num_functions s → ahead s next 0 ≡ ahead s (next + 1) (read_function false s (function_at false next)).count
  unfolding ahead later_owners owner_by
  ahead-next next v h =
      let d : function_at false next + 24 ≡ function_at false (next + 1) = omega arith in
      let e : next + 1 - 1 ≡ next = omega arith in
      rw (v, owners_step (read_function false) 24 (num_functions s) s (function_at false next) next h, d, e)

  later_some : (old : Bool) (next : ℕ) → 0 < length (later_owners old s next) → (old ≡ false) × (next < num_functions s)
  unfolding later_owners
  later_some true next h = absurd (omega arith)
  later_some false next h = (refl, let z = owners-some (read_function false) 24 (num_functions s - next) s (function_at false next) next h in omega arith)

  -- records are ahead and none is left: the functions have counts, and not all of them are passed
  pub ahead-some : (next : ℕ) → 0 < length (ahead s next 0) → (is_old s ≡ false) × (next < num_functions s)
  unfolding ahead
  ahead-some next h = later_some (is_old s) next h

-- A walk that goes from one turn to the next: what is still ahead, and what the rest of the walk gives.
pub record Walking (s : List ℕ) (c at : ℕ) (next left remaining p : ℕ) : Type 0 where
  pub turning : Turning s next left
  pub counted : length (ahead s next left) ≡ remaining
  pub inside : p ≤ length s
  pub same : records_check (is_old s) (all_owners s) s c at ≡ records_check (is_old s) (ahead s next left) s c p

-- the verdict on the record at p, of the function before `next`
abbrev pub checked_at : List ℕ → ℕ → ℕ → ℕ → Verdict
checked_at s c next p = shift p (record_check (is_old s) (drop p s) c (owner_at s (next - 1)).function.address)

module _ {s : List ℕ} {c at : ℕ} where
  -- from the first turn
  pub walk_start : {t : Turn} → Walkable s → at ≤ length s → t ≡ first_turn (is_old s) s → Walking s c at t.next t.left (num_records s) at
  walk_start w h e =
      let a = first-ahead s (is_old s) refl in
      rw e (record { turning = first-turning s (is_old s) refl; counted = rw a (start-length s w); inside = h; same = rw a })

  -- the turn has passed on to the next record's owner
  module _ (next' left' : ℕ) {next left remaining p : ℕ} (w : Walking s c at next left remaining p)
      (e : ahead s next' left' ≡ ahead s next left) (h : 0 < left') where
    pub walk_here : records_check (is_old s) (all_owners s) s c at
        ≡ bind (checked_at s c next' p) (λ q. records_check (is_old s) (ahead s next' (left' - 1)) s c q)
    unfolding records_check
    walk_here = w.same ∙ rw (← e, ahead-one s next' left' h)

    -- and the record is refused
    pub walk_stop : {n q : ℕ} → checked_at s c next' p ≡ Refused n q → records_check (is_old s) (all_owners s) s c at ≡ Refused n q
    unfolding bind
    walk_stop v = walk_here ∙ rw v

    -- and the record is valid
    pub walk_on : {q : ℕ} → 0 < next' → (is_old s ≡ false → next' ≤ num_functions s) → checked_at s c next' p ≡ Valid q
        → Walking s c at next' (left' - 1) (remaining - 1) q
    unfolding bind
    walk_on {q} b m v =
        let l : length (ahead s next' left') ≡ suc (length (ahead s next' (left' - 1))) = rw (ahead-one s next' left' h) in
        let n : length (ahead s next' left') ≡ remaining = rw e w.counted in
        record {
          turning = record { most = m; begun = λ _. b };
          counted = omega arith;
          inside = (rw v at (at_within (is_old s) s c (owner_at s (next' - 1)).function.address p w.inside)).most;
          same = walk_here ∙ rw v;
        }

  pub walk_end : {next left remaining p : ℕ} → Walking s c at next left remaining p → remaining ≡ 0 → records_check (is_old s) (all_owners s) s c at ≡ Valid p
  unfolding records_check
  walk_end {next} {left} {p = p} w z = w.same ∙ none (ahead s next left) (w.counted ∙ z)
    where
      none : (os : List Owner) → length os ≡ 0 → records_check (is_old s) os s c p ≡ Valid p
      none [] h = refl
      none (o ∷ os) h = absurd (omega arith)
