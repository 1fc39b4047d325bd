-- For the code alone: nothing here has to be believed.
-- What a walk has passed over: records that are right and whose addresses do not matter to it.
use Rattle.std.specs.Prelude.{◌≡◌, ℕ, suc, ◌+◌, ◌-◌, ◌<◌, ◌≤◌, false, List, drop}
use Rattle.wire.specs.Word.{word}
use Rattle.stackmap.specs.Verdict.{Valid}
use Rattle.stackmap.specs.Verdict.{shift}
use Rattle.stackmap.specs.Section.{num_functions, is_old}
use Rattle.stackmap.specs.Record.{record_check}
use Rattle.stackmap.specs.Walk.{ahead, owner_at}

-- the turn has passed on to the owner of the next record: `left` records of the function before `next` are ahead, this one too
pub record Owned (s : List ℕ) (next left : ℕ) : Type 0 where
  pub some : 0 < left
  pub begun : 0 < next
  pub most : is_old s ≡ false → next ≤ num_functions s

-- an address that a walk with one address in mind passes over: every other
abbrev pub Not : ℕ → ℕ → Type 0
Not wanted a = a ≡ wanted → ⊥

-- the record at p, of the function before `next`, is right and ends at q
abbrev pub RightAt : List ℕ → ℕ → ℕ → ℕ → ℕ → Type 0
RightAt s c next p q = shift p (record_check (is_old s) (drop p s) c (owner_at s (next - 1)).function.address) ≡ Valid q

-- and its address is one that the walk passes over
pub record Passing (s : List ℕ) (c : ℕ) (Over : ℕ → Type 0) (next p q : ℕ) : Type 0 where
  pub right : RightAt s c next p q
  pub apart : Over ((owner_at s (next - 1)).function.address + word 4 s (p + 8))

-- from one place of the walk to another, k records further on
pub data Passed (s : List ℕ) (c : ℕ) (Over : ℕ → Type 0) (next left remaining p : ℕ) : ℕ → ℕ → ℕ → ℕ → ℕ → Type 0 where
  none : Passed s c Over next left remaining p 0 next left remaining p
  more : {k n l r q : ℕ} (n' l' q' : ℕ) → Passed s c Over next left remaining p k n l r q → ahead s n' l' ≡ ahead s n l → Owned s n' l' → 0 < r
      → Passing s c Over n' q q' → Passed s c Over next left remaining p (suc k) n' (l' - 1) (r - 1) q'

-- where a walk stops that stood at the first four numbers: at a record whose owner's turn it is, or where none is ahead
pub record Stopped (s : List ℕ) (c : ℕ) (Over : ℕ → Type 0) (next left remaining p next' left' remaining' p' : ℕ) : Type 0 where
  pub many : ℕ
  pub before_next : ℕ
  pub before_left : ℕ
  pub passed : Passed s c Over next left remaining p many before_next before_left remaining' p'
  pub counted : many + remaining' ≡ remaining
  pub same : ahead s next' left' ≡ ahead s before_next before_left
  pub owned : 0 < remaining' → Owned s next' left'
