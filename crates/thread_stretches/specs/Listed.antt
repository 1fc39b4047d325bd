-- For the code alone: nothing here has to be believed.
-- Numbered stretches of memory in two arrays: pairs of start and number, of those that are not empty, and all ends by number.
use Rattle.std.specs.Prelude.{ℕ, ◌+◌, ◌≤◌, ◌<◌, ◌≡◌, false, List, get_or}
use Rattle.sorted_pairs.specs.Pairs.{first_at, second_at}
use Rattle.thread.specs.Thread.{share}

-- the pair (a, b) is one of the first n, with its place
pub record PairOf (pairs : List ℕ) (n a b : ℕ) : Type 0 where
  pub place : ℕ
  pub inside : place < n
  pub firsts : first_at pairs place ≡ a
  pub seconds : second_at pairs place ≡ b

-- the first k stretches, of which number j goes from `from j` up to `to j`
pub record Listed (from to : ℕ → ℕ) (k kept : ℕ) (pairs ends : List ℕ) : Type 0 where
  pub ended : (j : ℕ) → j < k → get_or ends j 0 ≡ to j
  pub listed : (j : ℕ) → j < k → from j < to j → PairOf pairs kept (from j) j

-- of each of the first n pairs but the last, the stretch ends before the next one starts
pub record Clear (pairs : List ℕ) (n : ℕ) (ends : List ℕ) : Type 0 where
  pub clear : (i : ℕ) → i + 1 < n → get_or ends (second_at pairs i) 0 ≤ first_at pairs (i + 1)

-- no two of the first k stretches share a byte
pub record AllApart (from to : ℕ → ℕ) (k : ℕ) : Type 0 where
  pub apart : (a b : ℕ) → a < k → b < k → (a ≡ b → ⊥) → share (from a) (to a) (from b) (to b) ≡ false
