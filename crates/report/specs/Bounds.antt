-- For the code alone: nothing here has to be believed.
-- Totals of which none is above n.
use Rattle.std.specs.Prelude.{ℕ, ◌≤◌}
use Rattle.report.specs.declared.Kinds.{Kinds}
use Rattle.report.specs.declared.Totals.{Totals}

pub record KindsMost (n : ℕ) (k : Kinds) : Type 0 where
  pub register : k.register ≤ n
  pub direct : k.direct ≤ n
  pub indirect : k.indirect ≤ n
  pub constant : k.constant ≤ n
  pub pool : k.pool ≤ n

pub record TotalsMost (n : ℕ) (t : Totals) : Type 0 where
  pub sections : t.sections ≤ n
  pub refused : t.refused ≤ n
  pub functions : t.functions ≤ n
  pub records : t.records ≤ n
  pub statepoints : t.statepoints ≤ n
  pub pairs : t.pairs ≤ n
  pub kinds : KindsMost n t.kinds
  pub stack : t.stack ≤ n
  pub unknown : t.unknown ≤ n
