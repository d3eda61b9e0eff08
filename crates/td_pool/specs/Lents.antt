-- What contracts see of what lies under the lock.
use Rattle.std.specs.Prelude.{Bool}
use Rattle.td_machine.specs.State.{HallState}

-- the hall, and whether the pool is stopped
pub record Lent : Type 0 where
  pub hall : HallState
  pub stopped : Bool

abbrev pub lent : HallState → Bool → Lent
lent hall stopped = record { hall = hall; stopped = stopped }
