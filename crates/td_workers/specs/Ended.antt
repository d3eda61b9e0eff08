-- How a worker ends.
use Rattle.std.specs.Prelude.{◌≡◌, ◌⊎◌, ℕ, Option, Some}
use Rattle.td_plan.specs.declared.vertex.Kind.{Kind}
use Rattle.td_core.specs.declared.error.HallError.TheVariants.{Stranger, Busy, Spent}
use Rattle.td_pool.specs.declared.error.PoolError.{PoolError}
use Rattle.td_pool.specs.declared.error.PoolError.TheVariants.{NotAll, NoCall, Hall as OfHall, Memory}

-- WITH WHAT a worker may be refused: a closure that is lacking, of which its code is told; what a hall refuses who takes or gives; or
-- want of memory
abbrev pub MayRefuse : (Kind → Option ℕ) → PoolError → Type 0
MayRefuse lacks NotAll = ⊥
MayRefuse lacks (NoCall vertex code) = (kind : Kind) × (lacks kind ≡ Some code)
MayRefuse lacks (OfHall error) = (error ≡ Busy) ⊎ ((error ≡ Spent) ⊎ (error ≡ Stranger))
MayRefuse lacks Memory = Unit {0}
