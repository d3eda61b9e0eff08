-- The refusals' numbers.
use Rattle.std.specs.Prelude.{ℕ}
use Rattle.td_pool.specs.declared.error.PoolError.{PoolError}
use Rattle.td_pool.specs.declared.error.PoolError.TheVariants.{NotAll, NoCall, Hall, Memory}
use Rattle.td_task.specs.declared.error.TaskError.{TaskError}
use Rattle.td_task.specs.declared.error.TaskError.TheVariants as runs

abbrev pub number_of : PoolError → ℕ
number_of NotAll = 1
number_of (NoCall vertex code) = 2
number_of (Hall error) = 3
number_of Memory = 4

-- the refusal of a run, told by the pool
abbrev pub of_run : TaskError → PoolError
of_run (runs.NoCall vertex code) = NoCall vertex code
of_run runs.Memory = Memory
