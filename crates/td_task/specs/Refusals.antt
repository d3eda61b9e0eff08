-- The refusals of a run, and their numbers.
use Rattle.std.specs.Prelude.{ℕ, Option, Some, None}
use Rattle.td_task.specs.declared.error.TaskError.{TaskError}
use Rattle.td_task.specs.declared.error.TaskError.TheVariants.{NoCall, Memory}

abbrev pub number_of : TaskError → ℕ
number_of (NoCall vertex code) = 1
number_of Memory = 2

-- why a task of a vertex is refused that lacks a closure of this code, or lacks none
abbrev pub refusal : ℕ → Option ℕ → TaskError
refusal vertex None = Memory
refusal vertex (Some code) = NoCall vertex code
