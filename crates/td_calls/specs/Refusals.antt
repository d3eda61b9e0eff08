-- The numbers of the refusals.
use Rattle.std.specs.Prelude.{ℕ}
use Rattle.td_calls.specs.declared.error.CallsError.{CallsError}
use Rattle.td_calls.specs.declared.error.CallsError.TheVariants.{CodeUsed, NoCall, Memory}

abbrev pub number_of : CallsError → ℕ
number_of CodeUsed = 1
number_of (NoCall vertex code) = 2
number_of Memory = 3
