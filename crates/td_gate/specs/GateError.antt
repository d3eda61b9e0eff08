use Rattle.std.specs.Prelude.{ℕ}
use Rattle.td_gate.specs.declared.error.GateError.{GateError}
use Rattle.td_gate.specs.declared.error.GateError.TheVariants.{Device, Memory}

-- the number of a refusal
abbrev pub number_of : GateError → ℕ
number_of Device = 1
number_of Memory = 2
