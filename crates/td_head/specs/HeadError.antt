-- The refusals of heads.
use Rattle.std.specs.Prelude.{◌≡◌, ◌⊎◌, ℕ}
use Rattle.td_gate.specs.declared.error.GateError.{GateError}
use Rattle.td_gate.specs.declared.error.GateError.TheVariants as gate
use Rattle.td_head.specs.declared.error.HeadError.{HeadError}
use Rattle.td_head.specs.declared.error.HeadError.TheVariants.{NotFormatted, Damaged, WrongPlan, Device, Memory, LastGeneration}

-- the number of a refusal
abbrev pub number_of : HeadError → ℕ
number_of NotFormatted = 1
number_of Damaged = 2
number_of WrongPlan = 3
number_of Device = 4
number_of Memory = 5
number_of LastGeneration = 6

-- a refusal of a region, as the heads give it
abbrev pub of_gate : GateError → HeadError
of_gate gate.Device = Device
of_gate gate.Memory = Memory

-- memory ran out, or the device failed
abbrev pub IsMemoryOrDevice : HeadError → Type 0
IsMemoryOrDevice e = (e ≡ Memory) ⊎ (e ≡ Device)

-- the device failed, memory ran out, or else this holds
abbrev pub IsFailureOr : Type 0 → HeadError → Type 0
IsFailureOr other e = (e ≡ Device) ⊎ ((e ≡ Memory) ⊎ other)

-- what a call that raises a head may refuse
abbrev pub IsRaiseRefusal : HeadError → Type 0
IsRaiseRefusal e = (e ≡ LastGeneration) ⊎ ((e ≡ Memory) ⊎ (e ≡ Device))
