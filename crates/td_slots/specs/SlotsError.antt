-- The refusals of slots.
use Rattle.std.specs.Prelude.{◌≡◌, ◌⊎◌, ℕ}
use Rattle.td_gate.specs.declared.error.GateError.{GateError}
use Rattle.td_gate.specs.declared.error.GateError.TheVariants as gate
use Rattle.td_slots.specs.declared.error.SlotsError.{SlotsError}
use Rattle.td_slots.specs.declared.error.SlotsError.TheVariants.{TooManyKeys, Damaged, NoSlot, Device, Memory}

-- the number of a refusal
abbrev pub number_of : SlotsError → ℕ
number_of TooManyKeys = 1
number_of (Damaged slot) = 2
number_of NoSlot = 3
number_of Device = 4
number_of Memory = 5

-- a refusal of a region, as the slots give it
abbrev pub of_gate : GateError → SlotsError
of_gate gate.Device = Device
of_gate gate.Memory = Memory

-- the device failed, memory ran out, or else this holds
abbrev pub IsFailureOr : Type 0 → SlotsError → Type 0
IsFailureOr other e = (e ≡ Device) ⊎ ((e ≡ Memory) ⊎ other)

-- what a call that writes may refuse
abbrev pub IsWriteRefusal : SlotsError → Type 0
IsWriteRefusal e = (e ≡ TooManyKeys) ⊎ ((e ≡ Memory) ⊎ (e ≡ Device))
