-- A disk in memory that nothing changes.
use Rattle.std.specs.Prelude.{◌≡◌, ℕ, ◌-◌, ◌^◌, ◌<◌, List, Result, IsOk, IsErr, ⊤}
use Rattle.td_disk.specs.Disk.{DiskState}
use Rattle.td_disk.specs.declared.error.Fault.{Fault}
use Rattle.td_live.specs.declared.snapshot.Snapshot.{Snapshot}

-- what stands on it
abbrev pub bytes_of : Snapshot → List ℕ
bytes_of s = s.bytes.items

-- a disk of these bytes, for ever
abbrev pub at_rest : List ℕ → DiskState
at_rest bytes = record { bytes = bytes; images = λ c. c ≡ bytes; since = λ t c. c ≡ bytes; moment = 0 }

-- A read and a sync leave the bytes, and fail only where the count of failures stands at its top.
pub record Rests (failures : ℕ) (result : Result ⊤ Fault) (old new : Snapshot) : Type 0 where
  pub same : bytes_of new ≡ bytes_of old
  pub succeeds : failures < 2 ^ 64 - 1 → IsOk result

-- A write leaves the bytes, and always fails.
pub record RefusesWrite (result : Result ⊤ Fault) (old new : Snapshot) : Type 0 where
  pub same : bytes_of new ≡ bytes_of old
  pub refused : IsErr result
