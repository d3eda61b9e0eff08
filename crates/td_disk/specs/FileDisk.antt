-- What a file as a disk keeps to beyond what every disk does: a sync that failed is final.
use Rattle.std.specs.Prelude.{◌≡◌, ◌↔◌, ◌-◌, ◌^◌, ◌<◌, true, false, ℕ, Bool, Option, None, Some, Result, IsErr, ⊤}
use Rattle.td_disk.specs.declared.error.Fault.{Fault}
use Rattle.td_disk.specs.declared.file.FileDisk.{FileDisk}
use Rattle.td_disk.specs.declared.file_failure.FileCall.{FileCall}
use Rattle.td_disk.specs.declared.file_failure.FileCall.TheVariants.{Sync}
use Rattle.td_disk.specs.declared.file_failure.FileFailure.{FileFailure}

-- whether a sync of this disk has failed
abbrev pub has_failed_sync : FileDisk → Bool
has_failed_sync f = f.has_failed_sync

-- the last call of its file that failed, and how
abbrev pub last_failure : FileDisk → Option FileFailure
last_failure f = f.last_failure

-- whether the file may be called: no sync of it has failed, and its failures can still be counted
pub record MayCall (f : FileDisk) : Type 0 where
  pub synced : has_failed_sync f ≡ false
  pub counted : f.failures < 2 ^ 64 - 1

-- the failure that is kept is one of this call
abbrev pub IsOf : FileCall → Option FileFailure → Type 0
IsOf call None = ⊥
IsOf call (Some failure) = failure.call ≡ call

-- A read or a write: once a sync has failed it fails, and one that the file failed is the last failure.
pub record FileCalls (call : FileCall) (result : Result ⊤ Fault) (old new : FileDisk) : Type 0 where
  pub stays : has_failed_sync new ≡ has_failed_sync old
  pub final : has_failed_sync old ≡ true → IsErr result
  pub told : MayCall old → IsErr result → IsOf call (last_failure new)

-- A sync: once one has failed it fails, and one has failed where this one did; one that the file failed is the last failure.
pub record FileSyncs (result : Result ⊤ Fault) (old new : FileDisk) : Type 0 where
  pub final : has_failed_sync old ≡ true → IsErr result
  pub noted : (has_failed_sync new ≡ true) ↔ IsErr result
  pub told : MayCall old → IsErr result → IsOf Sync (last_failure new)
