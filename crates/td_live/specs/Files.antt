-- What a file that is only read keeps to beyond what every disk does: it takes no write, and a sync that failed is final.
use Rattle.std.specs.Prelude.{◌≡◌, ◌↔◌, ◌⊎◌, ◌-◌, ◌^◌, ◌<◌, true, false, Bool, Option, Result, IsErr, ⊤}
use Rattle.std.specs.declared.io.ErrorKind.{ErrorKind}
use Rattle.std.specs.declared.io.ErrorKind.TheVariants.{InvalidInput, ReadOnlyFilesystem}
use Rattle.td_disk.specs.FileDisk.{IsOf}
use Rattle.td_disk.specs.declared.error.Fault.{Fault}
use Rattle.td_disk.specs.declared.file_failure.FileCall.TheVariants.{Read, Sync}
use Rattle.td_disk.specs.declared.file_failure.FileFailure.{FileFailure}
use Rattle.td_live.specs.declared.file.ReadOnlyFile.{ReadOnlyFile}

-- whether a sync of this disk has failed
abbrev pub has_failed_sync : ReadOnlyFile → Bool
has_failed_sync f = f.has_failed_sync

-- the last call of its file that failed, and how
abbrev pub last_failure : ReadOnlyFile → Option FileFailure
last_failure f = f.last_failure

-- whether the file may be called: no sync of it has failed, and its failures can still be counted
pub record MayRead (f : ReadOnlyFile) : Type 0 where
  pub synced : has_failed_sync f ≡ false
  pub counted : f.failures < 2 ^ 64 - 1

-- an error of a sync says that the medium takes none, since nothing can be written there
abbrev pub TakesNoSync : ErrorKind → Type 0
TakesNoSync kind = (kind ≡ InvalidInput) ⊎ (kind ≡ ReadOnlyFilesystem)

-- A read: once a sync has failed it fails, and one that the file failed is the last failure.
pub record FileReads (result : Result ⊤ Fault) (old new : ReadOnlyFile) : Type 0 where
  pub stays : has_failed_sync new ≡ has_failed_sync old
  pub final : has_failed_sync old ≡ true → IsErr result
  pub told : MayRead old → IsErr result → IsOf Read (last_failure new)

-- A sync: once one has failed it fails, and one has failed where this one did; one that the file failed is the last failure.
pub record FileRests (result : Result ⊤ Fault) (old new : ReadOnlyFile) : Type 0 where
  pub final : has_failed_sync old ≡ true → IsErr result
  pub noted : (has_failed_sync new ≡ true) ↔ IsErr result
  pub told : MayRead old → IsErr result → IsOf Sync (last_failure new)

-- A write always fails.
pub record FileTakesNoWrite (result : Result ⊤ Fault) (old new : ReadOnlyFile) : Type 0 where
  pub stays : has_failed_sync new ≡ has_failed_sync old
  pub refused : IsErr result
