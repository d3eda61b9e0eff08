-- What a call of a disk keeps, whatever it does.
use Rattle.std.specs.Prelude.{◌≡◌, ◌↔◌, ◌≤◌, Result}
use Rattle.td_disk.specs.Disk.{DiskView, CountsDevice, CountsFailures, Rises}

-- THE DISK IS CALLED: it is as large as it was, and as lawful; and it fails exactly where an error is answered
pub record Calls {D T E : Type 0} (view : D → DiskView) (result : Result T E) (old new : D) : Type 0 where
  pub size : (view new).capacity ≡ (view old).capacity
  pub lawful : (view old).lawful ↔ (view new).lawful
  pub counts : CountsFailures result (view old).failures (view new).failures

-- THE DEVICE IS KEPT: it is as large as it was, and as lawful; and it is told to have failed exactly where it did
pub record KeepsDevice {D T E : Type 0} (view : D → DiskView) (device : E) (result : Result T E) (old new : D) : Type 0 where
  pub size : (view new).capacity ≡ (view old).capacity
  pub lawful : (view old).lawful ↔ (view new).lawful
  pub counts : CountsDevice result device (view old).failures (view new).failures

-- NO CALL FAILED, and the disk is kept
pub record IsKept {D : Type 0} (view : D → DiskView) (old new : D) : Type 0 where
  pub size : (view new).capacity ≡ (view old).capacity
  pub lawful : (view old).lawful ↔ (view new).lawful
  pub failures : (view new).failures ≡ (view old).failures

-- ONE FAILED, and the disk is kept
pub record HasFailed {D : Type 0} (view : D → DiskView) (old new : D) : Type 0 where
  pub size : (view new).capacity ≡ (view old).capacity
  pub lawful : (view old).lawful ↔ (view new).lawful
  pub later : (view old).failures ≤ (view new).failures
  pub rises : Rises (view old).failures (view new).failures
