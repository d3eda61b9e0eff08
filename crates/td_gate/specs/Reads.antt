-- What a call that writes nothing leaves of a disk. Reads compose by one law (`reads_in_turn`).
use Rattle.std.specs.Prelude.{◌≡◌, ◌↔◌}
use Rattle.td_disk.specs.Disk.{DiskView, IsDurable}
use Rattle.td_gate.specs.CrashSafe.{CrashSafe, Unchanged}

-- A CALL THAT ONLY READS: the disk's size stays, and it is lawful where it was. A lawful one reads as before, a crash at any moment of the call leaves
-- what it might have left before the call, and where that was what is read, it is still.
pub record IsRead {D : Type 0} (view : D → DiskView) (old new : D) : Type 0 where
  pub size : (view new).capacity ≡ (view old).capacity
  pub lawful : (view old).lawful ↔ (view new).lawful
  pub same : (view old).lawful → (view new).state.bytes ≡ (view old).state.bytes
  pub durable : (view old).lawful → IsDurable (view old).state → IsDurable (view new).state
  pub crash_safe : (view old).lawful → CrashSafe Unchanged (view old).state (view new).state
