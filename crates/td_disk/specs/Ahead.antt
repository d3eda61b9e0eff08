-- A disk that is read a block at a time.
use Rattle.std.specs.Prelude.{ℕ, ◌-◌, ◌^◌, ◌<◌, Result, OnErr, ⊤}
use Rattle.td_disk.specs.declared.disk.Disk.{Ghosts}
use Rattle.td_disk.specs.declared.error.Fault.{Fault}
use Rattle.td_disk.specs.declared.ahead.ReadAhead.{ReadAhead}
use Rattle.td_disk.specs.Disk.{DiskView, Rises}

-- the disk that is read
abbrev pub inner_of : {D : Type 0} {g : Ghosts D} → ReadAhead D g → D
inner_of r = r.inner

-- A read fails only where the inner disk failed, unless the count of failures stands at its top.
abbrev pub FailsWithInner : {D : Type 0} {g : Ghosts D} → (D → DiskView) → ℕ → Result ⊤ Fault → ReadAhead D g → ReadAhead D g → Type 0
FailsWithInner view count result old new = count < 2 ^ 64 - 1 → OnErr result (Rises (view (inner_of old)).failures (view (inner_of new)).failures)

-- A write or a sync is passed on unless the count of failures stands at its top: its answer is the inner disk's, and gives what that gives.
abbrev pub IsPassedOn : {D : Type 0} {g : Ghosts D} → (Result ⊤ Fault → D → Type 0) → ℕ → Result ⊤ Fault → ReadAhead D g → Type 0
IsPassedOn gives count result new = count < 2 ^ 64 - 1 → gives result (inner_of new)
