use Rattle.std.specs.Prelude.{◌≡◌, ◌≢◌, ℕ, ◌-◌, ◌^◌, ◌<◌, Result, IsErr, ⊤}
use Rattle.td_disk.specs.declared.error.Fault.{Fault}
use Rattle.td_disk.specs.declared.fail.FailDisk.{FailDisk}
use Rattle.td_disk.specs.Disk.{DiskView, CountsFailures}

-- the disk to which calls are passed on
abbrev pub inner_of : {D : Type 0} → FailDisk D → D
inner_of f = f.inner

-- how many calls are left, the last of which fails; 0 where none will
abbrev pub calls_left : {D : Type 0} → FailDisk D → ℕ
calls_left f = f.calls_left

-- what a call of the inner disk gives: of its answer, and of the disk after it
abbrev pub Gives : Type 0 → Type 1
Gives D = Result ⊤ Fault → D → Type 0

-- A call passed on: its answer is the inner disk's, and a failure is a failure there.
pub record PassesOn {D : Type 0} (view : D → DiskView) (gives : Gives D) (result : Result ⊤ Fault) (old new : FailDisk D) : Type 0 where
  pub answer : gives result (inner_of new)
  pub cause : CountsFailures result (view (inner_of old)).failures (view (inner_of new)).failures

-- The call fails, and the inner disk is not called.
pub record IsKeptBack {D : Type 0} (result : Result ⊤ Fault) (old new : FailDisk D) : Type 0 where
  pub fails : IsErr result
  pub inner : inner_of new ≡ inner_of old

-- A read, or a sync, is counted; the last one fails, and each other is passed on.
pub record FailReads {D : Type 0} (view : D → DiskView) (gives : Gives D) (count : ℕ) (result : Result ⊤ Fault) (old new : FailDisk D) : Type 0 where
  pub left : calls_left new ≡ calls_left old - 1
  pub fails : calls_left old ≡ 1 → IsKeptBack result old new
  pub passed : calls_left old ≢ 1 → count < 2 ^ 64 - 1 → PassesOn view gives result old new

-- A write is counted and passed on, and the last one is passed on and fails whatever became of it.
pub record FailWrites {D : Type 0} (view : D → DiskView) (gives : Gives D) (count : ℕ) (result : Result ⊤ Fault) (old new : FailDisk D) : Type 0 where
  pub left : calls_left new ≡ calls_left old - 1
  pub fails : calls_left old ≡ 1 → IsErr result
  pub reaches : calls_left old ≡ 1 → count < 2 ^ 64 - 1 → (answer : Result ⊤ Fault) × gives answer (inner_of new)
  pub passed : calls_left old ≢ 1 → count < 2 ^ 64 - 1 → PassesOn view gives result old new

abbrev pub FailSyncs : {D : Type 0} → (D → DiskView) → Gives D → ℕ → Result ⊤ Fault → FailDisk D → FailDisk D → Type 0
FailSyncs view gives count result old new = FailReads view gives count result old new
