-- What a record of calls makes of a disk in memory, and what a crash may leave of it.
use Rattle.std.specs.Prelude.{◌≡◌, ℕ, ◌+◌, ◌-◌, ◌^◌, ◌<◌, ◌≤◌, nat_le, List, [], ◌∷◌, ◌++◌, length, take, drop, replicate}
use Rattle.std.specs.Prelude.{if◌then◌else◌, Result, OnOk, OnErr, IsOk, ⊤}
use Rattle.td_disk.specs.Disk.{DiskState, SameOutside}
use Rattle.td_disk.specs.declared.error.Fault.{Fault}
use Rattle.td_disk.specs.declared.memory.Call.{Call}
use Rattle.td_disk.specs.declared.memory.Call.TheVariants.{Write, Sync}
use Rattle.td_disk.specs.declared.memory.Fill.{Fill}
use Rattle.td_disk.specs.declared.memory.Fill.TheVariants.{Old, New, All}

-- the image with these bytes at that offset, where they fit
abbrev pub overwritten : ℕ → List ℕ → List ℕ → List ℕ
overwritten at bytes image = if nat_le (at + length bytes) (length image) then take at image ++ (bytes ++ drop (at + length bytes) image) else image

-- what is read, what the last sync left, and each range (offset, length) written since, the newest first
pub record Contents : Type 0 where
  pub bytes : List ℕ
  pub durable : List ℕ
  pub pending : List (ℕ × ℕ)

-- these bytes, all of them synced
abbrev pub synced : List ℕ → Contents
synced bytes = record { bytes = bytes; durable = bytes; pending = [] }

-- after a write
abbrev pub written : ℕ → List ℕ → Contents → Contents
written at bytes k = record { bytes = overwritten at bytes k.bytes; durable = k.durable; pending = (at, length bytes) ∷ k.pending }

abbrev pub after_call : Contents → Call → Contents
after_call k (Write at bytes) = written at bytes.items k
after_call k Sync = synced k.bytes

abbrev pub replay : Contents → List Call → Contents
replay k [] = k
replay k (call ∷ calls) = replay (after_call k call) calls

-- the durable bytes with any bytes in each pending range
abbrev pub MayLeave : List ℕ → List (ℕ × ℕ) → List ℕ → Type 0
MayLeave durable [] c = c ≡ durable
MayLeave durable (range ∷ earlier) c = (d : List ℕ) × MayLeave durable earlier d × SameOutside range.0 range.1 d c

abbrev pub IsImage : Contents → List ℕ → Type 0
IsImage k c = MayLeave k.durable k.pending c

-- an image of some moment from t on
abbrev pub IsImageSince : List ℕ → List Call → ℕ → List ℕ → Type 0
IsImageSince start calls t c = (n : ℕ) × (t ≤ n) × (n ≤ length calls) × IsImage (replay (synced start) (take n calls)) c

abbrev pub state_after : List ℕ → List Call → DiskState
state_after start calls = record {
  bytes = (replay (synced start) calls).bytes;
  images = IsImage (replay (synced start) calls);
  since = IsImageSince start calls;
  moment = length calls;
}

-- this byte all over each range
abbrev pub filled : ℕ → List (ℕ × ℕ) → List ℕ → List ℕ
filled byte [] image = image
filled byte (range ∷ earlier) image = overwritten range.0 (replicate range.1 byte) (filled byte earlier image)

-- what a crash leaves: no pending write reached the disk, each did, or each left one byte all over its range
abbrev pub crash_image : Fill → Contents → List ℕ
crash_image Old k = k.durable
crash_image New k = k.bytes
crash_image (All byte) k = filled byte k.pending k.durable

-- A read changes nothing, and it fails only where the count of failures stands at its top.
pub record Reads (failures : ℕ) (result : Result ⊤ Fault) (old new : Contents) : Type 0 where
  pub same : new ≡ old
  pub succeeds : failures < 2 ^ 64 - 1 → IsOk result

-- A write is done in full, or a failed one not at all.
pub record Writes (at : ℕ) (bytes : List ℕ) (result : Result ⊤ Fault) (old new : Contents) : Type 0 where
  pub done : OnOk result (new ≡ written at bytes old)
  pub failed : OnErr result (new ≡ old)

-- A sync leaves no range pending, and a failed one changes nothing.
pub record Syncs (result : Result ⊤ Fault) (old new : Contents) : Type 0 where
  pub done : OnOk result (new ≡ synced old.bytes)
  pub failed : OnErr result (new ≡ old)
