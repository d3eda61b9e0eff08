-- A region of a disk: a payload, and the gate byte behind it.
use Rattle.std.specs.Prelude.{◌≡◌, ◌≢◌, ◌⊎◌, ◌<◌, ◌≤◌, ℕ, ◌+◌, List, length, take, slice_index, Option, Some, None, Bool, true, false, Vec, if◌then◌else◌, ◌==◌}
use Rattle.std.specs.declared.alloc.Global.{Global}
use Rattle.td_disk.specs.Disk.{DiskState, bytes_at, SameOutside}
use Rattle.td_gate.specs.declared.region.Region.{Region}

-- the gate byte
abbrev pub gate_of : Region → List ℕ → ℕ
gate_of r image = slice_index image (r.at + r.len)

-- the payload where the gate byte is 0xA5, else none
abbrev pub opened : Region → List ℕ → Option (List ℕ)
opened r image = if gate_of r image == 0xA5 then Some (bytes_at r.at r.len image) else None

-- whether the gate byte is 0xA5
abbrev pub is_open_in : Region → List ℕ → Bool
is_open_in r image = gate_of r image == 0xA5

-- the first n bytes of a payload, where there is one
abbrev pub start_of : ℕ → Option (List ℕ) → Option (List ℕ)
start_of n None = None
start_of n (Some payload) = Some (take n payload)

-- the first n bytes of the payload where the gate byte is 0xA5, else none
abbrev pub opened_start : ℕ → Region → List ℕ → Option (List ℕ)
opened_start n r image = start_of n (opened r image)

-- the same n bytes at that offset
pub record SameWithin (at n : ℕ) (old new : List ℕ) : Type 0 where
  pub each : (i : ℕ) → at ≤ i → i < at + n → slice_index new i ≡ slice_index old i

-- Every image has in the region what is read there.
abbrev pub IsSettled : Region → DiskState → Type 0
IsSettled r state = (c : List ℕ) → state.images c → SameWithin r.at (r.len + 1) state.bytes c

-- Every image has the gate closed.
abbrev pub IsClosed : Region → DiskState → Type 0
IsClosed r state = (c : List ℕ) → state.images c → gate_of r c ≢ 0xA5

-- Every image has the gate closed and this payload before it.
abbrev pub IsFilled : Region → List ℕ → DiskState → Type 0
IsFilled r payload state = (c : List ℕ) → state.images c → (gate_of r c ≢ 0xA5) × (bytes_at r.at r.len c ≡ payload)

-- The region is settled, and what is read and every image have it open with this payload.
pub record IsOpen (r : Region) (payload : List ℕ) (state : DiskState) : Type 0 where
  pub settled : IsSettled r state
  pub read : opened r state.bytes ≡ Some payload
  pub each : (c : List ℕ) → state.images c → opened r c ≡ Some payload

-- what a closing makes of a gate byte: 00 of that of an open gate, and it leaves any other
abbrev pub closed_byte : ℕ → ℕ
closed_byte gate = if gate == 0xA5 then 0 else gate

-- Only the region changed, and it is as it was or closed.
pub record Closes (r : Region) (old new : List ℕ) : Type 0 where
  pub others : SameOutside r.at (r.len + 1) old new
  pub region : (opened r new ≡ opened r old) ⊎ (opened r new ≡ None)

-- Only the region changed, and it is closed.
pub record Fills (r : Region) (old new : List ℕ) : Type 0 where
  pub others : SameOutside r.at (r.len + 1) old new
  pub region : opened r new ≡ None

-- Only the region changed, and it is closed or open with the payload.
pub record Opens (r : Region) (payload old new : List ℕ) : Type 0 where
  pub others : SameOutside r.at (r.len + 1) old new
  pub region : (opened r new ≡ None) ⊎ (opened r new ≡ Some payload)

-- Only the region changed, and it is as it was, closed, or open with the payload.
pub record Puts (r : Region) (payload old new : List ℕ) : Type 0 where
  pub others : SameOutside r.at (r.len + 1) old new
  pub region : (opened r new ≡ opened r old) ⊎ ((opened r new ≡ None) ⊎ (opened r new ≡ Some payload))

-- the bytes of a payload that was read
abbrev pub payload_of : Option (Vec ℕ Global) → Option (List ℕ)
payload_of None = None
payload_of (Some v) = Some v.items

-- the same, of bytes that were filled where the gate was open
abbrev pub payload_in : Bool → List ℕ → Option (List ℕ)
payload_in true payload = Some payload
payload_in false payload = None

-- a payload that was read has so many bytes
abbrev pub HasLength : Option (Vec ℕ Global) → ℕ → Type 0
HasLength None n = Unit {0}
HasLength (Some v) n = length v.items ≡ n
