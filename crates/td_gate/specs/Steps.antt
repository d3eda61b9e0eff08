-- What a call makes of a region, of the disk before and after it. All of it is said of a lawful disk alone.
use Rattle.std.specs.Prelude.{◌≡◌, ◌⊎◌, ℕ, List, None, Some, Result, OnOk}
use Rattle.td_disk.specs.Disk.{DiskView, IsDurable, SameOutside}
use Rattle.td_gate.specs.declared.region.Region.{Region}
use Rattle.td_gate.specs.CrashSafe.{CrashSafe, Unchanged}
use Rattle.td_gate.specs.Region.{opened, gate_of, closed_byte, IsSettled, IsClosed, IsFilled, IsOpen, Closes, Fills, Opens, Puts}
use Rattle.td_gate.specs.Regions.{Apart, KeepsRegion}

module _ {D : Type 0} (view : D → DiskView) where
  -- nothing is written: a crash leaves what it might have left before
  abbrev pub WritesNothing : D → D → Type 0
  WritesNothing old new = (view old).lawful → CrashSafe Unchanged (view old).state (view new).state

  -- the disk reads as before
  abbrev pub ReadsAsBefore : D → D → Type 0
  ReadsAsBefore old new = (view old).lawful → (view new).state.bytes ≡ (view old).state.bytes

  -- a crash leaves what is read then
  abbrev pub LeavesDurable : D → D → Type 0
  LeavesDurable old new = (view old).lawful → IsDurable (view new).state

  -- a crash leaves what is read, where it did before
  abbrev pub StaysDurable : D → D → Type 0
  StaysDurable old new = (view old).lawful → IsDurable (view old).state → IsDurable (view new).state

  -- only n bytes at that offset may read otherwise
  abbrev pub ChangesOnly : ℕ → ℕ → D → D → Type 0
  ChangesOnly at n old new = (view old).lawful → SameOutside at n (view old).state.bytes (view new).state.bytes

  -- this is what the disk holds, as it is read
  abbrev pub IsFound : {X : Type 0} → (List ℕ → X) → X → D → Type 0
  IsFound held found d = (view d).lawful → found ≡ held (view d).state.bytes

  -- this is what each image holds, where the region is settled
  abbrev pub IsInEachImage : {X : Type 0} → Region → (List ℕ → X) → X → D → Type 0
  IsInEachImage r held found d = (view d).lawful → IsSettled r (view d).state → (c : List ℕ) → (view d).state.images c → found ≡ held c

  -- A SETTLED REGION IS CLOSED: a crash leaves it as it was or closed
  abbrev pub ClosesSafely : Region → D → D → Type 0
  ClosesSafely r old new = (view old).lawful → IsSettled r (view old).state → CrashSafe (Closes r) (view old).state (view new).state

  -- then it is closed
  abbrev pub LeavesClosed : Region → D → D → Type 0
  LeavesClosed r old new = (view old).lawful → IsSettled r (view old).state → IsClosed r (view new).state

  -- its gate reads closed, and one that was not open reads as before
  abbrev pub ClosesGate : Region → D → D → Type 0
  ClosesGate r old new = (view old).lawful → gate_of r (view new).state.bytes ≡ closed_byte (gate_of r (view old).state.bytes)

  -- it reads closed
  abbrev pub IsShut : Region → D → Type 0
  IsShut r d = (view d).lawful × (opened r (view d).state.bytes ≡ None)

  -- it reads closed then
  abbrev pub ReadsClosed : Region → D → D → Type 0
  ReadsClosed r old new = (view old).lawful → opened r (view new).state.bytes ≡ None

  -- A CLOSED REGION IS FILLED: a crash leaves it closed
  abbrev pub FillsSafely : Region → D → D → Type 0
  FillsSafely r old new = (view old).lawful → IsClosed r (view old).state → CrashSafe (Fills r) (view old).state (view new).state

  -- then it is filled with the payload
  abbrev pub LeavesFilled : Region → List ℕ → D → D → Type 0
  LeavesFilled r payload old new = (view old).lawful → IsClosed r (view old).state → IsFilled r payload (view new).state

  -- A FILLED REGION IS OPENED: a crash leaves it closed, or open with the payload
  abbrev pub OpensSafely : Region → D → D → Type 0
  OpensSafely r old new = (view old).lawful → (payload : List ℕ) → IsFilled r payload (view old).state → CrashSafe (Opens r payload) (view old).state (view new).state

  -- then it is open with the payload
  abbrev pub OpensFilled : Region → D → D → Type 0
  OpensFilled r old new = (view old).lawful → (payload : List ℕ) → IsFilled r payload (view old).state → IsOpen r payload (view new).state

  -- A PAYLOAD IS PUT into a settled region: a crash leaves that as it was, closed, or open with the payload
  abbrev pub PutsSafely : Region → List ℕ → D → D → Type 0
  PutsSafely r payload old new = (view old).lawful → IsSettled r (view old).state → CrashSafe (Puts r payload) (view old).state (view new).state

  -- then it is open with the payload
  abbrev pub LeavesOpen : Region → List ℕ → D → D → Type 0
  LeavesOpen r payload old new = (view old).lawful → IsSettled r (view old).state → IsOpen r payload (view new).state

  -- each image since the start has it as it was read, closed, or open with the payload
  abbrev pub LeavesOldOrNew : Region → List ℕ → D → D → Type 0
  LeavesOldOrNew r payload old new = (view old).lawful → IsSettled r (view old).state → (c : List ℕ) → (view new).state.since (view old).state.moment c
      → (opened r c ≡ opened r (view old).state.bytes) ⊎ ((opened r c ≡ None) ⊎ (opened r c ≡ Some payload))

  -- each other settled region is as it was
  abbrev pub KeepsOthers : Region → D → D → Type 0
  KeepsOthers r old new = (view old).lawful → IsSettled r (view old).state → (s : Region) → Apart r s → IsSettled s (view old).state
      → KeepsRegion s (view old).state (view new).state

-- A CALL PUTS A PAYLOAD, or refuses before: a crash leaves the region as it was, closed, or open with the payload; after Ok it is open with it, and a
-- crash leaves what is read
pub record HasPut {D T E : Type 0} (view : D → DiskView) (r : Region) (payload : List ℕ) (result : Result T E) (old new : D) : Type 0 where
  pub crash_safe : PutsSafely view r payload old new
  pub is_open : OnOk result (LeavesOpen view r payload old new)
  pub durable : OnOk result (LeavesDurable view old new)

-- what was refused so is as it was, unless the refusal is this one
abbrev pub SameUnless : {E X : Type 0} → E → E → X → X → Type 0
SameUnless failed e old new = (e ≡ failed) ⊎ (new ≡ old)
