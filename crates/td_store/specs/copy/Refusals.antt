-- Why a disk was not copied.
use Rattle.std.specs.Prelude.{◌≡◌, ◌⊎◌, ℕ, ◌≤◌, List, Option, Some, None, Result, Ok, Err}
use Rattle.td_plan.specs.Lines.{Line}
use Rattle.td_disk.specs.Disk.{DiskView, DiskState, IsDurable, Rises}
use Rattle.td_gate.specs.CrashSafe.{CrashSafe, Unchanged}
use Rattle.td_head.specs.Layout.{Sizes, size_of}
use Rattle.td_store.specs.declared.standing.error.KeeperError.{KeeperError}
use Rattle.td_store.specs.declared.standing.error.KeeperError.TheVariants.{Device, Memory}
use Rattle.td_store.specs.standing.Standing.{Standing}
use Rattle.td_store.specs.standing.Told.{Told}
use Rattle.td_store.specs.standing.Read.{Refused}
use Rattle.td_store.specs.declared.copy.error.CopyError.{CopyError}
use Rattle.td_store.specs.declared.copy.error.CopyError.TheVariants.{Shape, Formatted, Keeper, New}
use Rattle.td_store.specs.copy.Room.{room_fault}
use Rattle.td_store.specs.copy.Until.{told_until, copy_fault}
use Rattle.td_store.specs.copy.Copied.{EachTold, HasNoHead}

-- WHAT A DISK REFUSES OF A READER: a call of it failed and was counted, memory ran out, or it tells this refusal, as it reads after a sync.
abbrev pub IsNotRead : List Line → Type 0 → DiskState → ℕ → ℕ → KeeperError → Type 0
IsNotRead plan lawful state before after e =
    ((e ≡ Device) × Rises before after) ⊎ ((e ≡ Memory) ⊎ (lawful → IsDurable state × Told plan state.bytes (Refused e)))

-- WHY A STANDING WAS NOT PUT ON A DISK: there is no room for it, or the disk is too small (with these it was not called); a head is open (it was
-- only read); memory ran out, or a call failed and was counted.
abbrev pub IsNotPut : {E : Type 0} → (E → DiskView) → Sizes → Standing → E → E → CopyError → Type 0
IsNotPut view sizes s old new e =
    ((room_fault sizes s ≡ Some e) × (new ≡ old))
    ⊎ (((e ≡ Shape) × (size_of sizes ≤ (view old).capacity → ⊥) × (new ≡ old))
    ⊎ (((e ≡ Formatted) × ((view old).lawful → (HasNoHead (view new).state.bytes → ⊥) × CrashSafe Unchanged (view old).state (view new).state))
    ⊎ ((e ≡ New Memory) ⊎ ((e ≡ New Device) × Rises (view old).failures (view new).failures))))

-- WHY A DISK WAS NOT COPIED, in this order: what the old one refuses of a reader; it has no such epoch, or there is no room for what it tells up
-- to that; the answer of the one that makes the new disk; or why that was not put on the disk that was made. The caller gets them as its own.
abbrev pub IsNotCopied : {E X : Type 0} → (CopyError → X → Type 0) → (KeeperError → Type 0) → (Standing → Type 0) → (Result E X → Type 0)
    → (Sizes → Standing → E → E → CopyError → Type 0) → Option ℕ → Sizes → X → Type 0
IsNotCopied {E} gives is_not_read is_told makes is_not_put until sizes x =
    ((e : KeeperError) × gives (Keeper e) x × is_not_read e)
    ⊎ ((s : Standing) × is_told s × (((e : CopyError) × gives e x × (copy_fault until sizes s ≡ Some e))
    ⊎ ((copy_fault until sizes s ≡ None) × (makes (Err x)
    ⊎ ((made left : E) × makes (Ok made) × ((e : CopyError) × gives e x × is_not_put sizes (told_until until s) made left e))))))

-- the same, of the calls of a copy: the old disk before it and after, and what makes the new one
abbrev pub RefusesCopy : {D E X : Type 0} → (D → DiskView) → (E → DiskView) → (CopyError → X → Type 0) → (Result E X → Type 0)
    → List Line → Option ℕ → Sizes → D → D → X → Type 0
RefusesCopy view new_view gives makes plan until sizes old left x =
    IsNotCopied gives (IsNotRead plan (view old).lawful (view left).state (view old).failures (view left).failures)
    (λ s. (view old).lawful → EachTold plan s (view left).state) makes (IsNotPut new_view) until sizes x
