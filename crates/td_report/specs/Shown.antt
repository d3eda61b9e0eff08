-- What a disk tells, in lines.
use Rattle.std.specs.Prelude.{◌≡◌, ◌≢◌, ◌⊎◌, ℕ, ◌+◌, zero, suc, List, [], ◌∷◌, ◌++◌, codes, flat_map, length, Option, Ok}
use Rattle.std.specs.Io.KnownBytes.{Appends}
use Rattle.std.specs.Fmt.{decimal, signed_decimal}
use Rattle.td_stamp.specs.declared.values.State.{State}
use Rattle.td_stamp.specs.States.{StateList}
use Rattle.td_plan.specs.Lines.{Line}
use Rattle.td_disk.specs.Disk.{DiskView, IsDurable, Rises}
use Rattle.td_slots.specs.declared.slots.Checkpoint.{Checkpoint}
use Rattle.td_journal.specs.declared.payload.Submitted.{Submitted}
use Rattle.td_journal.specs.declared.payload.Counts.{Counts}
use Rattle.td_journal.specs.Counts.{greatest_counted}
use Rattle.td_store.specs.standing.Standing.{Standing, last_epoch, last_request}
use Rattle.td_store.specs.standing.Told.{Told}
use Rattle.td_store.specs.standing.Read.{Refused}
use Rattle.td_store.specs.declared.standing.error.KeeperError.{KeeperError}
use Rattle.td_store.specs.declared.standing.error.KeeperError.TheVariants.{Device}
use Rattle.td_console.specs.declared.faults.Fault.{Fault}
use Rattle.td_console.specs.declared.faults.Fault.TheVariants.{Keeper, Memory, Output}

-- `kept C` and `told T`
abbrev pub kept_line : ℕ → List ℕ
kept_line epoch = codes "kept " ++ decimal epoch ++ 10 ∷ []

abbrev pub told_line : ℕ → List ℕ
told_line epoch = codes "told " ++ decimal epoch ++ 10 ∷ []

-- `last Q`, where there is a request number
abbrev pub last_line : ℕ → List ℕ
last_line zero = []
last_line (suc n) = codes "last " ++ decimal (suc n) ++ 10 ∷ []

abbrev pub head_lines : Standing → List ℕ
head_lines s = kept_line s.epoch ++ told_line (last_epoch s) ++ last_line (last_request s)

-- `state VERTEX KEY A B` for each state, in their order
abbrev pub state_line : (ℕ × ℕ) × State → List ℕ
state_line ((vertex, key), state) =
    codes "state " ++ decimal vertex ++ 32 ∷ decimal key ++ 32 ∷ signed_decimal state.a ++ 32 ∷ signed_decimal state.b ++ 10 ∷ []

abbrev pub state_lines : StateList → List ℕ
state_lines states = flat_map state_line states

-- `epoch E COUNT`
abbrev pub epoch_line : ℕ → Submitted → List ℕ
epoch_line e s = codes "epoch " ++ decimal e ++ 32 ∷ decimal (length s.batch) ++ 10 ∷ []

-- of some epochs, of which the first has this number
abbrev pub epoch_lines : ℕ → List Submitted → List ℕ
epoch_lines e [] = []
epoch_lines e (s ∷ more) = epoch_line e s ++ epoch_lines (e + 1) more

-- THE LINES FOR A STANDING
abbrev pub shown : Standing → List ℕ
shown s = head_lines s ++ state_lines s.states ++ epoch_lines (s.epoch + 1) s.submitted

-- the same lines, of a checkpoint and the counts of the epochs after it
abbrev pub counted_head : Checkpoint → List Counts → List ℕ
counted_head at counts = kept_line at.epoch ++ told_line (at.epoch + length counts) ++ last_line (greatest_counted at.last counts)

abbrev pub count_line : ℕ → Counts → List ℕ
count_line e c = codes "epoch " ++ decimal e ++ 32 ∷ decimal c.records ++ 10 ∷ []

abbrev pub count_lines : ℕ → List Counts → List ℕ
count_lines e [] = []
count_lines e (c ∷ more) = count_line e c ++ count_lines (e + 1) more

abbrev pub counted_lines : Checkpoint → List Counts → List ℕ
counted_lines at counts = counted_head at counts ++ state_lines at.states ++ count_lines (at.epoch + 1) counts

-- they were appended to what a writer holds
abbrev pub ShowsTold : Option (List ℕ) → Option (List ℕ) → Standing → Type 0
ShowsTold before after s = Appends before after (shown s)

-- a fault is a refusal of a keeper's, of which this holds
abbrev pub IsRefusedAs : Fault → (KeeperError → Type 0) → Type 0
IsRefusedAs f Holds = (e : KeeperError) × (f ≡ Keeper e) × Holds e

-- WHY WHAT A DISK TELLS IS NOT WRITTEN OUT: the writer failed; memory ran out; a call of the disk failed, and was counted; or a lawful disk tells this
-- refusal after a sync
abbrev pub RefusesToShow : {D : Type 0} → (D → DiskView) → List Line → Fault → D → D → Type 0
RefusesToShow view plan f old new = (f ≡ Output) ⊎ ((f ≡ Memory) ⊎ (((f ≡ Keeper Device) × Rises (view old).failures (view new).failures)
    ⊎ IsRefusedAs f (λ e. (view old).lawful → IsDurable (view new).state × Told plan (view new).state.bytes (Refused e))))

-- the writer did not fail
abbrev pub IsNotOutput : Fault → Type 0
IsNotOutput f = f ≢ Output

-- a writer has room for any text
abbrev pub HasAllRoom : (ℕ → Type 0) → Type 0
HasAllRoom has = (n : ℕ) → has n

-- writers have room for any text at any time
abbrev pub AlwaysHasRoom : {W : Type 0} → (W → ℕ → Type 0) → Type 0
AlwaysHasRoom {W} has = (w : W) (n : ℕ) → has w n

-- a lawful disk tells what was written out, as it reads after a sync
abbrev pub ShowsDisk : {D : Type 0} → (D → DiskView) → List Line → D → D → Option (List ℕ) → Option (List ℕ) → Type 0
ShowsDisk view plan old new before after = (s : Standing) × ShowsTold before after s
    × ((view old).lawful → IsDurable (view new).state × Told plan (view new).state.bytes (Ok s))
