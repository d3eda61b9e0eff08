-- What is said of a disk whose checkpoint is written, and of one that is made of a checkpoint.
use Rattle.std.specs.Prelude.{◌≡◌, ◌⊎◌, ℕ, ◌^◌, ◌<◌, true, List, [], length, Option}
use Rattle.std.specs.Io.KnownBytes.{Appends}
use Rattle.td_plan.specs.Lines.{Line as PlanLine}
use Rattle.td_disk.specs.Disk.{DiskState, IsDurable, Rises}
use Rattle.td_head.specs.declared.head.Head.{Head}
use Rattle.td_slots.specs.declared.slots.Checkpoint.{Checkpoint}
use Rattle.td_slots.specs.Slot.{are_states}
use Rattle.td_store.specs.declared.standing.error.KeeperError.{KeeperError}
use Rattle.td_store.specs.declared.standing.error.KeeperError.TheVariants.{Device, NotFormatted}
use Rattle.td_store.specs.standing.Standing.{Standing, standing_from}
use Rattle.td_store.specs.standing.Told.{Told, folds_of}
use Rattle.td_store.specs.standing.Tells.{Keeps, TellsSince, checkpoint_of}
use Rattle.td_store.specs.standing.Read.{Stood, Refused}
use Rattle.td_console.specs.declared.faults.Fault.{Fault}
use Rattle.td_console.specs.declared.faults.Fault.TheVariants.{Output, Memory, Keeper}
use Rattle.td_states.specs.Lines.{checkpoint_text}
use Rattle.td_states.specs.Spelled.{StatesText}

-- THE CHECKPOINT OF A DISK WAS WRITTEN: its text was appended to what a writer holds, and spells just that checkpoint. So many epochs stand after
-- it. A lawful disk tells both, whatever a crash leaves of it
pub record WritesStates (plan : List PlanLine) (before after : Option (List ℕ)) (epochs : ℕ) (is_lawful : Type 0) (state : DiskState) : Type 0 where
  pub head : Head
  pub side : ℕ
  pub standing : Standing
  pub said : Appends before after (checkpoint_text (checkpoint_of 0 standing))
  pub spelled : StatesText plan [] (checkpoint_text (checkpoint_of 0 standing)) (checkpoint_of 0 standing)
  pub after_it : epochs ≡ length standing.submitted
  pub keeps : is_lawful → Keeps plan head side standing state

-- WHY IT WAS NOT WRITTEN: the writer failed, memory ran out, a call of the disk failed and was counted, or the disk tells this refusal, as it reads
-- after a sync
abbrev pub IsNotWritten : List PlanLine → Type 0 → DiskState → ℕ → ℕ → Fault → Type 0
IsNotWritten plan lawful state before after f =
    (f ≡ Output) ⊎ ((f ≡ Memory) ⊎ (((f ≡ Keeper Device) × Rises before after)
    ⊎ ((e : KeeperError) × (f ≡ Keeper e) × (lawful → IsDurable state × Told plan state.bytes (Refused e)))))

-- a checkpoint that a disk of this plan may have: its states are kept by folds of the plan, and rise strictly by vertex and key
pub record MayBeLoaded (plan : List PlanLine) (c : Checkpoint) : Type 0 where
  pub states : are_states (folds_of plan) c.states ≡ true
  pub small : c.epoch < 2 ^ 63
  pub slot : c.slot ≡ 0

-- what a disk tells that has a checkpoint, and no epochs after it
abbrev pub loaded : Checkpoint → Standing
loaded c = standing_from c []

-- WHEREVER A LOAD STOPS, an image is one of before it, or not formatted, or it tells the checkpoint, and no epochs
abbrev pub LoadsOrNot : List PlanLine → Checkpoint → DiskState → DiskState → Type 0
LoadsOrNot plan c old new = TellsSince (λ i. Told plan i (Refused NotFormatted)) (λ i. Told plan i (Stood (loaded c))) old new
