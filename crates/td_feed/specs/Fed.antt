-- What a feed leaves on a disk.
use Rattle.std.specs.Prelude.{◌≡◌, ◌⊎◌, ℕ, ◌+◌, ◌<◌, ◌≤◌, List, ◌++◌, length, take, Option, IfSome, Ok}
use Rattle.td_plan.specs.Lines.{Line}
use Rattle.td_calls.specs.Answers.{Answers}
use Rattle.td_core.specs.declared.error.HallError.TheVariants as hall
use Rattle.td_pool.specs.declared.error.PoolError.{PoolError}
use Rattle.td_pool.specs.declared.error.PoolError.TheVariants as pool
use Rattle.td_disk.specs.Disk.{DiskState}
use Rattle.td_journal.specs.declared.payload.Submitted.{Submitted}
use Rattle.td_store.specs.declared.standing.error.KeeperError.TheVariants as keeper
use Rattle.td_store.specs.standing.Standing.{Standing}
use Rattle.td_store.specs.standing.Stops.{Stands}
use Rattle.td_store.specs.standing.Told.{Told}
use Rattle.td_store.specs.standing.Tells.{Keeps}
use Rattle.td_head.specs.declared.head.Head.{Head}
use Rattle.td_store.specs.standing.Advanced.{states_by}
use Rattle.td_console.specs.declared.faults.Fault.{Fault}
use Rattle.td_console.specs.declared.faults.Fault.TheVariants.{NoCall, Memory, Spent, Keeper}

-- AN IMAGE TELLS A HISTORY, all batches since the format: its checkpoint is what the first of them come to, and the others
-- stand after it
pub record TellsHistory (answers : Answers) (plan : List Line) (history : List Submitted) (image : List ℕ) : Type 0 where
  pub standing : Standing
  pub told : Told plan image (Ok standing)
  pub stands : Stands (states_by answers plan) standing history

-- each image of a disk does
abbrev pub EachTellsHistory : Answers → List Line → List Submitted → DiskState → Type 0
EachTellsHistory answers plan history state = (c : List ℕ) → state.images c → TellsHistory answers plan history c

-- of more batches, each image tells so many after the history, or with these the whole group that came next
pub record EachTellsSome (answers : Answers) (plan : List Line) (history more : List Submitted) (state : DiskState) : Type 0 where
  pub count : ℕ
  pub group : ℕ
  pub each : (c : List ℕ) → state.images c → TellsHistory answers plan (history ++ take count more) c ⊎ TellsHistory answers plan (history ++ take (count + group) more) c

-- AN IMAGE TELLS A HISTORY and a beginning of more batches
pub record TellsOnward (answers : Answers) (plan : List Line) (history more : List Submitted) (image : List ℕ) : Type 0 where
  pub count : ℕ
  pub few : count ≤ length more
  pub tells : TellsHistory answers plan (history ++ take count more) image

-- A JOURNAL HAS ROOM for an epoch, and has fewer of them than there may stand up to a cut, where a number is given
pub record HasRoom (every : Option ℕ) (cells : ℕ) (s : Standing) : Type 0 where
  pub not_full : length s.submitted < cells
  pub few : IfSome every (λ most. length s.submitted < most)

-- NO CUT IS DUE OF A DISK: whatever a crash leaves of it tells no epoch after its checkpoint, or few
pub record IsCutInTime (plan : List Line) (every : Option ℕ) (state : DiskState) : Type 0 where
  pub head : Head
  pub side : ℕ
  pub standing : Standing
  pub keeps : Keeps plan head side standing state
  pub in_time : (length standing.submitted ≡ 0) ⊎ HasRoom every head.shape.n standing

-- the fault for a worker's refusal
abbrev pub pool_fault : PoolError → Fault
pool_fault (pool.NoCall vertex code) = NoCall vertex code
pool_fault pool.Memory = Memory
pool_fault (pool.Hall hall.Memory) = Memory
pool_fault (pool.Hall hall.Spent) = Spent
pool_fault _ = Keeper keeper.Foreign
