-- What a step that writes makes of what a disk tells, of the disk before and after it.
use Rattle.std.specs.Prelude.{◌≡◌, ℕ, ◌+◌, ◌^◌, ◌<◌, ◌≤◌, List, [], ◌∷◌, length, take, true, Result, OnOk, IsErrOf}
use Rattle.td_stamp.specs.declared.values.Entry.{Entry}
use Rattle.td_stamp.specs.States.{StateList}
use Rattle.td_plan.specs.Lines.{Line}
use Rattle.td_disk.specs.Disk.{DiskView, IsDurable}
use Rattle.td_gate.specs.CrashSafe.{CrashSafe, Unchanged}
use Rattle.td_gate.specs.Steps.{WritesNothing}
use Rattle.td_head.specs.declared.head.Head.{Head}
use Rattle.td_head.specs.Head.{raised}
use Rattle.td_head.specs.Layout.{Sizes}
use Rattle.td_slots.specs.declared.slots.Slots.{Slots}
use Rattle.td_slots.specs.declared.error.SlotsError.{SlotsError}
use Rattle.td_journal.specs.declared.error.JournalError.{JournalError}
use Rattle.td_journal.specs.declared.error.JournalError.TheVariants.{Memory}
use Rattle.td_journal.specs.declared.journal.Journal.{Journal}
use Rattle.td_journal.specs.declared.payload.Submitted.{Submitted}
use Rattle.td_journal.specs.Numbers.{greatest}
use Rattle.td_journal.specs.Cell.{is_batch}
use Rattle.td_store.specs.standing.Standing.{Standing, submission, with_more, cut_at, nothing_told}
use Rattle.td_store.specs.standing.Told.{inputs_of, slots_of, ring_of}
use Rattle.td_store.specs.standing.Tells.{Tells, Keeps, TellsSince, HasRoom, IsFresh, IsCut, side_after, first_head}
use Rattle.td_store.specs.group.Groups.{AllFew, AreBatches, AreFresh, AreFree, AreShut, HasRoomFor}

module _ {D : Type 0} (view : D → DiskView) where
  -- what a crash may leave after the call is among what it may leave since the start
  abbrev pub IsLater : D → D → Type 0
  IsLater old new = (view old).lawful → IsDurable (view old).state → (view old).state.moment ≤ (view new).state.moment

  -- the disk keeps each standing that it kept
  abbrev pub KeepsTold : D → D → Type 0
  KeepsTold old new = (view old).lawful → (plan : List Line) (head : Head) (side : ℕ) (s : Standing)
      → Keeps plan head side s (view old).state → Keeps plan head side s (view new).state

  -- the disk keeps the standing of no epochs, as after a format
  abbrev pub KeepsNothing : List Line → Sizes → D → D → Type 0
  KeepsNothing plan sizes old new = (view old).lawful → Keeps plan (first_head sizes) 0 nothing_told (view new).state

  -- AN EPOCH IS PUT: each image since a moment up to the start of the call was one by then, or it tells the standing, or it with the batch
  abbrev pub TellsBatch : Journal → ℕ → ℕ → List Entry → D → D → Type 0
  TellsBatch journal epoch request batch old new = (view old).lawful → (plan : List Line) (head : Head) (side : ℕ) (s : Standing)
      → journal ≡ ring_of head.shape s.epoch → HasRoom head.shape s epoch → IsFresh head.version s request → is_batch (inputs_of plan) batch ≡ true
      → Keeps plan head side s (view old).state
      → TellsSince (Tells plan head side s) (Tells plan head side (with_more s (submission request batch ∷ []))) (view old).state (view new).state

  -- each image tells it with the batch
  abbrev pub KeepsBatch : Journal → ℕ → ℕ → List Entry → D → D → Type 0
  KeepsBatch journal epoch request batch old new = (view old).lawful → (plan : List Line) (head : Head) (side : ℕ) (s : Standing)
      → journal ≡ ring_of head.shape s.epoch → HasRoom head.shape s epoch → IsFresh head.version s request → is_batch (inputs_of plan) batch ≡ true
      → Keeps plan head side s (view old).state → Keeps plan head side (with_more s (submission request batch ∷ [])) (view new).state

  -- A GROUP IS PUT, of which the first has this number: each image since a moment up to the start of the call was one by then, or it tells the
  -- standing, or it with the whole group
  abbrev pub TellsGroup : Journal → ℕ → List Submitted → D → D → Type 0
  TellsGroup journal first group old new = (view old).lawful → (plan : List Line) (head : Head) (side : ℕ) (s : Standing)
      → journal ≡ ring_of head.shape s.epoch → HasRoomFor head.shape s first (length group) → AreFresh head.version s group → AreBatches (inputs_of plan) group
      → Keeps plan head side s (view old).state
      → TellsSince (Tells plan head side s) (Tells plan head side (with_more s group)) (view old).state (view new).state

  -- each image tells it with the group
  abbrev pub KeepsGroup : Journal → ℕ → List Submitted → D → D → Type 0
  KeepsGroup journal first group old new = (view old).lawful → (plan : List Line) (head : Head) (side : ℕ) (s : Standing)
      → journal ≡ ring_of head.shape s.epoch → HasRoomFor head.shape s first (length group) → AreFresh head.version s group → AreBatches (inputs_of plan) group
      → Keeps plan head side s (view old).state → Keeps plan head side (with_more s group) (view new).state

  -- FREE CELLS ARE CLOSED: each image since a moment up to the start of the call was one by then, or it tells the standing still
  abbrev pub TellsAsBefore : Journal → ℕ → ℕ → D → D → Type 0
  TellsAsBefore journal first count old new = (view old).lawful → (plan : List Line) (head : Head) (side : ℕ) (s : Standing)
      → journal ≡ ring_of head.shape s.epoch → AreFree head.shape s first count → Keeps plan head side s (view old).state
      → TellsSince (Tells plan head side s) (Tells plan head side s) (view old).state (view new).state

  -- each image tells it
  abbrev pub KeepsAsBefore : Journal → ℕ → ℕ → D → D → Type 0
  KeepsAsBefore journal first count old new = (view old).lawful → (plan : List Line) (head : Head) (side : ℕ) (s : Standing)
      → journal ≡ ring_of head.shape s.epoch → AreFree head.shape s first count → Keeps plan head side s (view old).state → Keeps plan head side s (view new).state

  -- where each of these cells reads closed, nothing is written
  abbrev pub WritesOnlyIfOpen : Journal → ℕ → ℕ → D → D → Type 0
  WritesOnlyIfOpen journal first count old new = (view old).lawful → AreShut journal (view old).state.bytes first count
      → CrashSafe Unchanged (view old).state (view new).state

  -- STATES ARE PUT after a cut: each image since a moment up to the start of the call was one by then, or it tells the standing, or it cut there
  abbrev pub TellsCut : Slots → ℕ → ℕ → ℕ → StateList → D → D → Type 0
  TellsCut slots newest epoch last states old new = (view old).lawful → (plan : List Line) (head : Head) (s : Standing) (k : ℕ)
      → slots ≡ slots_of head.shape → epoch ≡ s.epoch + k → last ≡ greatest s.last (take k s.submitted) → IsCut plan head.shape s k states
      → Keeps plan head newest s (view old).state
      → TellsSince (Tells plan head newest s) (Tells plan head (side_after newest k) (cut_at s k states)) (view old).state (view new).state

  -- each image tells it cut there
  abbrev pub KeepsCut : Slots → ℕ → ℕ → ℕ → StateList → D → D → Type 0
  KeepsCut slots newest epoch last states old new = (view old).lawful → (plan : List Line) (head : Head) (s : Standing) (k : ℕ)
      → slots ≡ slots_of head.shape → epoch ≡ s.epoch + k → last ≡ greatest s.last (take k s.submitted) → IsCut plan head.shape s k states
      → Keeps plan head newest s (view old).state → Keeps plan head (side_after newest k) (cut_at s k states) (view new).state

  -- A HEAD IS RAISED: each image since a moment up to the start of the call was one by then, or it tells the standing under the one head or the other
  abbrev pub TellsRaised : List Line → Head → D → D → Type 0
  TellsRaised plan head old new = (view old).lawful → (side : ℕ) (s : Standing) → Keeps plan head side s (view old).state
      → TellsSince (Tells plan head side s) (Tells plan (raised head) side s) (view old).state (view new).state

  -- each image tells it under the head that was put
  abbrev pub KeepsRaised : List Line → Head → D → D → Type 0
  KeepsRaised plan head old new = (view old).lawful → (side : ℕ) (s : Standing) → Keeps plan head side s (view old).state → Keeps plan (raised head) side s (view new).state

-- A BATCH IS SUBMITTED by a call: wherever it stops, an image tells the standing, or it with the batch; after want of memory nothing is written, and each
-- tells it still; after Ok each tells it with the batch
pub record SubmitsBatch {D T : Type 0} (view : D → DiskView) (journal : Journal) (epoch request : ℕ) (batch : List Entry) (result : Result T JournalError) (old new : D) : Type 0 where
  pub later : IsLater view old new
  pub begun : TellsBatch view journal epoch request batch old new
  pub unwritten : IsErrOf result Memory → WritesNothing view old new
  pub kept : IsErrOf result Memory → KeepsTold view old new
  pub done : OnOk result (KeepsBatch view journal epoch request batch old new)

-- A GROUP IS SUBMITTED by a call: the same, with the whole group or none of it
pub record SubmitsGroup {D T : Type 0} (view : D → DiskView) (journal : Journal) (first : ℕ) (group : List Submitted) (result : Result T JournalError) (old new : D) : Type 0 where
  pub later : IsLater view old new
  pub begun : TellsGroup view journal first group old new
  pub unwritten : IsErrOf result Memory → WritesNothing view old new
  pub kept : IsErrOf result Memory → KeepsTold view old new
  pub done : OnOk result (KeepsGroup view journal first group old new)

-- A group has its place in a ring: no batch has too many records, its cells are free, and its last epoch is below 2 ^ 63.
pub record HasPlace (journal : Journal) (first : ℕ) (group : List Submitted) : Type 0 where
  pub few : AllFew journal.m group
  pub later : journal.kept < first
  pub free : first + length group ≤ journal.kept + journal.n + 1
  pub small : first + length group ≤ 2 ^ 63

-- FREE CELLS ARE CLOSED by a call: wherever it stops, an image tells the standing still, and after Ok each does
pub record ClosesFree {D T E : Type 0} (view : D → DiskView) (journal : Journal) (first count : ℕ) (result : Result T E) (old new : D) : Type 0 where
  pub later : IsLater view old new
  pub begun : TellsAsBefore view journal first count old new
  pub done : OnOk result (KeepsAsBefore view journal first count old new)

-- A CUT IS WRITTEN by a call: wherever it stops, an image tells the standing, or it cut there; after Ok each tells it cut there
pub record WritesCut {D T : Type 0} (view : D → DiskView) (slots : Slots) (newest epoch last : ℕ) (states : StateList) (result : Result T SlotsError) (old new : D) : Type 0 where
  pub later : IsLater view old new
  pub begun : TellsCut view slots newest epoch last states old new
  pub done : OnOk result (KeepsCut view slots newest epoch last states old new)

-- A HEAD IS RAISED by a call: wherever it stops, an image tells the standing under the one head or the other; after Ok each under the one that was put
pub record RaisesHead {D T E : Type 0} (view : D → DiskView) (plan : List Line) (head : Head) (result : Result T E) (old new : D) : Type 0 where
  pub later : IsLater view old new
  pub begun : TellsRaised view plan head old new
  pub done : OnOk result (KeepsRaised view plan head old new)
