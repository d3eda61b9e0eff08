-- What an image tells, part by part, and what a disk keeps.
use Rattle.std.specs.Prelude.{◌≡◌, ◌⊎◌, ℕ, ◌+◌, ◌^◌, ◌<◌, ◌≤◌, Bool, true, List, [], length, zero, suc, Some, None, Ok}
use Rattle.td_stamp.specs.States.{StateList}
use Rattle.td_plan.specs.Lines.{Line}
use Rattle.td_disk.specs.Disk.{DiskState, IsDurable}
use Rattle.td_gate.specs.Region.{opened}
use Rattle.td_head.specs.declared.head.Head.{Head}
use Rattle.td_head.specs.Layout.{Sizes}
use Rattle.td_head.specs.Head.{headed, TellsCanonical}
use Rattle.td_head.specs.Images.{IsFirstHead}
use Rattle.td_slots.specs.declared.slots.Checkpoint.{Checkpoint}
use Rattle.td_slots.specs.Newest.{newest}
use Rattle.td_slots.specs.Slot.{AreSlotStates, slot, slot_bytes}
use Rattle.td_journal.specs.Numbers.{may_come}
use Rattle.td_journal.specs.Cell.{cell_of}
use Rattle.td_journal.specs.Ring.{told_after}
use Rattle.td_store.specs.standing.Standing.{Standing, last_epoch, last_request}
use Rattle.td_store.specs.standing.Told.{inputs_of, folds_of, slots_of, ring_of, floor_of}

-- the checkpoint of a standing, in this slot
abbrev pub checkpoint_of : ℕ → Standing → Checkpoint
checkpoint_of side s = record { slot = side; epoch = s.epoch; last = s.last; states = s.states }

-- An image with this head tells this standing, with its checkpoint in this slot.
pub record Tells (plan : List Line) (head : Head) (side : ℕ) (s : Standing) (image : List ℕ) : Type 0 where
  pub canonical : Bool
  pub text : TellsCanonical canonical image
  pub head_is : headed canonical plan image ≡ Ok head
  pub checkpoint : newest head.version (folds_of plan) (slots_of head.shape) image ≡ Ok (checkpoint_of side s)
  pub submitted : told_after (inputs_of plan) (ring_of head.shape s.epoch) image (floor_of head.version s.last) s.epoch ≡ Ok s.submitted

-- Each image of a disk does.
abbrev pub EachTells : List Line → Head → ℕ → Standing → DiskState → Type 0
EachTells plan head side s state = (c : List ℕ) → state.images c → Tells plan head side s c

-- Each image since a moment up to old was one by then, or it tells the one standing or the other.
abbrev pub TellsSince : (List ℕ → Type 0) → (List ℕ → Type 0) → DiskState → DiskState → Type 0
TellsSince one other old new = (t : ℕ) (c : List ℕ) → t ≤ old.moment → new.since t c → old.since t c ⊎ (one c ⊎ other c)

-- A disk of which a crash leaves what is read, and that tells this standing.
pub record Keeps (plan : List Line) (head : Head) (side : ℕ) (s : Standing) (state : DiskState) : Type 0 where
  pub durable : IsDurable state
  pub tells : Tells plan head side s state.bytes

-- A request number may come after a standing: it is 0 for none, or in version 2 above all before.
abbrev pub IsFresh : ℕ → Standing → ℕ → Type 0
IsFresh version s request = may_come (floor_of version (last_request s)) request ≡ true

-- The standing has room for one epoch more, and this is its number.
pub record HasRoom (sizes : Sizes) (s : Standing) (e : ℕ) : Type 0 where
  pub room : length s.submitted < sizes.n
  pub epoch : e ≡ last_epoch s + 1
  pub small : e < 2 ^ 63

-- States after the first k epochs of a standing, which may stand in a slot.
pub record IsCut (plan : List Line) (sizes : Sizes) (s : Standing) (k : ℕ) (states : StateList) : Type 0 where
  pub most : k ≤ length s.submitted
  pub small : s.epoch + k < 2 ^ 63
  pub same : k ≡ 0 → states ≡ s.states
  pub fit : AreSlotStates (folds_of plan) sizes.k states

-- in which slot the newest checkpoint stands after a write into the slot beside it: a cut of no epochs leaves it in slot 0
abbrev pub side_after : ℕ → ℕ → ℕ
side_after zero zero = 0
side_after zero (suc k) = 1
side_after (suc i) k = 0

-- the head that a format writes
abbrev pub first_head : Sizes → Head
first_head sizes = record { version = 2; side = 0; generation = 1; shape = sizes }

-- A disk as a format leaves it: head A and slot 0 are written, and head B, slot 1 and the cell of the first epoch are closed.
pub record IsFormatted (plan : List Line) (sizes : Sizes) (image : List ℕ) : Type 0 where
  pub head : IsFirstHead plan sizes image
  pub slot_0 : opened (slot (slots_of sizes) 0) image ≡ Some (slot_bytes sizes.k 0 0 [])
  pub slot_1 : opened (slot (slots_of sizes) 1) image ≡ None
  pub cell_1 : opened (cell_of (ring_of sizes 0) 1) image ≡ None
