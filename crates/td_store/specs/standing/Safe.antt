-- What the calls that write make of what an image tells, as laws: while a step is under way, and once it is done.
use Rattle.std.specs.Prelude.{◌⊎◌, ℕ, suc, ◌+◌, ◌-◌, ◌^◌, ◌<◌, ◌≤◌, List, [], ◌∷◌, take}
use Rattle.td_stamp.specs.States.{StateList}
use Rattle.td_plan.specs.Lines.{Line}
use Rattle.td_plan.specs.Faults.{IsPlan}
use Rattle.td_disk.specs.Disk.{DiskView}
use Rattle.td_gate.specs.CrashSafe.{CrashSafe}
use Rattle.td_gate.specs.Region.{IsOpen, Puts}
use Rattle.td_gate.specs.Regions.{Replaces}
use Rattle.td_head.specs.declared.head.Head.{Head}
use Rattle.td_head.specs.Head.{raised, raised_bytes}
use Rattle.td_head.specs.Layout.{head}
use Rattle.td_slots.specs.Slot.{slot, slot_bytes}
use Rattle.td_journal.specs.declared.payload.Submitted.{Submitted}
use Rattle.td_journal.specs.Numbers.{greatest}
use Rattle.td_journal.specs.Cell.{cell_of, cell_bytes, IsCellBatch}
use Rattle.td_journal.specs.Images.{NothingFollows, Clears, IsGone}
use Rattle.td_store.specs.standing.Standing.{Standing, with_more, cut_at}
use Rattle.td_store.specs.standing.Told.{inputs_of, slots_of, ring_of}
use Rattle.td_store.specs.standing.Tells.{Tells, EachTells, TellsSince, HasRoom, IsFresh, IsCut, side_after}

-- WHILE THE NEXT EPOCH IS PUT into its cell, and nothing follows it in the ring, an image tells the standing, or it with the batch
abbrev pub SubmitIsBegun : Type 0
SubmitIsBegun = (plan : List Line) (h : Head) (side : ℕ) (s : Standing) (old new : List ℕ) (e : ℕ) (x : Submitted)
    → Tells plan h side s old → HasRoom h.shape s e → IsFresh h.version s x.request
    → IsCellBatch (inputs_of plan) h.shape.m x
    → NothingFollows (ring_of h.shape s.epoch) old e
    → Puts (cell_of (ring_of h.shape s.epoch) e) (cell_bytes h.shape.m e x.request x.batch) old new
    → Tells plan h side s new ⊎ Tells plan h side (with_more s (x ∷ [])) new

-- once it is put, it with the batch
abbrev pub SubmitIsDone : Type 0
SubmitIsDone = (plan : List Line) (h : Head) (side : ℕ) (s : Standing) (old new : List ℕ) (e : ℕ) (x : Submitted)
    → Tells plan h side s old → HasRoom h.shape s e → IsFresh h.version s x.request
    → IsCellBatch (inputs_of plan) h.shape.m x
    → NothingFollows (ring_of h.shape s.epoch) old e
    → Replaces (cell_of (ring_of h.shape s.epoch) e) (cell_bytes h.shape.m e x.request x.batch) old new
    → Tells plan h side (with_more s (x ∷ [])) new

-- WHILE THE CELL BEHIND IT IS CLOSED, where that bears the epoch after it, an image tells the standing
abbrev pub ClearingIsTold : Type 0
ClearingIsTold = (plan : List Line) (h : Head) (side : ℕ) (s : Standing) (old new : List ℕ) (e : ℕ)
    → Tells plan h side s old → HasRoom h.shape s e
    → Clears (ring_of h.shape s.epoch) (suc e) old new
    → Tells plan h side s new

-- WHILE A CUT IS PUT into the slot beside the newest, an image tells the standing, or it cut there
abbrev pub CutIsBegun : Type 0
CutIsBegun = (plan : List Line) (h : Head) (side : ℕ) (s : Standing) (old new : List ℕ) (k : ℕ) (states : StateList)
    → Tells plan h side s old → IsCut plan h.shape s k states → greatest s.last (take k s.submitted) < 2 ^ 64
    → Puts (slot (slots_of h.shape) (1 - side)) (slot_bytes h.shape.k (s.epoch + k) (greatest s.last (take k s.submitted)) states) old new
    → Tells plan h side s new ⊎ Tells plan h (side_after side k) (cut_at s k states) new

-- once it is put, it cut there
abbrev pub CutIsDone : Type 0
CutIsDone = (plan : List Line) (h : Head) (side : ℕ) (s : Standing) (old new : List ℕ) (k : ℕ) (states : StateList)
    → Tells plan h side s old → IsCut plan h.shape s k states → greatest s.last (take k s.submitted) < 2 ^ 64
    → Replaces (slot (slots_of h.shape) (1 - side)) (slot_bytes h.shape.k (s.epoch + k) (greatest s.last (take k s.submitted)) states) old new
    → Tells plan h (side_after side k) (cut_at s k states) new

-- WHILE THE HEAD THAT FOLLOWS IS PUT beside one, an image tells the standing under the one or the other
abbrev pub RaiseIsBegun : Type 0
RaiseIsBegun = (plan : List Line) (h : Head) (side : ℕ) (s : Standing) (old new : List ℕ)
    → IsPlan plan → Tells plan h side s old → h.generation + 1 < 2 ^ 64
    → Puts (head (1 - h.side)) (raised_bytes h plan) old new
    → Tells plan h side s new ⊎ Tells plan (raised h) side s new

-- once it is put, under the other
abbrev pub RaiseIsDone : Type 0
RaiseIsDone = (plan : List Line) (h : Head) (side : ℕ) (s : Standing) (old new : List ℕ)
    → IsPlan plan → Tells plan h side s old → h.generation + 1 < 2 ^ 64
    → Replaces (head (1 - h.side)) (raised_bytes h plan) old new
    → Tells plan (raised h) side s new

module _ {D : Type 0} (view : D → DiskView) where
  -- THE CELL BEHIND THE NEXT EPOCH'S IS CLEARED: each image since a moment up to the start was one by then, or it tells the standing
  abbrev pub ClearingIsSafe : Type 0
  ClearingIsSafe = (plan : List Line) (h : Head) (side : ℕ) (s : Standing) (e : ℕ) (old mid : D)
      → HasRoom h.shape s e → EachTells plan h side s (view old).state
      → CrashSafe (Clears (ring_of h.shape s.epoch) (suc e)) (view old).state (view mid).state
      → (t : ℕ) (c : List ℕ) → t ≤ (view old).state.moment → (view mid).state.since t c → (view old).state.since t c ⊎ Tells plan h side s c

  -- THEN THE NEXT EPOCH IS PUT: each was one by then, or it tells the standing, or it with the batch
  abbrev pub SubmitIsSafe : Type 0
  SubmitIsSafe = (plan : List Line) (h : Head) (side : ℕ) (s : Standing) (e : ℕ) (x : Submitted) (old mid new : D)
      → HasRoom h.shape s e → IsFresh h.version s x.request → IsCellBatch (inputs_of plan) h.shape.m x
      → EachTells plan h side s (view old).state → (view mid).lawful
      → CrashSafe (Clears (ring_of h.shape s.epoch) (suc e)) (view old).state (view mid).state
      → IsGone (ring_of h.shape s.epoch) (suc e) (view mid).state
      → CrashSafe (Puts (cell_of (ring_of h.shape s.epoch) e) (cell_bytes h.shape.m e x.request x.batch)) (view mid).state (view new).state
      → TellsSince (Tells plan h side s) (Tells plan h side (with_more s (x ∷ []))) (view old).state (view new).state

  -- once both answered Ok, each image tells it with the batch
  abbrev pub SubmitIsKept : Type 0
  SubmitIsKept = (plan : List Line) (h : Head) (side : ℕ) (s : Standing) (e : ℕ) (x : Submitted) (old mid new : D)
      → HasRoom h.shape s e → IsFresh h.version s x.request → IsCellBatch (inputs_of plan) h.shape.m x
      → EachTells plan h side s (view old).state → (view mid).lawful → (view new).lawful
      → CrashSafe (Clears (ring_of h.shape s.epoch) (suc e)) (view old).state (view mid).state
      → IsGone (ring_of h.shape s.epoch) (suc e) (view mid).state
      → CrashSafe (Puts (cell_of (ring_of h.shape s.epoch) e) (cell_bytes h.shape.m e x.request x.batch)) (view mid).state (view new).state
      → IsOpen (cell_of (ring_of h.shape s.epoch) e) (cell_bytes h.shape.m e x.request x.batch) (view new).state
      → EachTells plan h side (with_more s (x ∷ [])) (view new).state

  -- A CUT IS PUT: each was one by then, or it tells the standing, or it cut there
  abbrev pub CutIsSafe : Type 0
  CutIsSafe = (plan : List Line) (h : Head) (side : ℕ) (s : Standing) (k : ℕ) (states : StateList) (old new : D)
      → EachTells plan h side s (view old).state → IsCut plan h.shape s k states
      → greatest s.last (take k s.submitted) < 2 ^ 64
      → CrashSafe (Puts (slot (slots_of h.shape) (1 - side)) (slot_bytes h.shape.k (s.epoch + k) (greatest s.last (take k s.submitted)) states)) (view old).state (view new).state
      → TellsSince (Tells plan h side s) (Tells plan h (side_after side k) (cut_at s k states)) (view old).state (view new).state

  -- once that answered Ok, each image tells it cut there
  abbrev pub CutIsKept : Type 0
  CutIsKept = (plan : List Line) (h : Head) (side : ℕ) (s : Standing) (k : ℕ) (states : StateList) (old new : D)
      → EachTells plan h side s (view old).state → IsCut plan h.shape s k states
      → greatest s.last (take k s.submitted) < 2 ^ 64 → (view new).lawful
      → CrashSafe (Puts (slot (slots_of h.shape) (1 - side)) (slot_bytes h.shape.k (s.epoch + k) (greatest s.last (take k s.submitted)) states)) (view old).state (view new).state
      → IsOpen (slot (slots_of h.shape) (1 - side)) (slot_bytes h.shape.k (s.epoch + k) (greatest s.last (take k s.submitted)) states) (view new).state
      → EachTells plan h (side_after side k) (cut_at s k states) (view new).state

  -- A HEAD IS PUT: each was one by then, or it tells the standing under the one head or the other
  abbrev pub RaiseIsSafe : Type 0
  RaiseIsSafe = (plan : List Line) (h : Head) (side : ℕ) (s : Standing) (old new : D)
      → IsPlan plan → EachTells plan h side s (view old).state → h.generation + 1 < 2 ^ 64
      → CrashSafe (Puts (head (1 - h.side)) (raised_bytes h plan)) (view old).state (view new).state
      → TellsSince (Tells plan h side s) (Tells plan (raised h) side s) (view old).state (view new).state

  -- once that answered Ok, each image tells it under the head that was put
  abbrev pub RaiseIsKept : Type 0
  RaiseIsKept = (plan : List Line) (h : Head) (side : ℕ) (s : Standing) (old new : D)
      → IsPlan plan → EachTells plan h side s (view old).state → h.generation + 1 < 2 ^ 64 → (view new).lawful
      → CrashSafe (Puts (head (1 - h.side)) (raised_bytes h plan)) (view old).state (view new).state
      → IsOpen (head (1 - h.side)) (raised_bytes h plan) (view new).state
      → EachTells plan (raised h) side s (view new).state
