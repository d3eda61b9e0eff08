-- What a group of epochs, and closed cells, make of what an image tells, as laws.
use Rattle.std.specs.Prelude.{◌≡◌, ◌⊎◌, ℕ, suc, ◌+◌, ◌^◌, ◌<◌, ◌≤◌, Bool, true, false, List, ◌∷◌, ◌++◌, length, Option, None, Ok}
use Rattle.td_plan.specs.Lines.{Line}
use Rattle.td_disk.specs.Disk.{DiskView}
use Rattle.td_gate.specs.CrashSafe.{CrashSafe}
use Rattle.td_gate.specs.Region.{opened, IsOpen, Puts}
use Rattle.td_head.specs.declared.head.Head.{Head}
use Rattle.td_journal.specs.declared.journal.Journal.{Journal}
use Rattle.td_journal.specs.declared.payload.Submitted.{Submitted}
use Rattle.td_journal.specs.Cell.{cell_of, cell_bytes}
use Rattle.td_journal.specs.Images.{IsBorne, IsNext}
use Rattle.td_journal.specs.Numbers.{floor_after}
use Rattle.td_journal.specs.Ring.{told_after}
use Rattle.td_store.specs.standing.Standing.{Standing, with_more}
use Rattle.td_store.specs.standing.Told.{inputs_of, ring_of}
use Rattle.td_store.specs.standing.Tells.{Tells, EachTells, TellsSince}
use Rattle.td_store.specs.group.Groups.{payloads, Hold, AreCellBatches, may_follow, AreFresh, HasRoomFor, Spares, EachReady, ClosesSome, AreFree, touched}

-- WHILE THE CELL OF THE NEXT EPOCH is as it was or closed, and those of the epochs before it hold the same, a ring tells what it told
abbrev pub StaysTold : Type 0
StaysTold = (inputs : List ℕ) (j : Journal) (old new : List ℕ) (floor : Option ℕ) (checkpoint e : ℕ) (w : List Submitted)
    → IsNext inputs j old floor checkpoint w e
    → ((f : ℕ) → checkpoint < f → f < e → opened (cell_of j f) new ≡ opened (cell_of j f) old)
    → (opened (cell_of j e) new ≡ opened (cell_of j e) old) ⊎ (opened (cell_of j e) new ≡ None)
    → told_after inputs j new floor checkpoint ≡ Ok w

-- once a group stands in its cells, and nothing follows it there, the ring tells the group too
abbrev pub GroupIsTold : Type 0
GroupIsTold = (inputs : List ℕ) (j : Journal) (old new : List ℕ) (floor : Option ℕ) (checkpoint e : ℕ) (w x : List Submitted)
    → IsNext inputs j old floor checkpoint w e
    → ((f : ℕ) → checkpoint < f → f < e → opened (cell_of j f) new ≡ opened (cell_of j f) old)
    → Hold j new e (payloads j.m e x) → AreCellBatches inputs j.m x → may_follow (floor_after floor w) x ≡ true
    → e + length x ≤ 2 ^ 63 → length w + length x ≤ j.n → (length w + length x < j.n → IsBorne j new (e + length x) → ⊥)
    → told_after inputs j new floor checkpoint ≡ Ok (w ++ x)

module _ {D : Type 0} (view : D → DiskView) where
  -- THE RING IS MADE READY for a group: each image since a moment up to the start was one by then, or it tells the standing
  abbrev pub GroupIsReady : Type 0
  GroupIsReady = (plan : List Line) (head : Head) (side : ℕ) (s : Standing) (e k : ℕ) (is_full : Bool) (old mid : D)
      → HasRoomFor head.shape s e k → 0 < touched is_full k → length s.submitted + touched is_full k ≤ head.shape.n
      → EachTells plan head side s (view old).state
      → CrashSafe (Spares (ring_of head.shape s.epoch) e (touched is_full k)) (view old).state (view mid).state
      → (t : ℕ) (c : List ℕ) → t ≤ (view old).state.moment → (view mid).state.since t c → (view old).state.since t c ⊎ Tells plan head side s c

  -- THEN ITS FIRST CELL IS OPENED: each was one by then, or it tells the standing, or it with the whole group
  abbrev pub GroupIsSafe : Type 0
  GroupIsSafe = (plan : List Line) (head : Head) (side : ℕ) (s : Standing) (e : ℕ) (x : Submitted) (xs : List Submitted) (is_full : Bool) (old mid new : D)
      → HasRoomFor head.shape s e (suc (length xs)) → 0 < touched is_full (suc (length xs)) → length s.submitted + touched is_full (suc (length xs)) ≤ head.shape.n
      → (length s.submitted + suc (length xs) < head.shape.n → is_full ≡ false)
      → AreFresh head.version s (x ∷ xs) → AreCellBatches (inputs_of plan) head.shape.m (x ∷ xs)
      → EachTells plan head side s (view old).state → (view mid).lawful
      → CrashSafe (Spares (ring_of head.shape s.epoch) e (touched is_full (suc (length xs)))) (view old).state (view mid).state
      → EachReady (ring_of head.shape s.epoch) e xs is_full (view mid).state
      → CrashSafe (Puts (cell_of (ring_of head.shape s.epoch) e) (cell_bytes head.shape.m e x.request x.batch)) (view mid).state (view new).state
      → TellsSince (Tells plan head side s) (Tells plan head side (with_more s (x ∷ xs))) (view old).state (view new).state

  -- once that answered Ok, each image tells it with the whole group
  abbrev pub GroupIsKept : Type 0
  GroupIsKept = (plan : List Line) (head : Head) (side : ℕ) (s : Standing) (e : ℕ) (x : Submitted) (xs : List Submitted) (is_full : Bool) (old mid new : D)
      → HasRoomFor head.shape s e (suc (length xs)) → 0 < touched is_full (suc (length xs)) → length s.submitted + touched is_full (suc (length xs)) ≤ head.shape.n
      → (length s.submitted + suc (length xs) < head.shape.n → is_full ≡ false)
      → AreFresh head.version s (x ∷ xs) → AreCellBatches (inputs_of plan) head.shape.m (x ∷ xs)
      → EachTells plan head side s (view old).state → (view mid).lawful → (view new).lawful
      → CrashSafe (Spares (ring_of head.shape s.epoch) e (touched is_full (suc (length xs)))) (view old).state (view mid).state
      → EachReady (ring_of head.shape s.epoch) e xs is_full (view mid).state
      → CrashSafe (Puts (cell_of (ring_of head.shape s.epoch) e) (cell_bytes head.shape.m e x.request x.batch)) (view mid).state (view new).state
      → IsOpen (cell_of (ring_of head.shape s.epoch) e) (cell_bytes head.shape.m e x.request x.batch) (view new).state
      → EachTells plan head side (with_more s (x ∷ xs)) (view new).state

  -- FREE CELLS ARE CLOSED: each was one by then, or it tells the standing
  abbrev pub ClosingIsSafe : Type 0
  ClosingIsSafe = (plan : List Line) (head : Head) (side : ℕ) (s : Standing) (e n : ℕ) (old new : D)
      → AreFree head.shape s e n → EachTells plan head side s (view old).state
      → CrashSafe (ClosesSome (ring_of head.shape s.epoch) e n) (view old).state (view new).state
      → TellsSince (Tells plan head side s) (Tells plan head side s) (view old).state (view new).state

  -- then each image tells it
  abbrev pub ClosingIsKept : Type 0
  ClosingIsKept = (plan : List Line) (head : Head) (side : ℕ) (s : Standing) (e n : ℕ) (old new : D)
      → AreFree head.shape s e n → EachTells plan head side s (view old).state → (view new).lawful
      → CrashSafe (ClosesSome (ring_of head.shape s.epoch) e n) (view old).state (view new).state
      → EachTells plan head side s (view new).state
