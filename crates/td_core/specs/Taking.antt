-- Taking a task of a shard.
use Rattle.std.specs.Prelude.{◌≡◌, ◌⊎◌, ℕ, zero, suc, ◌+◌, ◌%◌, ◌<◌, ◌≤◌, List, [], ◌∷◌, ◌++◌, ◌&&◌, cond, map, length, Bool, true, Option, Some, None, is_some, HoldsAt, Contains}
use Rattle.std.specs.declared.cmp.Ordering.TheVariants.{Less}
use Rattle.std.specs.Ordering.{is_lt}
use Rattle.std.specs.List.{AllByRecursion}
use Rattle.std.specs.List.Sorted.{IsStrictlySortedBy}
use Rattle.td_stamp.specs.declared.values.Rec.{Rec}
use Rattle.td_stamp.specs.declared.values.Arrival.{Arrival}
use Rattle.td_stamp.specs.Groups.{groups}
use Rattle.td_stamp.specs.Time.{Timestamp}
use Rattle.td_calls.specs.Answers.{Answers}
use Rattle.td_calls.specs.Callbacks.{is_notified}
use Rattle.td_reach.specs.declared.stamp.Place.{Place}
use Rattle.td_reach.specs.declared.stamp.Place.TheVariants as places
use Rattle.td_reach.specs.declared.stamp.Stamp.{Stamp}
use Rattle.td_reach.specs.Frontier.{Frontier}
use Rattle.td_reach.specs.Paths.{IsOf}
use Rattle.td_progress.specs.Bag.{Active}
use Rattle.td_machine.specs.declared.records.Message.{Message}
use Rattle.td_machine.specs.State.{HallState, Task}
use Rattle.td_machine.specs.State.Content.{messages, notification}
use Rattle.td_machine.specs.Active.{kind_of, stamp_at}
use Rattle.td_machine.specs.Steps.{Refusal, Takes, coming, with_state_of, task_size, ends}
use Rattle.td_machine.specs.Steps.Answer.{has_taken, refused}
use Rattle.td_machine.specs.Reached.{IsReached}
use Rattle.td_shard.specs.declared.waiting.Noted.{Noted}
use Rattle.td_shard.specs.declared.shard.Shard.{Shard}
use Rattle.td_shard.specs.Asked.{AskedList, items_at, noted_at, noted_cmp}
use Rattle.td_shard.specs.Messages.{task_at, left_at}
use Rattle.td_core.specs.declared.hall.Parts.{Parts}
use Rattle.td_core.specs.declared.error.HallError.{HallError}
use Rattle.td_core.specs.declared.error.HallError.TheVariants.{Memory, Spent}
use Rattle.td_core.specs.declared.take.Candidate.{Candidate}
use Rattle.td_core.specs.declared.take.Candidate.TheVariants as candidates
use Rattle.td_core.specs.Parts.{state_of}
use Rattle.td_core.specs.Posted.{mails, waits}
use Rattle.td_core.specs.Refusals.{error_of}

-- WHY A TAKE IS REFUSED: for want of memory, or since the machine refuses it
abbrev pub IsTakeRefused : HallState → ℕ → HallError → Type 0
IsTakeRefused S shard error = (error ≡ Memory) ⊎ ((r : Refusal) × (error ≡ error_of r) × Takes S shard (refused r) S)

-- how many runs and messages a mailbox has room for
abbrev pub room_of : Shard → ℕ × ℕ
room_of s = (s.mailbox.runs, s.mailbox.room)

-- A TASK WAS TAKEN: it is out, the last, and but for the messages in mailboxes all else is as it was
pub record IsTaken (old new : Parts) (task : Task) : Type 0 where
  pub fields : new ≡ record old { shards = new.shards; out = new.out; taken = old.taken + 1 }
  pub out : new.out.items ≡ old.out.items ++ task ∷ []
  pub waiting : waits new.shards.items ≡ waits old.shards.items
  pub room : map room_of new.shards.items ≡ map room_of old.shards.items

-- all is as it was, but for the order in which items wait
pub record IsReordered (old new : Parts) : Type 0 where
  pub fields : new ≡ record old { shards = new.shards }
  pub shards : new.shards.items ≡ old.shards.items

-- all is as it was, but for room in the list of tasks, and for the order in which items wait
pub record IsSame (old new : Parts) : Type 0 where
  pub fields : new ≡ record old { shards = new.shards; out = new.out }
  pub shards : new.shards.items ≡ old.shards.items
  pub out : new.out.items ≡ old.out.items

-- or none was, and all is as it was
abbrev pub IsTakenIf : Parts → Parts → Option Task → Type 0
IsTakenIf old new None = new ≡ old
IsTakenIf old new (Some task) = IsTaken old new task

-- a shard's mailbox has room for a task's messages
abbrev pub HasRoomBack : Shard → Type 0
HasRoomBack s = (0 < s.mailbox.runs) × (task_size ≤ s.mailbox.room)

-- the last take led from one state to another
abbrev pub IsLastTake : Answers → HallState → ℕ → Task → HallState → Type 0
IsLastTake answers S shard task T = IsReached answers S × Takes S shard (has_taken (Some task)) T

-- the pointstamp of a notification of a shard
abbrev pub stamp_of_noted : Noted → Stamp
stamp_of_noted n = stamp_at n.vertex n.time

-- the notifications for which a shard asked, in their order
abbrev pub asked_at : Shard → List Noted
asked_at s = map (λ w. w.0) s.waiting

-- ALL THAT IS ASKED for in a shard: it is of the plan and active, at vertices that have notifications, and stands once and in order
pub record AreAsked (table : Active) (asked : List Noted) : Type 0 where
  pub of_plan : AllByRecursion (λ n. IsOf table.plan (stamp_of_noted n)) asked
  pub are_active : AllByRecursion (λ n. Contains table.stamps (stamp_of_noted n)) asked
  pub notified : AllByRecursion (λ n. is_notified (kind_of table.plan n.vertex) ≡ true) asked
  pub once : IsStrictlySortedBy noted_cmp asked

-- of two notifications the earlier, where the second comes after another
abbrev pub comes_after : Option Noted → Noted → Bool
comes_after None n = true
comes_after (Some m) n = is_lt (noted_cmp m n)

abbrev pub comes_before : Noted → Option Noted → Bool
comes_before n None = true
comes_before n (Some m) = is_lt (noted_cmp n m)

abbrev pub earlier : Option Noted → Option Noted → Option Noted → Option Noted
earlier first after None = first
earlier first after (Some n) = cond (comes_after after n && comes_before n first) (Some n) first

-- the notification of a pointstamp, where it is asked for
abbrev pub asked_of : AskedList → Place → Timestamp → Option Noted
asked_of asked (places.Vertex v) t = cond (is_some (items_at asked v t)) (Some (noted_at v t)) None
asked_of asked (places.Edge e) t = None

module _ (active : Active) where
  -- in the frontier
  abbrev pub IsReady : Noted → Type 0
  IsReady n = Frontier active.plan active.stamps (stamp_of_noted n)

  -- of some notifications those that are in the frontier
  abbrev pub AreReady : List Noted → List Noted → Type 0
  AreReady [] ready = ready ≡ []
  AreReady (n ∷ asked) ready = ((IsReady n → ⊥) × AreReady asked ready) ⊎ (IsReady n × ((rest : List Noted) × (ready ≡ n ∷ rest) × AreReady asked rest))

  -- the first of them that comes after another
  abbrev pub IsNextReady : List Noted → Option Noted → Option Noted → Type 0
  IsNextReady asked after None = (n : Noted) → Contains asked n → IsReady n → comes_after after n ≡ true → ⊥
  IsNextReady asked after (Some m) = Contains asked m × IsReady m × (comes_after after m ≡ true) × ((n : Noted) → Contains asked n → IsReady n → comes_after after n ≡ true → noted_cmp n m ≡ Less → ⊥)

  -- the one at a place among these: as many are before it
  abbrev pub IsReadyAt : List Noted → ℕ → Option Noted → Type 0
  IsReadyAt asked place None = (ready : List Noted) × AreReady asked ready × (length ready ≤ place)
  IsReadyAt asked place (Some n) = (before after ready : List Noted) × (asked ≡ before ++ n ∷ after) × AreReady before ready × (length ready ≡ place) × IsReady n

  -- a place that a pick names, counted round among all candidates
  abbrev pub IsPlaceOf : Shard → ℕ → ℕ → Type 0
  IsPlaceOf s pick place = (ready : List Noted) → AreReady (asked_at s) ready → 0 < length s.mailbox.messages + length ready → place ≡ pick % (length s.mailbox.messages + length ready)

  -- THE CANDIDATE that a pick names: a message, or, after all of them, a notification that is in the frontier
  abbrev pub IsPicked : Shard → ℕ → Option Candidate → Type 0
  IsPicked s pick None = (s.mailbox.messages ≡ []) × AreReady (asked_at s) []
  IsPicked s pick (Some (candidates.Message place)) = (place < length s.mailbox.messages) × IsPlaceOf s pick place
  IsPicked s pick (Some (candidates.Notification n)) = (place : ℕ) × IsReadyAt (asked_at s) place (Some n) × IsPlaceOf s pick (length s.mailbox.messages + place)

-- what a task has to do for a candidate: the message and others of its edge and time; or the items that wait, by key, with the states
-- before their epoch
abbrev pub IsFor : Parts → Shard → Candidate → Task → Type 0
IsFor parts s (candidates.Message place) task = (port : ℕ) × (recs : List Rec) × (task.content ≡ messages port recs) × (coming task.vertex port task.time recs ≡ task_at place s.mailbox.messages)
IsFor parts s (candidates.Notification n) task = (task.vertex ≡ n.vertex) × (task.time ≡ n.time)
    × ((items : List Arrival) → items_at s.waiting n.vertex n.time ≡ Some items → task.content ≡ notification (map (with_state_of (state_of parts) n.vertex n.time) (groups items)))

-- a candidate that a shard has
abbrev pub IsThere : Shard → Candidate → Type 0
IsThere s (candidates.Message place) = place < length s.mailbox.messages
IsThere s (candidates.Notification n) = Unit {0}

-- a task for a candidate of a shard
pub record IsTaskFor (parts : Parts) (shard : ℕ) (s : Shard) (candidate : Candidate) (task : Task) : Type 0 where
  pub shard_is : task.shard ≡ shard
  pub number : task.number ≡ parts.taken + 1
  pub kind : task.kind ≡ kind_of parts.table.plan task.vertex
  pub content : IsFor parts s candidate task

-- a list with what stands at a place changed
abbrev pub changed_at : {X : Type 0} → (X → X) → ℕ → List X → List X
changed_at f i [] = []
changed_at f zero (x ∷ xs) = f x ∷ xs
changed_at f (suc i) (x ∷ xs) = x ∷ changed_at f i xs

-- the mailboxes without what is taken: what waits for a notification stays until that is given
abbrev pub mails_without : Candidate → ℕ → List (List Message) → List (List Message)
mails_without (candidates.Message place) i mails = changed_at (left_at place) i mails
mails_without (candidates.Notification n) i mails = mails

-- A CANDIDATE WAS TAKEN of a shard as this task
pub record IsTakenFor (candidate : Candidate) (shard : ℕ) (old new : Parts) (task : Task) : Type 0 where
  pub fields : new ≡ record old { shards = new.shards; out = new.out; taken = old.taken + 1 }
  pub out : new.out.items ≡ old.out.items ++ task ∷ []
  pub mails : mails new.shards.items ≡ mails_without candidate shard (mails old.shards.items)
  pub waiting : waits new.shards.items ≡ waits old.shards.items
  pub room : map room_of new.shards.items ≡ map room_of old.shards.items

-- the candidate that a pick names, with its task
abbrev pub IsChosen : ℕ → ℕ → Parts → Option (Candidate × Task) → Type 0
IsChosen shard pick parts None = HoldsAt (λ s. IsPicked parts.table s pick None) parts.shards.items shard
IsChosen shard pick parts (Some c) = HoldsAt (λ s. IsPicked parts.table s pick (Some c.0) × IsTaskFor parts shard s c.0 c.1) parts.shards.items shard × (parts.taken < ends)

-- the task that a pick names was taken, or there is none
abbrev pub IsPickTaken : ℕ → ℕ → Parts → Parts → Option Task → Type 0
IsPickTaken shard pick old new None = HoldsAt (λ s. IsPicked old.table s pick None) old.shards.items shard × (new ≡ old)
IsPickTaken shard pick old new (Some task) = (candidate : Candidate) × HoldsAt (λ s. IsPicked old.table s pick (Some candidate) × IsTaskFor old shard s candidate task) old.shards.items shard
    × IsTakenFor candidate shard old new task × (old.taken < ends)

-- or why it was not
abbrev pub IsPickRefused : ℕ → ℕ → Parts → HallError → Type 0
IsPickRefused shard pick old error =
    ((error ≡ Memory) × (old.taken < ends)) ⊎ ((error ≡ Spent) × (old.taken ≡ ends) × ((candidate : Candidate) × HoldsAt (λ s. IsPicked old.table s pick (Some candidate)) old.shards.items shard))
