-- A hall's parts after the records of a task were delivered. The task is still out, and what it took up stands with it.
use Rattle.std.specs.Prelude.{◌≡◌, ℕ, ◌≤◌, ◌<◌, ◌==◌, Bool, true, false, ◌&&◌, List, [], ◌∷◌, ◌++◌, map, length, get_or, set, is_some}
use Rattle.std.specs.List.{AllByRecursion, enumerate_from}
use Rattle.td_stamp.specs.declared.values.Rec.{Rec}
use Rattle.td_stamp.specs.declared.values.Arrival.{Arrival}
use Rattle.td_stamp.specs.Bag.{join}
use Rattle.td_stamp.specs.Groups.{arrival_of}
use Rattle.td_stamp.specs.Time.{Timestamp, depth}
use Rattle.td_plan.specs.declared.vertex.Kind.TheVariants.{Enter}
use Rattle.td_calls.specs.Answers.{Answers}
use Rattle.td_calls.specs.Callbacks.{Added, is_notified}
use Rattle.td_reach.specs.declared.stamp.Stamp.{Stamp}
use Rattle.td_reach.specs.Paths.{IsOf}
use Rattle.td_progress.specs.Bag.{IsSameBag}
use Rattle.td_machine.specs.declared.records.Stamped.{Stamped}
use Rattle.td_machine.specs.declared.records.OutputAt.{OutputAt}
use Rattle.td_machine.specs.State.{Task, stamped_cmp, output_at_cmp}
use Rattle.td_machine.specs.State.Content.{messages}
use Rattle.td_machine.specs.Active.{kind_of, stamp_at}
use Rattle.td_machine.specs.Steps.{posts, stamped}
use Rattle.td_machine.specs.AtOnce.{fresh, added_at_once}
use Rattle.td_machine.specs.ByEdge.{comes_out_at_once, stamps_by_edge}
use Rattle.td_machine.specs.Moves.{come_given}
use Rattle.td_shard.specs.Asked.{AskedList, items_at, with_items}
use Rattle.td_shard.specs.declared.shard.Shard.{Shard}
use Rattle.td_core.specs.declared.hall.Parts.{Parts}
use Rattle.td_core.specs.Came.{output_at}
use Rattle.td_core.specs.Parts.{state_of}
use Rattle.td_core.specs.Routes.{IsRoutes}
use Rattle.td_core.specs.Posted.{mails, mails_with, waits}

-- what a task's records add and send
abbrev pub added_by : Answers → Parts → Task → ℕ → List Rec → Added
added_by answers h task port recs = added_at_once answers h.seen task.kind task.vertex port task.time recs

-- what waits in a shard when a task's records came there, if they did
abbrev pub waiting_by : Bool → Task → ℕ → List Rec → AskedList → AskedList
waiting_by true task port recs asked = with_items asked task.vertex task.time (map (arrival_of port) recs)
waiting_by false task port recs asked = asked

-- they come to the task's own shard, where its vertex is notified
abbrev pub waiting_with : Task → ℕ → List Rec → ℕ × Shard → AskedList
waiting_with task port recs p = waiting_by (is_notified task.kind && p.0 == task.shard) task port recs p.1.waiting

-- THE RECORDS of a task were delivered: what they send was posted, what they add was added, and what comes of it is active
pub record IsDelivered (answers : Answers) (task : Task) (port : ℕ) (recs : List Rec) (old new : Parts) : Type 0 where
  pub fields : new ≡ record old {
    table = new.table;
    shards = new.shards;
    seen = join stamped_cmp (stamped task.vertex task.time (added_by answers old task port recs).seen) old.seen;
    outputs = join output_at_cmp (comes_out_at_once task.kind task.vertex task.time recs) old.outputs;
  }
  pub plan : new.table.plan ≡ old.table.plan
  pub stamps : IsSameBag new.table.stamps (come_given answers (state_of old) task (messages port recs) ++ old.table.stamps)
  pub mails : mails new.shards.items ≡ mails_with (posts old.table.plan (stamped task.vertex task.time (added_by answers old task port recs).sent)) old.shards.items
  pub waits : waits new.shards.items ≡ map (waiting_with task port recs) (enumerate_from 0 old.shards.items)

-- A vertex can send in answer to a time: what it sends is of the plan, and the hall knows to where
pub record CanSend (v : ℕ) (t : Timestamp) (h : Parts) : Type 0 where
  pub routes : IsRoutes h.table.plan h.routes
  pub some : 1 ≤ length h.shards.items
  pub few : length h.shards.items ≤ 16
  pub enters : kind_of h.table.plan v ≡ Enter → depth t < 3
  pub of_plan : (many : ℕ) → AllByRecursion (IsOf h.table.plan) (stamps_by_edge h.table.plan v t many)

-- PARTS OF IT. Records are sent in answer to a time: they are posted, and active; what distincts have seen and what came to the
-- outputs is this
pub record IsSent (v : ℕ) (t : Timestamp) (sent : List Rec) (seen : List Stamped) (outputs : List OutputAt) (old new : Parts) : Type 0 where
  pub fields : new ≡ record old { table = new.table; shards = new.shards; seen = seen; outputs = outputs }
  pub plan : new.table.plan ≡ old.table.plan
  pub stamps : IsSameBag new.table.stamps (stamps_by_edge old.table.plan v t (length sent) ++ old.table.stamps)
  pub mails : mails new.shards.items ≡ mails_with (posts old.table.plan (stamped v t sent)) old.shards.items
  pub waiting : waits new.shards.items ≡ waits old.shards.items

-- where distincts saw and outputs got nothing
abbrev pub IsSentOn : ℕ → Timestamp → List Rec → Parts → Parts → Type 0
IsSentOn v t recs old new = IsSent v t recs old.seen old.outputs old new

-- those that are new to a distinct, which has seen them from then on
abbrev pub IsSentNew : ℕ → Timestamp → List Rec → Parts → Parts → Type 0
IsSentNew v t recs old new = IsSent v t (fresh old.seen v t recs) (join stamped_cmp (stamped v t (fresh old.seen v t recs)) old.seen) old.outputs old new

-- those that come to an output in an epoch
abbrev pub IsComeOut : ℕ → Timestamp → List Rec → Parts → Parts → Type 0
IsComeOut v t recs old new = IsSent v t recs old.seen (join output_at_cmp (map (output_at t.epoch v) recs) old.outputs) old new

-- what waits in a shard
abbrev pub waiting_at_shard : ℕ → Parts → AskedList
waiting_at_shard s h = get_or (waits h.shards.items) s []

-- the pointstamp of a notification, where it was not asked for
abbrev pub asked_now : ℕ → Timestamp → Bool → List Stamp
asked_now v t true = []
asked_now v t false = stamp_at v t ∷ []

-- Items wait in a shard, and their notification is active
pub record IsNoted (s v : ℕ) (t : Timestamp) (more : List Arrival) (old new : Parts) : Type 0 where
  pub fields : new ≡ record old { table = new.table; shards = new.shards }
  pub plan : new.table.plan ≡ old.table.plan
  pub stamps : IsSameBag new.table.stamps (asked_now v t (is_some (items_at (waiting_at_shard s old) v t)) ++ old.table.stamps)
  pub mails : mails new.shards.items ≡ mails old.shards.items
  pub waits : waits new.shards.items ≡ set (waits old.shards.items) s (with_items (waiting_at_shard s old) v t more)
