-- A hall's parts when a notification was answered, when a task is out no more, and where a task was refused.
use Rattle.std.specs.Prelude.{◌≡◌, ℕ, ◌+◌, ◌==◌, not, cond, List, [], ◌∷◌, ◌++◌, map, filter, length}
use Rattle.std.specs.List.{enumerate_from}
use Rattle.td_stamp.specs.declared.values.Rec.{Rec}
use Rattle.td_stamp.specs.Bag.{join}
use Rattle.td_calls.specs.Answers.{Answers}
use Rattle.td_progress.specs.Bag.{IsSameBag}
use Rattle.td_reach.specs.declared.stamp.Place.TheVariants as places
use Rattle.td_machine.specs.State.{Task, KeyItems, Content, left_cmp}
use Rattle.td_machine.specs.State.Content.{messages, notification}
use Rattle.td_machine.specs.Active.{stamp_at}
use Rattle.td_machine.specs.Steps.{posts, stamped, leaves, notified_sends}
use Rattle.td_machine.specs.Moves.{come_given, gone_given}
use Rattle.td_shard.specs.Asked.{AskedList, without_items}
use Rattle.td_shard.specs.declared.shard.Shard.{Shard}
use Rattle.td_core.specs.declared.hall.Parts.{Parts}
use Rattle.td_core.specs.declared.post.Change.{Change}
use Rattle.td_shard.specs.declared.outlet.Outlet.{Outlet}
use Rattle.td_core.specs.declared.hall.Routes.{Routes}
use Rattle.td_core.specs.Parts.{state_of}
use Rattle.td_core.specs.Delivered.{IsDelivered}
use Rattle.td_core.specs.Posted.{IsRoomier, mails, mails_with, waits}
use Rattle.td_core.specs.Routes.{edge_in, outlets_in}

-- NOTHING BUT MORE ROOM
pub record IsUntouched (old new : Parts) : Type 0 where
  pub fields : new ≡ record old { table = new.table; shards = new.shards }
  pub plan : new.table.plan ≡ old.table.plan
  pub stamps : IsSameBag new.table.stamps old.table.stamps
  pub shards : IsRoomier old.shards.items new.shards.items

-- what waits in a shard, but for a task's notification
abbrev pub waiting_without : Task → ℕ × Shard → AskedList
waiting_without task p = cond (p.0 == task.shard) (without_items p.1.waiting task.vertex task.time) p.1.waiting

-- the edges on which some records are sent: none where there are no records
abbrev pub outlets_for : Routes → ℕ → List Rec → List Outlet
outlets_for routes v [] = []
outlets_for routes v (r ∷ recs) = outlets_in routes v

-- A NOTIFICATION was answered: what is sent was posted and is active, what a fold leaves is kept, and it waits no more
pub record IsNotified (answers : Answers) (task : Task) (items : List KeyItems) (old new : Parts) : Type 0 where
  pub fields : new ≡ record old {
    table = new.table;
    shards = new.shards;
    versions = join left_cmp (leaves answers task.kind task.time.epoch task.vertex items) old.versions;
  }
  pub plan : new.table.plan ≡ old.table.plan
  pub stamps : IsSameBag new.table.stamps (come_given answers (state_of old) task (notification items) ++ old.table.stamps)
  pub mails : mails new.shards.items ≡ mails_with (posts old.table.plan (stamped task.vertex task.time (notified_sends answers task.kind items))) old.shards.items
  pub waits : waits new.shards.items ≡ map (waiting_without task) (enumerate_from 0 old.shards.items)

-- A TASK was answered, whatever it has to do; it is still out
abbrev pub IsAnswered : Answers → Task → Content → Parts → Parts → Type 0
IsAnswered answers task (messages port recs) old new = IsDelivered answers task port recs old new
IsAnswered answers task (notification items) old new = IsNotified answers task items old new

-- the pointstamp of what a task took up, and how often it occurs for it
abbrev pub took : Routes → Task → Content → Change
took routes task (messages port recs) = record { stamp = record { time = task.time; place = places.Edge (edge_in routes task.vertex port) }; times = length recs }
took routes task (notification items) = record { stamp = stamp_at task.vertex task.time; times = 1 }

-- A TASK is out no more: one more was given, and what it took up is active no more
pub record IsEnded (task : Task) (old new : Parts) : Type 0 where
  pub fields : new ≡ record old { table = new.table; out = new.out; given = old.given + 1 }
  pub plan : new.table.plan ≡ old.table.plan
  pub stamps : IsSameBag old.table.stamps (gone_given (state_of old) task task.content ++ new.table.stamps)
  pub out : new.out.items ≡ filter (λ t. not (t.shard == task.shard)) old.out.items
