use Rattle.std.proofs.Common.{◌≡◌, ◌≤◌, List, [], ◌∷◌, map, length, sym, ap, ◌∙◌, subst, arith}
use Rattle.std.specs.List.{AllByRecursion, enumerate_from}
use Rattle.td_stamp.specs.Bag.{join}
use Rattle.td_stamp.specs.Time.{Timestamp}
use Rattle.td_progress.specs.Bag.{occurrences}
use Rattle.td_reach.specs.Paths.{IsOf}
use Rattle.td_machine.specs.InOrder.{StillThere}
use Rattle.td_machine.specs.Moves.{come_given}
use Rattle.td_machine.specs.State.{Task, left_cmp}
use Rattle.td_machine.specs.State.Content.{notification}
use Rattle.td_machine.specs.Steps.{IsContent}
use Rattle.td_task.specs.Answered.{left_for}
use Rattle.td_core.specs.Parts.{state_of}
use Rattle.td_core.specs.Given.{outlets_for, waiting_without}
use Rattle.td_stamp.specs.declared.values.Rec.{Rec}
use Rattle.td_shard.specs.Messages.{AreApart}
use Rattle.td_core.specs.Posted.{mails_with, occurring, stamp_on_outlet, stamps_on}
use Rattle.td_shard.specs.Messages.{on_each}
use Rattle.td_core.proofs.OutTasks.{of_one}
use Rattle.td_core.proofs.PostSteps.{as_many_mails, as_many_waits, roomier_then_posted}
use Rattle.td_core.proofs.NotifySends.{all_changed, are_of_plan, mail_is, come_is}
use Rattle.td_core.proofs.NotifyShards.{one_of_shards, same_without}
use Rattle.td_core.proofs.deliver.notify.Goals as goal

pub make_room-requires-clause-some : goal.make_room-requires-clause-some
make_room-requires-clause-some g c = (c.known.ensures.reached_in_order.numbers _ c.requires.hall.reached).workers

pub add_all_and_leave-requires : goal.add_all_and_leave-requires
add_all_and_leave-requires g c =
    let parts = c.args.parts.now in
    let task = c.args.done.now in
    let recs = c.sent-sent.result.now in
    let os = c.outlets_for-outlets.result.now in
    let is = c.task-task.ensures in
    let still = of_one (StillThere (state_of parts)) parts.out.items task (c.known.ensures.reached_in_order.tasks (state_of parts) c.requires.hall.reached).there c.requires.out in
    let time : c.time.result.now ≡ task.time = c.time.ensures ∙ ap (λ (t : Task). t.time) is in
    let of_plan = are_of_plan g.L.Law.answers parts task c.args.items.now recs os c.requires.hall.routes still.0 (c.known.ensures.sends_of_plan (state_of parts) task c.requires.hall.reached c.requires.out)
    (c.sent-sent.ensures ∙ c.known.ensures.a_notification_sends task c.args.items.now c.requires.content)
    (c.outlets_for-outlets.ensures ∙ ap (λ v. outlets_for parts.routes v recs) (c.vertex.ensures ∙ ap (λ (t : Task). t.vertex) is)) in
    subst (AllByRecursion (λ r. IsOf parts.table.plan r.stamp)) (sym (c.as_slice.ensures.value ∙ c.in_ok-changes.ensures.changes))
    (all_changed parts.table.plan c.time.result.now _ os (subst (λ (t : Timestamp). AllByRecursion (λ o. IsOf parts.table.plan (stamp_on_outlet t o)) os) (sym time) of_plan))

pub post-requires-clause-some : goal.post-requires-clause-some
post-requires-clause-some g c =
    subst (λ n. 1 ≤ n) (sym (as_many_mails c.args.parts.now.shards.items c.make_room.new.shards.items c.make_room.ensures.same.mails))
    (c.known.ensures.reached_in_order.numbers _ c.requires.hall.reached).workers

pub post-requires-clause-apart : goal.post-requires-clause-apart
post-requires-clause-apart g c = subst AreApart (sym c.outlets_for-outlets.ensures) (by c.sent-sent.result.now)
  where
    by : (recs : List Rec) → AreApart (outlets_for c.args.parts.now.routes c.vertex.result recs)
    by [] = tt
    by (r ∷ recs) = c.requires.hall.routes.apart c.vertex.result

pub take_waiting-requires : goal.take_waiting-requires
take_waiting-requires g c =
    let parts = c.args.parts.now in
    let task = c.args.done.now in
    let S = state_of parts in
    let still = of_one (StillThere S) parts.out.items task (c.known.ensures.reached_in_order.tasks S c.requires.hall.reached).there c.requires.out in
    let content = subst (IsContent S task.shard task.vertex task.time) c.requires.content still.2 in
    let below = one_of_shards S task.shard task.vertex task.time c.known.ensures.bags_of_states.notifications parts.shards.items content.0 in
    let shard : c.task-task.result.now.shard ≡ task.shard = ap (λ (t : Task). t.shard) c.task-task.ensures in
    let roomier = as_many_mails parts.shards.items c.make_room.new.shards.items c.make_room.ensures.same.mails in
    let posted = as_many_waits c.make_room.new.shards.items c.post.new.shards.items c.post.ensures.messages.waiting in
    omega (arith, below, shard, roomier, posted)

pub returns-clause-ok : goal.returns-clause-ok
returns-clause-ok g c =
    let parts = c.args.parts.now in
    let task = c.args.done.now in
    let items = c.args.items.now in
    let recs = c.sent-sent.result.now in
    let os = c.outlets_for-outlets.result.now in
    let is = c.task-task.ensures in
    let still = of_one (StillThere (state_of parts)) parts.out.items task (c.known.ensures.reached_in_order.tasks (state_of parts) c.requires.hall.reached).there c.requires.out in
    let sends = c.known.ensures.sends_of_plan (state_of parts) task c.requires.hall.reached c.requires.out in
    let sent = c.sent-sent.ensures ∙ c.known.ensures.a_notification_sends task items c.requires.content in
    let outlets = c.outlets_for-outlets.ensures ∙ ap (λ v. outlets_for parts.routes v recs) (c.vertex.ensures ∙ ap (λ (t : Task). t.vertex) is) in
    let time : c.time.result.now ≡ task.time = c.time.ensures ∙ ap (λ (t : Task). t.time) is in
    let time_then : c.time-2.result.now ≡ task.time = c.time-2.ensures ∙ ap (λ (t : Task). t.time) is in
    let posted = roomier_then_posted (on_each os c.time-2.result.now recs) parts.shards.items c.make_room.new.shards.items c.post.new.shards.items c.make_room.ensures.same c.post.ensures.messages in
    let keys = (λ i. left_for (is i).time.epoch (is i).vertex items (c.states.ensures i)) ∙ sym (c.known.ensures.a_notification_leaves task task.time.epoch task.vertex items c.requires.content) in
    let left = c.in_ok-add_all_and_leave.ensures.left ∙ ap (λ l. join left_cmp l parts.versions) (c.as_slice-2.ensures.value ∙ (c.in_ok-left.ensures ∙ keys)) in
    record {
      fields = λ i. record parts { table = c.add_all_and_leave.new.table; shards = c.take_waiting.new.shards; versions = left i };
      plan = c.in_ok-add_all_and_leave.ensures.plan;
      stamps = λ p.
          let added = c.in_ok-add_all_and_leave.ensures.added p in
          let changes = ap (occurrences p) (ap occurring c.as_slice.ensures.value ∙ (c.in_ok-changes.ensures.occurring ∙ ap (λ (t : Timestamp). stamps_on os t (length recs)) time)) in
          let come = come_is g.L.Law.answers parts task items recs os c.requires.hall.routes still.0 sends sent outlets c.known.ensures.in_parts.stamps p in
          let one = c.known.ensures.counted.append p (occurring c.as_slice.result.now) parts.table.stamps in
          let two = c.known.ensures.counted.append p (come_given g.L.Law.answers (state_of parts) task (notification items)) parts.table.stamps in
          omega (arith, added, changes, come, one, two);
      mails = c.take_waiting.ensures.mails ∙ (posted.mails ∙ ap (λ l. mails_with l parts.shards.items) (ap (λ (t : Timestamp). on_each os t recs) time_then
          ∙ mail_is g.L.Law.answers parts task items recs os c.requires.hall.routes still.0 sends sent outlets));
      waits = c.take_waiting.ensures.waits ∙ (ap (λ (t : Task). map (waiting_without t) (enumerate_from 0 c.post.new.shards.items)) is
          ∙ same_without task 0 parts.shards.items c.post.new.shards.items posted.waiting);
    }
