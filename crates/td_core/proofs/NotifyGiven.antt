-- A hall to which a notification was given back is a hall still.
use Rattle.std.proofs.Common.{◌≡◌, ◌≤◌, List, ◌++◌, length, sym, ap, ◌∙◌, subst}
use Rattle.std.specs.List.{AllByRecursion, Contains, enumerate_from}
use Rattle.td_calls.specs.Answers.{Answers}
use Rattle.td_reach.specs.declared.stamp.Stamp.{Stamp}
use Rattle.td_progress.specs.Bag.{occurrences, IsSameBag}
use Rattle.td_machine.specs.State.{Task, KeyItems}
use Rattle.td_machine.specs.State.Content.{notification}
use Rattle.td_machine.specs.InOrder.{OneAShard}
use Rattle.td_machine.specs.Moves.{come_given, gone_given}
use Rattle.td_machine.specs.Steps.{effect, is_given, posts, stamped, notified_sends}
use Rattle.td_core.specs.declared.hall.Parts.{Parts}
use Rattle.td_core.specs.Parts.{state_of, IsHall, IsShard}
use Rattle.td_core.specs.Given.{IsNotified, IsEnded}
use Rattle.td_core.proofs.DeliverSteps.{DeliverLaws}
use Rattle.td_core.proofs.GiveSteps as give
use Rattle.td_core.proofs.NotifySteps.{NotifyLaws}
use Rattle.td_core.proofs.NotifySteps as notify
use Rattle.td_core.proofs.PostSteps.{mails_bag}
use Rattle.td_core.proofs.ShardParts.{waiting_of, still_shards}

module _ (answers : Answers) (laws : DeliverLaws answers) (waits : NotifyLaws) (old mid : Parts) (task : Task) (items : List KeyItems) (content : task.content ≡ notification items)
    (there : Contains old.out.items task) (inv : IsHall answers old) (notified : IsNotified answers task items old mid) where
  once : OneAShard old.out.items
  once = (laws.tasks (state_of old) inv.reached).one_a_shard

  come : IsSameBag mid.table.stamps (come_given answers (state_of old) task task.content ++ old.table.stamps)
  come p = notified.stamps p ∙ ap (λ c. occurrences p (come_given answers (state_of old) task c ++ old.table.stamps)) (sym content)

  -- what it took up is active, so that it may be taken off
  pub enough : (p : Stamp) → occurrences p (gone_given (state_of mid) task task.content) ≤ occurrences p mid.table.stamps
  enough = give.enough answers laws.step laws.moves laws.append old task there inv mid notified.plan come

  many : length mid.shards.items ≡ length old.shards.items
  many = give.as_many_posted (posts old.table.plan (stamped task.vertex task.time (notified_sends answers task.kind items))) old.shards.items mid.shards.items notified.mails

  module _ (end : Parts) (ended : IsEnded task mid end) where
    -- THE STEP
    pub stepped : state_of end ≡ is_given (effect answers (state_of old) task task.content) task
    stepped =
        notify.stepped answers waits old mid end task items content there once (waiting_of (length old.shards.items) 0 old.shards.items inv.shards) notified
        (mails_bag waits.messages (posts old.table.plan (stamped task.vertex task.time (notified_sends answers task.kind items))) old.shards.items mid.shards.items
        (laws.numbers (state_of old) inv.reached).workers notified.mails)
        many ended

    shards_are : end.shards ≡ mid.shards
    shards_are = ap (λ (f : Parts). f.shards) ended.fields

    shards_still : AllByRecursion (IsShard (length mid.shards.items)) (enumerate_from 0 mid.shards.items)
    shards_still =
        still_shards (posts old.table.plan (stamped task.vertex task.time (notified_sends answers task.kind items))) old.shards.items mid.shards.items notified.mails many inv.shards
        (notify.still answers waits old mid end task items content there once (waiting_of (length old.shards.items) 0 old.shards.items inv.shards) notified)

    -- the hall is one still
    pub kept : IsHall answers end
    kept =
        give.given_hall answers laws.step laws.moves laws.append old task there inv mid notified.plan come end ended.stamps stepped
        (ap (λ (f : Parts). f.inputs.items) ended.fields ∙ ap (λ (f : Parts). f.inputs.items) notified.fields)
        (ended.plan ∙ notified.plan)
        (ap (λ (f : Parts). f.routes) ended.fields ∙ ap (λ (f : Parts). f.routes) notified.fields)
        (ap (λ (f : Parts). f.next) ended.fields ∙ ap (λ (f : Parts). f.next) notified.fields)
        (ap (λ s. length s.items) shards_are ∙ many)
        (subst (λ s. AllByRecursion (IsShard (length s.items)) (enumerate_from 0 s.items)) (sym shards_are) shards_still)
