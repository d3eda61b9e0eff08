-- A hall that is given the records of a task takes the machine's step.
use Rattle.std.proofs.Common.{◌≡◌, ℕ, ◌+◌, ◌<◌, ◌≤◌, Bool, true, false, List, [], ◌∷◌, ◌++◌, map, flat_map, length, refl, ap, sym, ◌∙◌, subst, arith}
use Rattle.std.specs.List.{AllByRecursion, Contains, enumerate_from}
use Rattle.std.specs.FinMap.{IsAntisymmetric}
use Rattle.std.proofs.lemmas.List.{length-map}
use Rattle.std.proofs.lemmas.List.FromFn.{length-enumerate_from}
use Rattle.td_stamp.specs.declared.values.Rec.{Rec}
use Rattle.td_stamp.specs.declared.values.Arrival.{Arrival}
use Rattle.td_stamp.specs.Bag.{bag_of, set_of, join, set_insert}
use Rattle.td_stamp.specs.BagLaws.{BagLaws, SetLaws}
use Rattle.td_stamp.specs.Groups.{arrival_of}
use Rattle.td_stamp.specs.Time.{Timestamp, time_cmp}
use Rattle.td_plan.specs.declared.vertex.Kind.{Kind}
use Rattle.td_plan.specs.declared.vertex.Kind.TheVariants.{Input, Map, Distinct, Group, Fold, Enter, Feedback, Leave, Output}
use Rattle.td_calls.specs.Answers.{Answers}
use Rattle.td_calls.specs.Callbacks.{Added, is_notified}
use Rattle.td_reach.specs.declared.stamp.Stamp.{Stamp}
use Rattle.td_progress.specs.Bag.{occurrences, is_stamp, IsSameBag}
use Rattle.td_machine.specs.declared.records.Message.{Message}
use Rattle.td_machine.specs.declared.records.Notification.{Notification}
use Rattle.td_machine.specs.declared.records.Stamped.{Stamped}
use Rattle.td_machine.specs.State.{HallState, Task, message_cmp, stamped_cmp, notification_cmp, output_at_cmp, shard_of_key, asked_of}
use Rattle.td_machine.specs.State.Content.{messages}
use Rattle.td_machine.specs.Active.{active, inputs_of}
use Rattle.td_machine.specs.Steps.{effect, is_given, coming, posts, stamped, comes_out, waiting, with_asked, IsContent}
use Rattle.td_machine.specs.Steps.Event.{give}
use Rattle.td_machine.specs.Steps.Answer.{has_given}
use Rattle.td_machine.specs.Steps.Gives.{gives}
use Rattle.td_machine.specs.AtOnce.{DeliveredAtOnce, added_at_once, at_once}
use Rattle.td_machine.specs.ByEdge.{OutputsAtOnce, AsksOnce}
use Rattle.td_machine.specs.InOrder.{TasksInOrder, NumbersInOrder, StillThere}
use Rattle.td_machine.specs.Moves.{StampsMove, Moves, come_given, gone_given, stamps_of}
use Rattle.td_machine.specs.Reached.{IsReached}
use Rattle.td_core.specs.declared.hall.Parts.{Parts}
use Rattle.td_core.specs.Parts.{state_of, IsHall, taken_up, with_tasks, in_mailboxes, waiting_in, asked_in}
use Rattle.td_core.specs.Routes.{IsRoutes}
use Rattle.td_core.specs.Posted.{waits}
use Rattle.td_core.specs.Given.{IsEnded}
use Rattle.td_core.specs.Delivered.{IsDelivered, added_by, waiting_with}
use Rattle.td_core.proofs.CollectSteps.{ReachedByStep}
use Rattle.td_core.proofs.CloseSteps.{CountsAppend}
use Rattle.td_core.proofs.PostSteps.{mails_bag}
use Rattle.td_core.proofs.OutTasks.{of_one, others, parted}
use Rattle.td_core.proofs.Waits.{waiting_all}
use Rattle.td_core.proofs.WaitsAsked.{asks}
use Rattle.td_core.proofs.WaitsAll.{waiting_by_lists, asked_by_lists, asked_all, same_waits, more_in_all, asked_then, still_waiting, more, IsWaiting}
use Rattle.td_core.proofs.ShardParts.{waiting_of, still_shards}

-- what laws of the crates below say
pub record DeliverLaws (answers : Answers) : Type 0 where
  pub messages : BagLaws message_cmp
  pub notifications : SetLaws notification_cmp
  pub times : IsAntisymmetric time_cmp
  pub at_once : DeliveredAtOnce answers
  pub outputs : OutputsAtOnce
  pub asks : AsksOnce
  pub tasks : (S : HallState) → IsReached answers S → TasksInOrder S
  pub numbers : (S : HallState) → IsReached answers S → NumbersInOrder S
  pub step : ReachedByStep answers
  pub moves : StampsMove answers
  pub append : CountsAppend

-- what waits of a task's records, where they wait
abbrev waiting_if : Bool → ℕ → List Rec → List Arrival
waiting_if true port recs = map (arrival_of port) recs
waiting_if false port recs = []

buffered_by : (answers : Answers) (seen : List Stamped) (kind : Kind) (v port : ℕ) (t : Timestamp) (recs : List Rec)
    → (added_at_once answers seen kind v port t recs).buffered ≡ waiting_if (is_notified kind) port recs
buffered_by answers seen Input v port t recs = refl
buffered_by answers seen (Map code) v port t recs = refl
buffered_by answers seen Distinct v port t recs = refl
buffered_by answers seen (Group code) v port t recs = refl
buffered_by answers seen (Fold code) v port t recs = refl
buffered_by answers seen Enter v port t recs = refl
buffered_by answers seen Feedback v port t recs = refl
buffered_by answers seen Leave v port t recs = refl
buffered_by answers seen Output v port t recs = refl

module _ (answers : Answers) (laws : DeliverLaws answers) (old mid : Parts) (task : Task) (port : ℕ) (recs : List Rec)
    (content : task.content ≡ messages port recs) (inv : IsHall answers old) (out : Contains old.out.items task)
    (delivered : IsDelivered answers task port recs old mid) where
  abbrev S : HallState
  S = state_of old

  abbrev v : ℕ
  v = task.vertex

  abbrev t : Timestamp
  t = task.time

  abbrev added : Added
  added = added_by answers old task port recs

  -- the state after the step
  abbrev after : HallState
  after = is_given (effect answers S task task.content) task

  still : IsContent S task.shard v t (messages port recs)
  still = subst (IsContent S task.shard v t) content (of_one (StillThere S) S.out task (laws.tasks S inv.reached).there out).2

  some_workers : 1 ≤ length old.shards.items
  some_workers = (laws.numbers S inv.reached).workers

  -- the task's shard is one
  shard_there : task.shard < length old.shards.items
  shard_there = by recs still.0 still.2
    where
      by : (rs : List Rec) → 0 < length rs → AllByRecursion (λ r. shard_of_key (length old.shards.items) r.key ≡ task.shard) rs → task.shard < length old.shards.items
      by [] l h = absurd (omega (arith, l))
      by (r ∷ rs) l h = let mine = h.0 in omega (arith, mine, some_workers)

  same_many : length mid.shards.items ≡ length old.shards.items
  same_many =
      sym (length-map mid.shards.items (λ s. s.waiting))
      ∙ (ap length delivered.waits ∙ (length-map (enumerate_from 0 old.shards.items) (waiting_with task port recs) ∙ length-enumerate_from 0 old.shards.items))

  -- MESSAGES
  abbrev left : List Message
  left = bag_of message_cmp (in_mailboxes old.shards.items ++ with_tasks (others task old.out.items))

  taken : S.messages ≡ join message_cmp (coming v port t recs) left
  taken =
      parted task laws.messages (in_mailboxes old.shards.items) old.out.items (laws.tasks S inv.reached).one_a_shard out
      ∙ ap (λ c. join message_cmp (taken_up v t c) left) content

  effect_is : effect answers S task task.content ≡ at_once answers S task.kind v port t recs left
  effect_is = ap (effect answers S task) content ∙ laws.at_once S task.kind v port t recs left taken

  posted_then : bag_of message_cmp (in_mailboxes mid.shards.items ++ with_tasks (others task old.out.items)) ≡ join message_cmp (posts old.table.plan (stamped v t added.sent)) left
  posted_then = mails_bag laws.messages (posts old.table.plan (stamped v t added.sent)) old.shards.items mid.shards.items some_workers delivered.mails (with_tasks (others task old.out.items))

  -- WHAT WAITS
  buffered_if : (b : Bool) → is_notified task.kind ≡ b → bag_of message_cmp (flat_map waiting_in mid.shards.items) ≡ join message_cmp (map (waiting v t) (waiting_if b port recs)) S.buffered
  buffered_if true e =
      ap (λ l. join message_cmp l []) (waiting_by_lists mid.shards.items ∙ ap (flat_map waiting_all) delivered.waits)
      ∙ (more_in_all task port recs e laws.times laws.messages 0 old.shards.items [] (omega arith) (omega (arith, shard_there))
      ∙ ap (λ l. join message_cmp (map (waiting v t) (more task port recs)) (bag_of message_cmp l)) (sym (waiting_by_lists old.shards.items)))
  buffered_if false e =
      ap (λ l. join message_cmp l []) (waiting_by_lists mid.shards.items ∙ (ap (flat_map waiting_all) (delivered.waits ∙ same_waits task port recs e 0 old.shards.items) ∙ sym (waiting_by_lists old.shards.items)))

  buffered_then : bag_of message_cmp (flat_map waiting_in mid.shards.items) ≡ join message_cmp (map (waiting v t) added.buffered) S.buffered
  buffered_then = buffered_if (is_notified task.kind) refl ∙ ap (λ l. join message_cmp (map (waiting v t) l) S.buffered) (sym (buffered_by answers S.seen task.kind v port t recs))

  -- WHAT IS ASKED FOR
  abbrev ask : Arrival → Notification
  ask a = asked_of S.workers (waiting v t a)

  asked_if : (b : Bool) → is_notified task.kind ≡ b → set_of notification_cmp (flat_map asked_in (enumerate_from 0 mid.shards.items)) ≡ with_asked (map ask (waiting_if b port recs)) S.asked
  asked_if true e =
      ap (set_of notification_cmp) (asked_by_lists 0 mid.shards.items ∙ ap (asked_all 0) delivered.waits)
      ∙ (asked_then task port recs e laws.notifications old.shards.items shard_there
      ∙ (ap (λ l. set_insert notification_cmp (asks task.shard v t) (set_of notification_cmp l)) (sym (asked_by_lists 0 old.shards.items))
      ∙ sym (laws.asks S task.shard v port t recs still.0 still.2)))
  asked_if false e =
      ap (set_of notification_cmp) (asked_by_lists 0 mid.shards.items ∙ (ap (asked_all 0) (delivered.waits ∙ same_waits task port recs e 0 old.shards.items) ∙ sym (asked_by_lists 0 old.shards.items)))

  asked_is : set_of notification_cmp (flat_map asked_in (enumerate_from 0 mid.shards.items)) ≡ with_asked (map ask added.buffered) S.asked
  asked_is = asked_if (is_notified task.kind) refl ∙ ap (λ l. with_asked (map ask l) S.asked) (sym (buffered_by answers S.seen task.kind v port t recs))

  -- POINTSTAMPS: what comes with the step is in the table now
  came : (p : Stamp) → occurrences p mid.table.stamps ≡ occurrences p (come_given answers S task task.content) + occurrences p (active S)
  came p =
      delivered.stamps p ∙ (laws.append p (come_given answers S task (messages port recs)) old.table.stamps
      ∙ (λ i. occurrences p (come_given answers S task (sym content i)) + inv.counted p i))

  moved : Moves S after (come_given answers S task task.content) (gone_given S task task.content)
  moved = laws.moves S after (give task) has_given inv.reached (gives out)

  -- and what goes with it too, so that it may be taken off
  gone_is : gone_given (state_of mid) task task.content ≡ gone_given S task task.content
  gone_is = ap (gone_given (state_of mid) task) content ∙ (ap (λ plan. stamps_of plan (coming v port t recs)) delivered.plan ∙ sym (ap (gone_given S task) content))

  both : (p : Stamp) → occurrences p mid.table.stamps ≡ occurrences p (gone_given (state_of mid) task task.content) + occurrences p (active after)
  both p =
      came p ∙ (sym (laws.append p (come_given answers S task task.content) (active S)) ∙ (moved (is_stamp p) ∙ (laws.append p (gone_given S task task.content) (active after)
      ∙ ap (λ l. occurrences p l + occurrences p (active after)) (sym gone_is))))

  pub enough : (p : Stamp) → occurrences p (gone_given (state_of mid) task task.content) ≤ occurrences p mid.table.stamps
  enough p = let fields = both p in omega (arith, fields)

  module _ (end : Parts) (ended : IsEnded task mid end) where
    abbrev final : Parts
    final = record old { table = end.table; shards = mid.shards; seen = mid.seen; outputs = mid.outputs; out = end.out; given = old.given + 1 }

    end_is : end ≡ final
    end_is =
        ended.fields ∙ (λ i. record (delivered.fields i) { table = end.table; shards = mid.shards; seen = mid.seen; outputs = mid.outputs; out = end.out; given = (delivered.fields i).given + 1 })

    left_out : end.out.items ≡ others task old.out.items
    left_out = ended.out ∙ ap (λ (f : Parts). others task f.out.items) delivered.fields

    seen_is : mid.seen ≡ join stamped_cmp (stamped v t added.seen) old.seen
    seen_is = ap (λ (f : Parts). f.seen) delivered.fields

    outputs_is : mid.outputs ≡ join output_at_cmp (flat_map (comes_out task.kind) (coming v port t recs)) old.outputs
    outputs_is = ap (λ (f : Parts). f.outputs) delivered.fields ∙ ap (λ l. join output_at_cmp l old.outputs) (sym (laws.outputs task.kind v port t recs))

    plan_is : end.table.plan ≡ old.table.plan
    plan_is = ended.plan ∙ delivered.plan

    messages_is : bag_of message_cmp (in_mailboxes mid.shards.items ++ with_tasks end.out.items) ≡ join message_cmp (posts old.table.plan (stamped v t added.sent)) left
    messages_is = ap (λ l. bag_of message_cmp (in_mailboxes mid.shards.items ++ with_tasks l)) left_out ∙ posted_then

    -- THE STEP
    pub stepped : state_of end ≡ after
    stepped =
        ap state_of end_is
        ∙ ((λ i. record S {
          plan = plan_is i;
          workers = same_many i;
          messages = messages_is i;
          buffered = buffered_then i;
          seen = seen_is i;
          asked = asked_is i;
          out = left_out i;
          outputs = outputs_is i;
          given = old.given + 1;
        })
        ∙ sym (ap (λ T. is_given T task) effect_is))

    still_counted : IsSameBag end.table.stamps (active after)
    still_counted p =
        let fields = both p in
        let off = ended.stamps p ∙ laws.append p (gone_given (state_of mid) task task.content) end.table.stamps in
        omega (arith, fields, off)

    own_items : AllByRecursion (λ a. shard_of_key (length old.shards.items) a.key ≡ task.shard) (more task port recs)
    own_items = by recs still.2
      where
        by : (rs : List Rec) → AllByRecursion (λ r. shard_of_key (length old.shards.items) r.key ≡ task.shard) rs
            → AllByRecursion (λ a. shard_of_key (length old.shards.items) a.key ≡ task.shard) (map (arrival_of port) rs)
        by [] h = tt
        by (r ∷ rs) h = (h.0, by rs h.1)

    still_waits : AllByRecursion (IsWaiting (length old.shards.items)) (enumerate_from 0 (waits mid.shards.items))
    still_waits =
        subst (λ lists. AllByRecursion (IsWaiting (length old.shards.items)) (enumerate_from 0 lists)) (sym delivered.waits)
        (still_waiting task port recs (length old.shards.items) own_items 0 old.shards.items (waiting_of (length old.shards.items) 0 old.shards.items inv.shards))

    -- the hall is one still
    final_hall : state_of end ≡ state_of final → IsHall answers final
    final_hall same = record {
      reached = subst (IsReached answers) (sym stepped ∙ same) (laws.step S after (give task) has_given inv.reached (gives out));
      counted = subst (λ T. IsSameBag end.table.stamps (active T)) (sym stepped ∙ same) still_counted;
      routes = subst (λ plan. IsRoutes plan old.routes) (sym plan_is) inv.routes;
      inputs = inv.inputs ∙ ap inputs_of (sym plan_is);
      shards = still_shards (posts old.table.plan (stamped v t added.sent)) old.shards.items mid.shards.items delivered.mails same_many inv.shards still_waits;
      few = subst (λ n. n ≤ 16) (sym same_many) inv.few;
      next = inv.next;
    }

    pub kept : IsHall answers end
    kept = subst (IsHall answers) (sym end_is) (final_hall (ap state_of end_is))
