-- A hall that is given a notification back takes the machine's step.
use Rattle.std.proofs.Common.{◌≡◌, ℕ, ◌+◌, ◌==◌, Bool, true, false, not, ◌&&◌, cond, List, [], ◌∷◌, ◌++◌, map, flat_map, filter, length, refl, ap, sym, ◌∙◌, subst}
use Rattle.std.specs.List.{AllByRecursion, Contains, enumerate_from}
use Rattle.std.specs.Map.{keys_of}
use Rattle.std.specs.Ordering.{is_eq}
use Rattle.std.proofs.lemmas.List.Concat.{flat_map_single}
use Rattle.std.proofs.lemmas.List.Elements.{filter-append}
use Rattle.std.proofs.lemmas.List.Kept.{IsStrictlySortedBy-filter}
use Rattle.std.specs.List.Sorted.{IsStrictlySortedBy}
use Rattle.td_stamp.specs.declared.values.Arrival.{Arrival}
use Rattle.td_stamp.specs.Bag.{bag_of, set_of, join}
use Rattle.td_stamp.specs.BagLaws.{BagLaws}
use Rattle.td_calls.specs.Answers.{Answers}
use Rattle.td_machine.specs.declared.records.Message.{Message}
use Rattle.td_machine.specs.declared.records.Notification.{Notification}
use Rattle.td_machine.specs.State.{HallState, Task, KeyItems, message_cmp, notification_cmp, left_cmp, shard_of_key}
use Rattle.td_machine.specs.State.Content.{notification}
use Rattle.td_machine.specs.InOrder.{OneAShard}
use Rattle.td_machine.specs.Steps.{effect, is_given, asked_at, is_for, waiting, posts, stamped, leaves, notified_sends}
use Rattle.td_machine.specs.Waits.{WaitsByPlace, AskedPassing}
use Rattle.td_shard.specs.declared.waiting.Noted.{Noted}
use Rattle.td_shard.specs.declared.shard.Shard.{Shard}
use Rattle.td_shard.specs.Asked.{AskedList, noted_cmp, noted_at, without_items}
use Rattle.td_core.specs.declared.hall.Parts.{Parts}
use Rattle.td_core.specs.Parts.{state_of, in_mailboxes, taken_up, with_tasks, waiting_at, waiting_in, asked_of_shard, asked_in}
use Rattle.td_core.specs.Posted.{waits}
use Rattle.td_core.specs.Given.{IsNotified, IsEnded, waiting_without}
use Rattle.td_core.proofs.NotifyLists.{Waits, here, there_is, asked_is, removed, passes, alike, weaker, still_all, keys_filtered}
use Rattle.td_core.proofs.OutTasks.{parted}
use Rattle.td_core.proofs.WaitsAll.{waiting_by_lists, asked_by_lists, IsWaiting}

-- WHAT WAITS in a shard without the task's notification
module _ (task : Task) where
  abbrev at_task : Noted → Bool
  at_task = here task.vertex task.time

  abbrev other_than : Waits → Bool
  other_than w = not (at_task w.0)

  -- by cases of whether it is the task's shard
  abbrev left_in : ℕ × AskedList → AskedList
  left_in p = cond (p.0 == task.shard) (filter other_than p.1) p.1

  is_left : (workers n : ℕ) (asked : AskedList) → IsWaiting workers (n, asked) → cond (n == task.shard) (without_items asked task.vertex task.time) asked ≡ left_in (n, asked)
  is_left workers n asked h = ap (λ l. cond (n == task.shard) l asked) (removed (noted_at task.vertex task.time) asked h.once)

  are_left : (workers n : ℕ) (shards : List Shard) → AllByRecursion (IsWaiting workers) (enumerate_from n (waits shards))
      → map (waiting_without task) (enumerate_from n shards) ≡ map left_in (enumerate_from n (waits shards))
  are_left workers n [] h = refl
  are_left workers n (s ∷ shards) h = λ i. is_left workers n s.waiting h.0 i ∷ are_left workers (n + 1) shards h.1 i

  -- of the rest what is true of all is true
  still_waiting : (workers : ℕ) (p : ℕ × AskedList) → IsWaiting workers p → IsWaiting workers (p.0, left_in p)
  still_waiting workers p h = by (p.0 == task.shard)
    where
      by : (b : Bool) → IsWaiting workers (p.0, cond b (filter other_than p.1) p.1)
      by true = record {
        items = still_all (λ w. AllByRecursion (λ a. shard_of_key workers a.key ≡ p.0) w.1) other_than p.1 h.items;
        once = subst (IsStrictlySortedBy noted_cmp) (sym (keys_filtered (λ k. not (at_task k)) p.1)) (IsStrictlySortedBy-filter noted_cmp (λ k. not (at_task k)) (keys_of p.1) h.once);
      }
      by false = record { items = h.items; once = h.once }

  pub all_still : (workers n : ℕ) (all : List AskedList) → AllByRecursion (IsWaiting workers) (enumerate_from n all)
      → AllByRecursion (IsWaiting workers) (enumerate_from n (map left_in (enumerate_from n all)))
  all_still workers n [] h = tt
  all_still workers n (w ∷ all) h = (still_waiting workers (n, w) h.0, all_still workers (n + 1) all h.1)

  -- THE ITEMS that wait for others, and the other notifications, are those of the rest
  module _ (S : HallState) (place : WaitsByPlace) where
    abbrev its : Notification
    its = asked_at S task.shard task.vertex task.time

    abbrev for_others : Message → Bool
    for_others c = not (is_for S its c)

    abbrev others_asked : Notification → Bool
    others_asked b = not (is_eq (notification_cmp its b))

    item_passes : (n : ℕ) (w : Waits) (a : Arrival) → shard_of_key S.workers a.key ≡ n
        → for_others (waiting w.0.vertex w.0.time a) ≡ not ((n == task.shard) && at_task w.0)
    item_passes n w a own =
        ap not (place S task.shard task.vertex task.time (waiting w.0.vertex w.0.time a)
        ∙ (λ i. (own i == task.shard) && there_is task.vertex task.time w.0 i))

    items_pass : (n : ℕ) (w : Waits) → AllByRecursion (λ a. shard_of_key S.workers a.key ≡ n) w.1
        → filter for_others (waiting_at w) ≡ cond (not ((n == task.shard) && at_task w.0)) (waiting_at w) []
    items_pass n w own = alike for_others (waiting w.0.vertex w.0.time) (not ((n == task.shard) && at_task w.0)) w.1 (weaker (λ a. item_passes n w a) w.1 own)

    items_of : (n : ℕ) (all : List AskedList) → AllByRecursion (IsWaiting S.workers) (enumerate_from n all)
        → filter for_others (flat_map (λ w. flat_map waiting_at w) all) ≡ flat_map (λ w. flat_map waiting_at w) (map left_in (enumerate_from n all))
    items_of n [] h = refl
    items_of n (w ∷ all) h =
        filter-append for_others (flat_map waiting_at w) (flat_map (λ v. flat_map waiting_at v) all)
        ∙ (λ i. passes for_others waiting_at at_task (n == task.shard) w (weaker (λ v. items_pass n v) w h.0.items) i ++ items_of (n + 1) all h.1 i)

    abbrev asked_here : ℕ → AskedList → List Notification
    asked_here n w = map (asked_of_shard n) w

    asked_passes : (n : ℕ) (w : Waits) → filter others_asked (asked_of_shard n w ∷ []) ≡ cond (not ((n == task.shard) && at_task w.0)) (asked_of_shard n w ∷ []) []
    asked_passes n w = ap (λ b. cond (not b) (asked_of_shard n w ∷ []) []) (asked_is task.vertex task.time S task.shard n w)

    all_asked_pass : (n : ℕ) (w : AskedList) → AllByRecursion (λ v. filter others_asked (asked_of_shard n v ∷ []) ≡ cond (not ((n == task.shard) && at_task v.0)) (asked_of_shard n v ∷ []) []) w
    all_asked_pass n [] = tt
    all_asked_pass n (v ∷ w) = (asked_passes n v, all_asked_pass n w)

    asked_left : (n : ℕ) (w : AskedList) → filter others_asked (asked_here n w) ≡ asked_here n (left_in (n, w))
    asked_left n w =
        ap (filter others_asked) (sym (flat_map_single (asked_of_shard n) w))
        ∙ (passes others_asked (λ v. asked_of_shard n v ∷ []) at_task (n == task.shard) w (all_asked_pass n w)
        ∙ flat_map_single (asked_of_shard n) (left_in (n, w)))

    asked_of : (n : ℕ) (all : List AskedList)
        → filter others_asked (flat_map (λ p. asked_here p.0 p.1) (enumerate_from n all)) ≡ flat_map (λ p. asked_here p.0 p.1) (enumerate_from n (map left_in (enumerate_from n all)))
    asked_of n [] = refl
    asked_of n (w ∷ all) =
        filter-append others_asked (asked_here n w) (flat_map (λ p. asked_here p.0 p.1) (enumerate_from (n + 1) all))
        ∙ (λ i. asked_left n w i ++ asked_of (n + 1) all i)

-- laws of the machine
pub record NotifyLaws : Type 0 where
  pub messages : BagLaws message_cmp
  pub place : WaitsByPlace
  pub asked : AskedPassing

-- A NOTIFICATION that was answered and is out no more
module _ (answers : Answers) (laws : NotifyLaws) (old mid end : Parts) (task : Task) (items : List KeyItems) (content : task.content ≡ notification items)
    (there : Contains old.out.items task) (once : OneAShard old.out.items) (waiting_are : AllByRecursion (IsWaiting (length old.shards.items)) (enumerate_from 0 (waits old.shards.items)))
    (notified : IsNotified answers task items old mid) where
  abbrev sent : List Message
  sent = posts old.table.plan (stamped task.vertex task.time (notified_sends answers task.kind items))

  abbrev olds : List Shard
  olds = old.shards.items

  abbrev mids : List Shard
  mids = mid.shards.items

  waits_mid : waits mids ≡ map (left_in task) (enumerate_from 0 (waits olds))
  waits_mid = notified.waits ∙ are_left task (length olds) 0 olds waiting_are

  pub still : AllByRecursion (IsWaiting (length olds)) (enumerate_from 0 (waits mids))
  still = subst (λ l. AllByRecursion (IsWaiting (length olds)) (enumerate_from 0 l)) (sym waits_mid) (all_still task (length olds) 0 (waits olds) waiting_are)

  buffered : bag_of message_cmp (flat_map waiting_in mids) ≡ filter (for_others task (state_of old) laws.place) (state_of old).buffered
  buffered = sym (
      laws.messages.filtered_join (for_others task (state_of old) laws.place) (flat_map waiting_in olds) [] refl
      ∙ ap (bag_of message_cmp) (ap (filter (for_others task (state_of old) laws.place)) (waiting_by_lists olds) ∙ (items_of task (state_of old) laws.place 0 (waits olds) waiting_are
      ∙ (ap (flat_map (λ w. flat_map waiting_at w)) (sym waits_mid) ∙ sym (waiting_by_lists mids)))))

  asked : set_of notification_cmp (flat_map asked_in (enumerate_from 0 mids)) ≡ filter (others_asked task (state_of old) laws.place) (state_of old).asked
  asked = sym (
      laws.asked (others_asked task (state_of old) laws.place) (flat_map asked_in (enumerate_from 0 olds))
      ∙ ap (set_of notification_cmp) (ap (filter (others_asked task (state_of old) laws.place)) (asked_by_lists 0 olds) ∙ (asked_of task (state_of old) laws.place 0 (waits olds)
      ∙ (ap (λ l. flat_map (λ p. map (asked_of_shard p.0) p.1) (enumerate_from 0 l)) (sym waits_mid) ∙ sym (asked_by_lists 0 mids)))))

  module _ (posted : (xs : List Message) → bag_of message_cmp (in_mailboxes mids ++ xs) ≡ join message_cmp sent (bag_of message_cmp (in_mailboxes olds ++ xs)))
      (many : length mids ≡ length olds) (ended : IsEnded task mid end) where
    abbrev left_out : List Task
    left_out = filter (λ t. not (t.shard == task.shard)) old.out.items

    out : end.out.items ≡ left_out
    out = ended.out ∙ ap (λ (f : Parts). filter (λ t. not (t.shard == task.shard)) f.out.items) notified.fields

    messages : bag_of message_cmp (in_mailboxes mids ++ with_tasks end.out.items) ≡ join message_cmp sent (bag_of message_cmp (in_mailboxes olds ++ with_tasks old.out.items))
    messages =
        posted (with_tasks end.out.items)
        ∙ ap (join message_cmp sent) (ap (λ l. bag_of message_cmp (in_mailboxes olds ++ with_tasks l)) out
        ∙ sym (parted task laws.messages (in_mailboxes olds) old.out.items once there
        ∙ ap (λ c. join message_cmp (taken_up task.vertex task.time c) (bag_of message_cmp (in_mailboxes olds ++ with_tasks left_out))) content))

    abbrev whole : Parts
    whole = record old {
      table = end.table;
      shards = mid.shards;
      versions = join left_cmp (leaves answers task.kind task.time.epoch task.vertex items) old.versions;
      out = end.out;
      given = old.given + 1;
    }

    pub fields : end ≡ whole
    fields = ended.fields ∙ (λ i. record (notified.fields i) { table = end.table; out = end.out; given = (notified.fields i).given + 1 })

    pub plan : end.table.plan ≡ old.table.plan
    plan = ended.plan ∙ notified.plan

    -- the step
    pub stepped : state_of end ≡ is_given (effect answers (state_of old) task task.content) task
    stepped =
        ap state_of fields
        ∙ ((λ i. record (state_of old) {
          plan = plan i;
          workers = many i;
          messages = messages i;
          buffered = buffered i;
          left = join left_cmp (leaves answers task.kind task.time.epoch task.vertex items) old.versions;
          asked = asked i;
          out = out i;
          given = old.given + 1;
        })
        ∙ ap (λ c. is_given (effect answers (state_of old) task c) task) (sym content))
