-- What the calls of a hall know for the prover alone: of the states that plays reach, of bags, of counts and of orders.
use Rattle.std.specs.Cmp.{IsTotalOrder}
use Rattle.std.specs.FinMap.{IsAntisymmetric}
use Rattle.std.specs.List.{AllByRecursion, slice_get, flat_map}
use Rattle.std.specs.Ordering.{is_le}
use Rattle.std.specs.Prelude.{◌≤◌, ℕ, List, ◌≡◌, true, ◌+◌, ◌++◌, Some, length, ◌<◌, ◌↔◌, Contains, ◌⊎◌}
use Rattle.td_calls.specs.Answers.{Answers}
use Rattle.td_calls.specs.Callbacks.{is_notified, Kept, on_arrival}
use Rattle.td_machine.specs.Active.{active, kind_of}
use Rattle.td_machine.specs.AtOnce.{DeliveredAtOnce}
use Rattle.td_machine.specs.ByEdge.{PostsByEdge, StampsByEdge, BatchByEdge, BatchStampsByEdge, StampsOfTask, OutputsAtOnce, AsksOnce}
use Rattle.td_machine.specs.Exact.{ExactWorkDrained}
use Rattle.td_machine.specs.InOrder.{ListsInOrder, TasksInOrder, NumbersInOrder}
use Rattle.td_machine.specs.Moves.{StampsMove}
use Rattle.td_machine.specs.NoneLeft.{NoneToTake, FirstUnpassed}
use Rattle.td_machine.specs.Reached.{IsReached}
use Rattle.td_machine.specs.Sends.{TasksOfPlan, TurnsOfPlan, SentOfPlan, ComeOfPlan}
use Rattle.td_machine.specs.Sound.{Sound, batches_of, NeverStuck}
use Rattle.td_machine.specs.State.{HallState, message_cmp, stamped_cmp, left_cmp, output_at_cmp, notification_cmp, Content, Task as AnyTask, KeyItems as AnyKey}
use Rattle.td_machine.specs.State.Content.{messages, notification}
use Rattle.td_machine.specs.Steps.{Event, Answer, Step, opened, Plays, notified_sends, leaves, task_size}
use Rattle.td_machine.specs.Tally.{tally}
use Rattle.td_machine.specs.Waits.{WaitsByPlace, WhatWaits, AskedPassing}
use Rattle.td_machine.specs.declared.records.Message.{Message as AnyMessage}
use Rattle.td_plan.specs.Blocks.{PlacedVertex, vertices}
use Rattle.td_plan.specs.Faults.{IsPlan}
use Rattle.td_plan.specs.Lines.{Line}
use Rattle.td_plan.specs.LookedUp.{IsLookedUp, IsSourceAt, IsEdgeAt}
use Rattle.td_plan.specs.declared.vertex.Kind.TheVariants.{Map}
use Rattle.td_progress.specs.Bag.{is_stamp, occurrences, IsSameBag}
use Rattle.td_reach.specs.Frontier.{Frontier, has_passed}
use Rattle.td_reach.specs.Paths.{IsOf}
use Rattle.td_reach.specs.declared.stamp.Stamp.{Stamp as AnyStamp}
use Rattle.td_shard.specs.Messages.{IsBeside, task_at, left_at}
use Rattle.td_stamp.specs.Bag.{bag_of}
use Rattle.td_stamp.specs.BagLaws.{BagLaws, SetLaws}
use Rattle.td_stamp.specs.Groups.{arrival_of}
use Rattle.td_stamp.specs.States.{StateList, AreStates}
use Rattle.td_stamp.specs.Time.{Timestamp, depth, time_cmp, IsAtMost}
use Rattle.td_stamp.specs.declared.values.Rec.{Rec as AnyRec}
use Rattle.td_task.specs.Answered.{answers_of, states_for, left_for, answer_count, state_count}

-- that a state which plays reach is one after each step, too
pub record ReachedLaw (law : Answers) : Type 0 where
  pub opened : (plan : List Line) (states : StateList) (first workers : ℕ) → IsPlan plan → AreStates states → 1 ≤ first → 1 ≤ workers → IsReached law (opened plan states first workers)
  pub step : (S T : HallState) (event : Event) (answer : Answer) → IsReached law S → Step law S event answer T → IsReached law T
  pub sound : (S : HallState) → IsReached law S → Sound law S

-- that its lists, tasks and numbers are in order
pub record ReachedInOrderLaw (law : Answers) : Type 0 where
  pub lists : (S : HallState) → IsReached law S → ListsInOrder S
  pub tasks : (S : HallState) → IsReached law S → TasksInOrder S
  pub numbers : (S : HallState) → IsReached law S → NumbersInOrder S

-- that its lists are bags
pub record BagsOfStatesLaw : Type 0 where
  pub messages : BagLaws message_cmp
  pub stamped : BagLaws stamped_cmp
  pub left : BagLaws left_cmp
  pub outputs : BagLaws output_at_cmp
  pub notifications : SetLaws notification_cmp

-- where there is nothing to take
pub record NoneLeftLaw : Type 0 where
  pub task : NoneToTake
  pub epoch : FirstUnpassed

-- what waits for a notification
pub record WhatWaitsLaw : Type 0 where
  pub place : WaitsByPlace
  pub items : WhatWaits
  pub asked : AskedPassing

-- that what is done edge by edge is done at once
pub record InPartsLaw : Type 0 where
  pub posts : PostsByEdge
  pub stamps : StampsByEdge
  pub batch : BatchByEdge
  pub batch_stamps : BatchStampsByEdge
  pub own_stamps : StampsOfTask
  pub outputs : OutputsAtOnce
  pub asked : AsksOnce

-- that plays join
pub record PlaysJoinLaw (law : Answers) : Type 0 where
  pub joined : (S T U : HallState) (events more : List Event) (replies others : List Answer) → Plays law S events replies T → Plays law T more others U → Plays law S (events ++ more) (replies ++ others) U
  pub released : (S T : HallState) (events more : List Event) (replies others : List Answer) → Plays law S events replies T → batches_of (events ++ more) (replies ++ others) ≡ batches_of events replies ++ batches_of more others
  pub given : (count : Content → ℕ) (S T : HallState) (events more : List Event) (replies others : List Answer) → Plays law S events replies T → tally count (events ++ more) (replies ++ others) ≡ tally count events replies + tally count more others

-- that what is looked up of a plan is right
pub record LookUpsLaw : Type 0 where
  pub vertices : (plan : List Line) (v : ℕ) (p : PlacedVertex) → IsPlan plan → slice_get (vertices plan) v ≡ Some p → IsLookedUp plan v p
  pub edges : (plan : List Line) (reader port source : ℕ) → IsPlan plan → IsSourceAt plan reader port source → IsEdgeAt plan reader port source

-- how many answers a task has
pub record CountsLaw (law : Answers) : Type 0 where
  pub answers : (task : AnyTask) → length (answers_of law task) ≡ answer_count task.kind task.content
  pub states : (task : AnyTask) → length (states_for law task) ≡ state_count task.kind task.content

-- how pointstamps are counted
pub record CountedLaw : Type 0 where
  pub same : (p q : AnyStamp) → (is_stamp p q ≡ true) ↔ (p ≡ q)
  pub append : (p : AnyStamp) (xs ys : List AnyStamp) → occurrences p (xs ++ ys) ≡ occurrences p xs + occurrences p ys
  pub contains : (p : AnyStamp) (xs : List AnyStamp) → Contains xs p ↔ (0 < occurrences p xs)

-- that their order does not matter
pub record InAnyOrderLaw : Type 0 where
  pub frontier : (plan : List Line) (xs ys : List AnyStamp) (p : AnyStamp) → IsSameBag xs ys → Frontier plan xs p → Frontier plan ys p
  pub passed : (xs ys : List AnyStamp) (epoch : ℕ) → IsSameBag xs ys → has_passed xs epoch ≡ has_passed ys epoch

-- what of a mailbox is a task
pub record TasksLaw : Type 0 where
  pub parted : (ms : List AnyMessage) (pick : ℕ) → pick < length ms → bag_of message_cmp (task_at pick ms ++ left_at pick ms) ≡ bag_of message_cmp ms
  pub picked : (ms : List AnyMessage) (pick : ℕ) → pick < length ms → slice_get (task_at pick ms) 0 ≡ slice_get ms pick
  pub some : (ms : List AnyMessage) (pick : ℕ) → pick < length ms → 0 < length (task_at pick ms)
  pub few : (ms : List AnyMessage) (pick : ℕ) → length (task_at pick ms) ≤ task_size
  pub beside : (ms : List AnyMessage) (pick : ℕ) (c : AnyMessage) → slice_get ms pick ≡ Some c → AllByRecursion (IsBeside c) (task_at pick ms)
  pub full : (ms : List AnyMessage) (pick : ℕ) (c : AnyMessage) → slice_get ms pick ≡ Some c → (length (task_at pick ms) ≡ task_size) ⊎ AllByRecursion (λ d. IsBeside c d → ⊥) (left_at pick ms)

-- how times are ordered
pub record TimeListOrderLaw : Type 0 where
  pub total : IsTotalOrder time_cmp
  pub told_apart : IsAntisymmetric time_cmp
  pub keeps : (t u : Timestamp) → depth t ≡ depth u → IsAtMost t u → is_le (time_cmp t u) ≡ true

-- ALL OF IT
pub record Known (law : Answers) : Type 0 where
  pub reached : ReachedLaw law
  pub reached_in_order : ReachedInOrderLaw law
  -- that its active pointstamps are of the plan
  pub active_of_plan : (S : HallState) → IsReached law S → AllByRecursion (IsOf S.plan) (active S)
  -- that notifications are asked for where they are given
  pub asked_where_notified : (S : HallState) → IsReached law S → AllByRecursion (λ a. is_notified (kind_of S.plan a.vertex) ≡ true) S.asked
  pub bags_of_states : BagsOfStatesLaw
  pub none_left : NoneLeftLaw
  pub what_waits : WhatWaitsLaw
  pub in_parts : InPartsLaw
  -- how a give moves pointstamps
  pub stamps_move : StampsMove law
  -- what a give delivers
  pub delivered_at_once : DeliveredAtOnce law
  -- that what a task sends is of the plan
  pub sends_of_plan : TasksOfPlan law
  -- that turns are
  pub turns_of_plan : TurnsOfPlan
  -- that what is released is
  pub sent_of_plan : SentOfPlan
  -- that where it comes is
  pub come_of_plan : ComeOfPlan law
  pub plays_join : PlaysJoinLaw law
  -- that a drained hall has passed
  pub never_stuck : NeverStuck law
  -- how much is delivered until then
  pub exact_work_drained : ExactWorkDrained law
  pub look_ups : LookUpsLaw
  -- what a map sends
  pub a_map_sends : (task : AnyTask) (code port : ℕ) (recs : List AnyRec) (kept : Kept) → task.kind ≡ Map code → task.content ≡ messages port recs → flat_map (λ sent. sent) (answers_of law task) ≡ flat_map (λ r. (on_arrival law task.kind kept (arrival_of port r)).sent) recs
  -- what a notification sends
  pub a_notification_sends : (task : AnyTask) (items : List AnyKey) → task.content ≡ notification items → flat_map (λ sent. sent) (answers_of law task) ≡ notified_sends law task.kind items
  -- what it leaves
  pub a_notification_leaves : (task : AnyTask) (epoch vertex : ℕ) (items : List AnyKey) → task.content ≡ notification items → leaves law task.kind epoch vertex items ≡ left_for epoch vertex items (states_for law task)
  pub counts : CountsLaw law
  pub counted : CountedLaw
  pub in_any_order : InAnyOrderLaw
  pub tasks : TasksLaw
  pub time_list_order : TimeListOrderLaw
