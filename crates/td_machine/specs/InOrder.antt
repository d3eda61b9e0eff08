-- What each state has in order that plays lead to: its lists, the tasks that are out, and its numbers.
use Rattle.std.specs.Prelude.{◌≡◌, ◌+◌, ◌<◌, ◌≤◌, List, [], ◌∷◌, length}
use Rattle.std.specs.List.{AllByRecursion}
use Rattle.std.specs.List.Sorted.{IsStrictlySortedBy}
use Rattle.td_stamp.specs.Bag.{IsBag}
use Rattle.td_stamp.specs.States.{AreStates}
use Rattle.td_plan.specs.Faults.{IsPlan}
use Rattle.td_machine.specs.State.{HallState, Task, message_cmp, stamped_cmp, notification_cmp, output_at_cmp, left_cmp, task_cmp}
use Rattle.td_machine.specs.Active.{kind_of}
use Rattle.td_machine.specs.Steps.{IsContent, ends}

-- THE LISTS of a state are bags, and those in which nothing stands twice are sets
pub record ListsInOrder (S : HallState) : Type 0 where
  pub messages : IsBag message_cmp S.messages
  pub buffered : IsBag message_cmp S.buffered
  pub seen : IsBag stamped_cmp S.seen
  pub seen_once : IsStrictlySortedBy stamped_cmp S.seen
  pub left : IsBag left_cmp S.left
  pub asked : IsStrictlySortedBy notification_cmp S.asked
  pub outputs : IsBag output_at_cmp S.outputs
  pub base_states : AreStates S.base_states

-- tasks of different shards
abbrev pub OneAShard : List Task → Type 0
OneAShard [] = Unit {0}
OneAShard (task ∷ tasks) = AllByRecursion (λ other. task.shard ≡ other.shard → ⊥) tasks × OneAShard tasks

-- what a task took up might be taken up now
abbrev pub StillThere : HallState → Task → Type 0
StillThere S task = (task.kind ≡ kind_of S.plan task.vertex) × (task.number ≤ S.taken) × IsContent S task.shard task.vertex task.time task.content

-- THE TASKS that are out: what each took up is still there, its records or its notification, which nothing holds back
pub record TasksInOrder (S : HallState) : Type 0 where
  pub there : AllByRecursion (StillThere S) S.out
  pub one_a_shard : OneAShard S.out
  pub in_order : IsStrictlySortedBy task_cmp S.out

-- THE NUMBERS of a state: a task is out, or was given; and what is let go was released
pub record NumbersInOrder (S : HallState) : Type 0 where
  pub plan : IsPlan S.plan
  pub workers : 1 ≤ S.workers
  pub base : S.base < S.next
  pub collected : S.collected < S.next
  pub given : S.given + length S.out ≡ S.taken
  pub taken : S.taken ≤ ends
