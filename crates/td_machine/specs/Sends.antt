-- That the pointstamps which come with a step are of the plan, and at which times the vertices of tasks may send.
use Rattle.std.specs.Prelude.{ℕ, ◌<◌, ◌≤◌, Contains, List}
use Rattle.std.specs.List.{AllByRecursion}
use Rattle.td_stamp.specs.Time.{Timestamp, depth}
use Rattle.td_plan.specs.declared.vertex.Kind.{Kind}
use Rattle.td_plan.specs.declared.vertex.Kind.TheVariants.{Enter, Feedback, Leave}
use Rattle.td_plan.specs.Faults.{IsPlan}
use Rattle.td_plan.specs.Lines.{Line}
use Rattle.td_calls.specs.Answers.{Answers}
use Rattle.td_reach.specs.Paths.{IsOf}
use Rattle.td_machine.specs.State.{HallState, Task}
use Rattle.td_machine.specs.Active.{kind_of, bound_of, stamp_at}
use Rattle.td_machine.specs.Steps.{Event, Answer, Step}
use Rattle.td_machine.specs.Reached.{IsReached}
use Rattle.td_machine.specs.Moves.{come_by}
use Rattle.td_machine.specs.ByEdge.{stamps_by_edge}

-- a vertex of this kind can turn the time: into a loop, of three at most, out of one, or once more round one, which has a bound
abbrev pub CanTurn : Kind → ℕ → Timestamp → Type 0
CanTurn Enter bound t = depth t < 3
CanTurn Leave bound t = 0 < depth t
CanTurn Feedback bound t = (0 < depth t) × (1 ≤ bound) × (bound ≤ 1000)
CanTurn _ bound t = Unit {0}

-- where a vertex and a time are of a plan, the vertex can turn the time
abbrev pub TurnsOfPlan : Type 0
TurnsOfPlan = (plan : List Line) (v : ℕ) (t : Timestamp) → IsPlan plan → IsOf plan (stamp_at v t) → CanTurn (kind_of plan v) (bound_of plan v) t

-- and what it sends at these times is of the plan, on all edges out of it and with however many records
abbrev pub SentOfPlan : Type 0
SentOfPlan = (plan : List Line) (v : ℕ) (t : Timestamp) → IsPlan plan → IsOf plan (stamp_at v t) → (many : ℕ) → AllByRecursion (IsOf plan) (stamps_by_edge plan v t many)

-- WHAT THE VERTEX OF A TASK SENDS so is, and so are the vertex and the time of the task, which is of an epoch that was released after
-- the base
pub record SendsOfPlan (S : HallState) (task : Task) : Type 0 where
  pub own : IsOf S.plan (stamp_at task.vertex task.time)
  pub sent : (many : ℕ) → AllByRecursion (IsOf S.plan) (stamps_by_edge S.plan task.vertex task.time many)
  pub after_base : S.base < task.time.epoch
  pub released : task.time.epoch < S.next

-- so with each task that is out in a state that is reached
abbrev pub TasksOfPlan : Answers → Type 0
TasksOfPlan answers = (S : HallState) (task : Task) → IsReached answers S → Contains S.out task → SendsOfPlan S task

-- WHAT COMES WITH A STEP from a state that is reached is of the plan
abbrev pub ComeOfPlan : Answers → Type 0
ComeOfPlan answers = (S after : HallState) (event : Event) (answer : Answer)
    → IsReached answers S → Step answers S event answer after → AllByRecursion (IsOf S.plan) (come_by answers S event answer)
