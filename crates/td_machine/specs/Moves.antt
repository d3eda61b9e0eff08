-- How each step changes the bag of active pointstamps: which come, and which go (Naiad, section 2.3: the updates of occurrence counts).
use Rattle.std.specs.Prelude.{◌≡◌, ◌+◌, Bool, true, false, not, ◌&&◌, List, [], ◌∷◌, ◌++◌, map, count_by}
use Rattle.td_stamp.specs.declared.values.Entry.{Entry}
use Rattle.td_plan.specs.Lines.{Line}
use Rattle.td_calls.specs.Answers.{Answers}
use Rattle.td_calls.specs.Callbacks.{is_notified}
use Rattle.td_reach.specs.declared.stamp.Stamp.{Stamp}
use Rattle.td_machine.specs.declared.records.Message.{Message}
use Rattle.td_machine.specs.declared.records.Notification.{Notification}
use Rattle.td_machine.specs.State.{HallState, Task, Content}
use Rattle.td_machine.specs.State.Content.{messages, notification}
use Rattle.td_machine.specs.Active.{inputs_of, active, stamp_of_message, stamp_of_asked, stamp_of_input, stamp_at, stamps_of_inputs}
use Rattle.td_machine.specs.Steps.{Event, Answer, Step, posts, stamped, entered, coming, asked_at, is_asked, notified_sends}
use Rattle.td_machine.specs.Steps.Event.{release, give, close}
use Rattle.td_machine.specs.Steps.Answer.{has_released, has_given}
use Rattle.td_machine.specs.Reached.{IsReached}
use Rattle.td_machine.specs.AtOnce.{added_at_once}

-- the same bag: as many of the one as of the other pass each test
abbrev pub AreAlike : List Stamp → List Stamp → Type 0
AreAlike ps qs = (test : Stamp → Bool) → count_by test ps ≡ count_by test qs

-- what is active after a step, with those that go, is what was active before it, with those that come
abbrev pub Moves : HallState → HallState → List Stamp → List Stamp → Type 0
Moves S after come gone = AreAlike (come ++ active S) (gone ++ active after)

-- those of messages
abbrev pub stamps_of : List Line → List Message → List Stamp
stamps_of plan cs = map (stamp_of_message plan) cs

-- the notification of a task's shard, where the task's records are the first to ask for it
abbrev pub newly_asked : HallState → Task → List Notification
newly_asked S task =
    elim (is_notified task.kind && not (is_asked S task.shard task.vertex task.time)) [ true ↦ asked_at S task.shard task.vertex task.time ∷ [] | false ↦ [] ]

-- A TASK that is given: what it sends comes, and what it asks for
abbrev pub come_given : Answers → HallState → Task → Content → List Stamp
come_given answers S task (messages port recs) =
    stamps_of S.plan (posts S.plan (stamped task.vertex task.time (added_at_once answers S.seen task.kind task.vertex port task.time recs).sent))
    ++ map stamp_of_asked (newly_asked S task)
come_given answers S task (notification items) = stamps_of S.plan (posts S.plan (stamped task.vertex task.time (notified_sends answers task.kind items)))

-- and what it took up goes
abbrev pub gone_given : HallState → Task → Content → List Stamp
gone_given S task (messages port recs) = stamps_of S.plan (coming task.vertex port task.time recs)
gone_given S task (notification items) = stamp_at task.vertex task.time ∷ []

-- A BATCH that is released: its messages come, and the inputs go from its epoch to the next
abbrev pub come_released : HallState → List Entry → List Stamp
come_released S batch = stamps_of S.plan (posts S.plan (map (entered S.next) batch)) ++ map (stamp_of_input (S.next + 1)) (inputs_of S.plan)

-- what comes with a step
abbrev pub come_by : Answers → HallState → Event → Answer → List Stamp
come_by answers S (release batch) (has_released e) = come_released S batch
come_by answers S (give task) has_given = come_given answers S task task.content
come_by answers S _ _ = []

-- what goes with it: with a close, the inputs
abbrev pub gone_by : HallState → Event → Answer → List Stamp
gone_by S (release batch) (has_released e) = map (stamp_of_input S.next) (inputs_of S.plan)
gone_by S (give task) has_given = gone_given S task task.content
gone_by S close _ = stamps_of_inputs S.plan S.next S.closed
gone_by S _ _ = []

-- EACH STEP from a state that is reached moves them so, and no other
abbrev pub StampsMove : Answers → Type 0
StampsMove answers = (S after : HallState) (event : Event) (answer : Answer)
    → IsReached answers S → Step answers S event answer after
    → Moves S after (come_by answers S event answer) (gone_by S event answer)
