-- What a task is to do, as contracts see it.
use Rattle.std.specs.Prelude.{◌<◌, ◌≤◌, length}
use Rattle.td_machine.specs.State.{Content}
use Rattle.td_machine.specs.State.Content.{messages, notification}
use Rattle.td_machine.specs.Steps.{task_size}
use Rattle.td_task.specs.declared.task.Work.{Work}
use Rattle.td_task.specs.declared.task.Work.TheVariants.{Messages, Notification}

abbrev pub content_of : Work → Content
content_of (Messages port recs) = messages port recs.items
content_of (Notification items) = notification items

-- a task of messages has one at least, and 64 at most
abbrev pub IsSized : Content → Type 0
IsSized (messages port recs) = (0 < length recs) × (length recs ≤ task_size)
IsSized (notification items) = Unit {0}
