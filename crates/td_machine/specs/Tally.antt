-- How many records and how many notifications a play gave: what a drain counts.
use Rattle.std.specs.Prelude.{ℕ, ◌+◌, List, [], ◌∷◌, length}
use Rattle.td_machine.specs.State.{Content}
use Rattle.td_machine.specs.State.Content.{messages, notification}
use Rattle.td_machine.specs.Steps.{Event, Answer}
use Rattle.td_machine.specs.Steps.Event.{give}
use Rattle.td_machine.specs.Steps.Answer.{has_given}

-- the records of a task, and its notifications
abbrev pub records_in : Content → ℕ
records_in (messages port recs) = length recs
records_in (notification items) = 0

-- a notification counts 1, whatever its items
abbrev pub notes_in : Content → ℕ
notes_in (messages port recs) = 0
notes_in (notification items) = 1

-- so many of a task that was given back, and not refused
abbrev pub tally_by : (Content → ℕ) → Event → Answer → ℕ
tally_by many (give task) has_given = many task.content
tally_by many _ _ = 0

-- of all tasks that a play gave back
abbrev pub tally : (Content → ℕ) → List Event → List Answer → ℕ
tally many [] answers = 0
tally many (event ∷ events) [] = 0
tally many (event ∷ events) (answer ∷ more) = tally_by many event answer + tally many events more
