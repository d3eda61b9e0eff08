-- What replies answer, in terms of histories.
use Rattle.std.specs.Prelude.{◌≡◌, List, [], ◌∷◌, ◌++◌, length, map}
use Rattle.td_plan.specs.Lines.{Line}
use Rattle.td_calls.specs.Answers.{Answers}
use Rattle.td_questions.specs.Asked.{answer_to}
use Rattle.td_journal.specs.declared.payload.Submitted.{Submitted as AnySubmitted}
use Rattle.td_store.specs.standing.Standing.{batches_of}
use Rattle.td_store.specs.standing.Advanced.{states_by}
use Rattle.td_keeper.specs.declared.command.Command.{Command}
use Rattle.td_keeper.specs.declared.command.Command.TheVariants.{Answer}
use Rattle.td_keeper.specs.declared.command.Reply.{Reply}
use Rattle.td_keeper.specs.declared.command.Reply.TheVariants.{Answered}
use Rattle.td_keeper.specs.Acknowledged.{acknowledged_in}

-- AN ANSWER IS OF A HISTORY: of its last epoch, and with exactly the entries that answer what is wanted, of the states that the batch meaning
-- has after the whole of it
abbrev pub IsOfHistory : Answers → List Line → List AnySubmitted → Command → Reply → Type 0
IsOfHistory answers plan history (Answer vertex wanted) (Answered epoch entries) =
    (epoch ≡ length history) × (entries ≡ answer_to vertex wanted (states_by answers plan [] (batches_of history)))
IsOfHistory answers plan history _ _ = Unit {0}

-- the batches that a reply acknowledges
abbrev pub batches_in : Command → Reply → List AnySubmitted
batches_in command reply = map (λ e. e.submitted) (acknowledged_in command reply)

-- EACH ANSWER among replies is of a history and what the replies before it acknowledge
abbrev pub AllOfHistory : Answers → List Line → List AnySubmitted → List Command → List Reply → Type 0
AllOfHistory answers plan history [] replies = Unit {0}
AllOfHistory answers plan history (command ∷ commands) [] = Unit {0}
AllOfHistory answers plan history (command ∷ commands) (reply ∷ replies) =
    IsOfHistory answers plan history command reply × AllOfHistory answers plan (history ++ batches_in command reply) commands replies
