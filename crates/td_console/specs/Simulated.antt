-- What a simulation writes.
use Rattle.std.specs.Prelude.{◌≡◌, ℕ, List, ◌++◌, length, Option}
use Rattle.std.specs.Io.KnownBytes.{Appends}
use Rattle.td_stamp.specs.declared.values.Entry.{Entry}
use Rattle.td_plan.specs.Lines.{Line as PlanLine}
use Rattle.td_machine.specs.State.{Task}
use Rattle.td_calls.specs.Stored.{Stored}
use Rattle.td_console.specs.Answer.{Asks, lines_of_run}
use Rattle.td_console.specs.Turns.{IsSimulated, notes_of}

-- THE TEXT OF A SIMULATION of an input: the notes of the notifications that were given, turn by turn, and then the answer text
pub record IsSimulatedText (stored : Stored) (workers : ℕ) (input text : List ℕ) : Type 0 where
  pub plan : List PlanLine
  pub batches : List (List Entry)
  pub asks : Asks stored input plan batches
  pub turns : List (Option Task)
  pub simulated : IsSimulated stored.answers plan batches workers turns
  pub text_is : text ≡ notes_of turns ++ lines_of_run stored.answers plan batches

-- what a writer holds after is what it held before and such a text
abbrev pub WritesSimulated : Stored → ℕ → Option (List ℕ) → Option (List ℕ) → List ℕ → Type 0
WritesSimulated stored workers before after input = (text : List ℕ) × IsSimulatedText stored workers input text × Appends before after text

-- such a text is too long for the room that there is
abbrev pub LacksRoomSimulated : Stored → ℕ → (ℕ → Type 0) → List ℕ → Type 0
LacksRoomSimulated stored workers HasRoom input = (text : List ℕ) × IsSimulatedText stored workers input text × ¬ (HasRoom (length text))
