-- The answer text of an input, or its first fault.
use Rattle.std.specs.Prelude.{◌≡◌, ◌⊎◌, ℕ, Bool, List, [], ◌∷◌, ◌++◌, flat_map, length, Option, Some, None, IfSome, Result, Ok, Err}
use Rattle.std.specs.Io.KnownBytes.{Appends}
use Rattle.std.specs.Fmt.{decimal, signed_decimal}
use Rattle.td_stamp.specs.declared.values.Entry.{Entry}
use Rattle.td_stamp.specs.declared.values.Output.{Output}
use Rattle.td_stamp.specs.declared.epoch_out.EpochOut.{EpochOut}
use Rattle.td_plan.specs.declared.error.PlanError.{PlanError}
use Rattle.td_plan.specs.Lines.{Line as PlanLine}
use Rattle.td_plan.specs.Blocks.{vertices}
use Rattle.td_plan.specs.Texts.{PlanText, PlanFault}
use Rattle.td_plan.specs.Tree.{tree_of}
use Rattle.td_calls.specs.declared.error.CallsError.{CallsError}
use Rattle.td_calls.specs.declared.error.CallsError.TheVariants as calls
use Rattle.td_calls.specs.Answers.{Answers}
use Rattle.td_calls.specs.Fits.{first_lack}
use Rattle.td_calls.specs.Stored.{Stored}
use Rattle.td_batch.specs.Meaning.{run, numbered}
use Rattle.td_console.specs.declared.faults.Fault.{Fault}
use Rattle.td_console.specs.declared.faults.Fault.TheVariants.{Plan, NoCall, Memory, Spent}
use Rattle.td_console.specs.declared.faults.Fault.TheVariants as faults
use Rattle.td_console.specs.Data.{batches_of, data_fault}
use Rattle.td_console.specs.Parts.{plan_text, data_lines, first_data_line, wide_fault}

-- an output record's line: `EPOCH VERTEX KEY VAL`
abbrev pub output_line : ℕ → Output → List ℕ
output_line epoch o = decimal epoch ++ 32 ∷ decimal o.vertex ++ 32 ∷ decimal o.rec.key ++ 32 ∷ signed_decimal o.rec.val ++ 10 ∷ []

-- the lines of epochs, in their order; the outputs of each are sorted by vertex, key and val
abbrev pub output_text : List EpochOut → List ℕ
output_text epochs = flat_map (λ e. flat_map (output_line e.epoch) e.recs) epochs

-- what a run of a plan gives, from no states, with the epochs numbered from 1
abbrev pub lines_of_run : Answers → List PlanLine → List (List Entry) → List ℕ
lines_of_run answers plan batches = output_text (numbered 1 (run answers (tree_of plan) [] batches).outs)

-- on the batches that data lines spell
abbrev pub run_text : Answers → List PlanLine → List (List ℕ) → List ℕ
run_text answers plan lines = lines_of_run answers plan (batches_of lines)

-- the fault for a vertex without its closure
abbrev pub lack_fault : CallsError → Fault
lack_fault (calls.NoCall vertex code) = NoCall vertex code
lack_fault _ = Memory

-- the output lines, or the first fault of the data
abbrev pub answer_or_fault : List ℕ → Option Fault → Result (List ℕ) Fault
answer_or_fault text (Some fault) = Err fault
answer_or_fault text None = Ok text

-- the answer of a plan to data lines, of which the first has the number n; a missing closure comes first
abbrev pub plan_answer : Stored → List PlanLine → ℕ → List (List ℕ) → Result (List ℕ) Fault
plan_answer stored plan n lines =
    elim (first_lack stored.codes (vertices plan))
    [ Some lack ↦ Err (lack_fault lack) | None ↦ answer_or_fault (run_text stored.answers plan lines) (data_fault plan n lines) ]

-- the answer where the input is ASCII: that of the plan, or its refusal
abbrev pub IsAsciiAnswer : Stored → List ℕ → Result (List ℕ) Fault → Type 0
IsAsciiAnswer stored input answer =
    ((plan : List PlanLine) × PlanText (plan_text input) plan × (answer ≡ plan_answer stored plan (first_data_line input) (data_lines input)))
    ⊎ ((e : PlanError) × PlanFault (plan_text input) e × (answer ≡ Err (Plan e)))

-- the answer where this is the first fault of a byte above 127, if there is one
abbrev pub IsAnswerAt : Stored → List ℕ → Option Fault → Result (List ℕ) Fault → Type 0
IsAnswerAt stored input (Some fault) answer = answer ≡ Err fault
IsAnswerAt stored input None answer = IsAsciiAnswer stored input answer

-- THE ANSWER to an input: the output lines, or the first fault. A byte above 127 comes first
abbrev pub IsAnswer : Stored → List ℕ → Result (List ℕ) Fault → Type 0
IsAnswer stored input answer = IsAnswerAt stored input (wide_fault input) answer

-- WHAT AN INPUT ASKS: a plan and the batches of its epochs, where its answer is the output lines of their run
pub record Asks (stored : Stored) (input : List ℕ) (plan : List PlanLine) (batches : List (List Entry)) : Type 0 where
  pub plan_is : PlanText (plan_text input) plan
  pub batches_are : batches ≡ batches_of (data_lines input)
  pub answer : IsAnswer stored input (Ok (lines_of_run stored.answers plan batches))

-- what a writer holds after is what it held before and the answer text of an input
abbrev pub WritesAnswer : Stored → Option (List ℕ) → Option (List ℕ) → List ℕ → Type 0
WritesAnswer stored before after input = (text : List ℕ) × IsAnswer stored input (Ok text) × Appends before after text

-- an input has an answer text that is too long for the room that there is
abbrev pub LacksRoom : Stored → (ℕ → Type 0) → List ℕ → Type 0
LacksRoom stored HasRoom input = (text : List ℕ) × IsAnswer stored input (Ok text) × ¬ (HasRoom (length text))

-- why nothing was answered: a reader's or a writer's failure, want of memory, or the fault of the input, where that is known
abbrev pub IsFaultAt : Stored → Option (List ℕ) → Fault → Type 0
IsFaultAt stored input f = (f ≡ faults.Input) ⊎ ((f ≡ faults.Output) ⊎ ((f ≡ Memory) ⊎ IfSome input (λ bytes. IsAnswer stored bytes (Err f))))

-- the same, of an engine that runs a hall: or the hall used all numbers of tasks
abbrev pub IsHallFaultAt : Stored → Option (List ℕ) → Fault → Type 0
IsHallFaultAt stored input f = (f ≡ Spent) ⊎ IsFaultAt stored input f
