-- What a hall does that is simulated turn by turn, and what is written of it.
use Rattle.std.specs.Prelude.{◌≡◌, ℕ, ◌+◌, ◌%◌, ◌<◌, ◌≤◌, ◌==◌, List, length, map, [], ◌∷◌, ◌++◌, flat_map, fold, reverse, codes, Option, Some, None}
use Rattle.std.specs.List.{slice_split}
use Rattle.std.specs.Fmt.{decimal}
use Rattle.td_stamp.specs.declared.values.Entry.{Entry}
use Rattle.td_stamp.specs.Time.{Timestamp}
use Rattle.td_plan.specs.Text.{natural_of}
use Rattle.td_plan.specs.Lines.{Line as PlanLine}
use Rattle.td_calls.specs.Answers.{Answers}
use Rattle.td_machine.specs.State.{HallState, Task, Content}
use Rattle.td_machine.specs.State.Content.{messages, notification}
use Rattle.td_machine.specs.Steps.{Takes, Gives, opened, with_batch}
use Rattle.td_machine.specs.Steps.Answer.{has_taken, has_given}
use Rattle.td_core.specs.Drained.{IsKept}

-- a hall into which batches were released, one after another
abbrev pub all_released : HallState → List (List Entry) → HallState
all_released S batches = fold with_batch S batches

-- ONE TURN at a shard: it had no task; or its task was taken, and given
abbrev pub IsTurn : Answers → ℕ → HallState → Option Task → HallState → Type 0
IsTurn answers shard S None T = Takes S shard (has_taken None) T
IsTurn answers shard S (Some task) T = (between : HallState) × Takes S shard (has_taken (Some task)) between × Gives answers between task has_given T

-- TURNS from the one with this number on: turn i is at shard i mod W
abbrev pub AreTurns : Answers → ℕ → ℕ → HallState → List (Option Task) → HallState → Type 0
AreTurns answers workers i S [] T = T ≡ S
AreTurns answers workers i S (turn ∷ turns) T = (next : HallState) × IsTurn answers (i % workers) S turn next × AreTurns answers workers (i + 1) next turns T

-- how many turns at the end had no task
abbrev pub idle_after : ℕ → Option Task → ℕ
idle_after idle None = idle + 1
idle_after idle (Some task) = 0

abbrev pub idle_turns : List (Option Task) → ℕ
idle_turns turns = fold idle_after 0 turns

-- a time: `1`, `1<0>` or `1<0,1>`, with the counter of the outermost loop first
abbrev pub counters_text : List ℕ → List ℕ
counters_text [] = []
counters_text (k ∷ ks) = 60 ∷ decimal k ++ flat_map (λ j. 44 ∷ decimal j) ks ++ 62 ∷ []

abbrev pub time_text : Timestamp → List ℕ
time_text t = decimal t.epoch ++ counters_text (reverse t.turns)

-- the line of a notification: `note SHARD VERTEX TIME`
abbrev pub note_line : Task → List ℕ
note_line task = codes "note " ++ decimal task.shard ++ 32 ∷ decimal task.vertex ++ 32 ∷ time_text task.time ++ 10 ∷ []

-- what is written of a task: only notifications have a line
abbrev pub note_by : Task → Content → List ℕ
note_by task (messages port recs) = []
note_by task (notification items) = note_line task

-- what is written of a turn
abbrev pub note_of : Option Task → List ℕ
note_of None = []
note_of (Some task) = note_by task task.content

-- what is written of all turns, in their order
abbrev pub notes_of : List (Option Task) → List ℕ
notes_of turns = flat_map note_of turns

-- what is kept turn by turn: so many turns at the end had no task, and nothing else than notes was written
pub record Played (answers : Answers) (workers idle : ℕ) (before after : List ℕ) (S T : HallState) : Type 0 where
  pub turns : List (Option Task)
  pub played : AreTurns answers workers 0 S turns T
  pub ended : idle_turns turns ≡ idle
  pub written : after ≡ before ++ notes_of turns
  -- those had none in the state that is now
  pub none_now : (i : ℕ) → i < length turns → length turns ≤ i + idle → Takes T (i % workers) (has_taken None) T
  pub kept : IsKept S T
  pub none_out : S.out ≡ [] → T.out ≡ []

-- A SIMULATION by so many shards: all batches are released, from epoch 1 on, and then come turns, until W in a row had no task
pub record IsSimulated (answers : Answers) (plan : List PlanLine) (batches : List (List Entry)) (workers : ℕ) (turns : List (Option Task)) : Type 0 where
  pub end : HallState
  pub played : AreTurns answers workers 0 (all_released (opened plan [] 1 workers) batches) turns end
  pub ended : idle_turns turns ≡ workers

-- A LIST OF PICKS: numbers joined by commas
abbrev pub IsPicks : List ℕ → List ℕ → Type 0
IsPicks text picks = map natural_of (slice_split (λ b. b == 44) text) ≡ map Some picks
