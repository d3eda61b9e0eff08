-- What a state has right by itself, and the laws over plays.
use Rattle.std.specs.Prelude.{◌≡◌, ℕ, ◌+◌, ◌-◌, ◌<◌, ◌≤◌, true, List, [], ◌∷◌, ◌++◌, flat_map, take, get_or, length, None}
use Rattle.td_stamp.specs.declared.values.Entry.{Entry}
use Rattle.td_stamp.specs.declared.epoch_out.EpochOut.{EpochOut}
use Rattle.td_stamp.specs.States.{StateList, AreStates}
use Rattle.td_plan.specs.Lines.{Line}
use Rattle.td_plan.specs.Tree.{tree_of}
use Rattle.td_plan.specs.Faults.{IsPlan}
use Rattle.td_calls.specs.Answers.{Answers}
use Rattle.td_batch.specs.Meaning.{run, RunResult, states_after, numbered}
use Rattle.td_machine.specs.State.{HallState, states_at}
use Rattle.td_machine.specs.Active.{has_passed}
use Rattle.td_machine.specs.Steps.{Event, Answer, Step, Plays, opened, outputs_at}
use Rattle.td_machine.specs.Steps.Event.{release, taking}
use Rattle.td_machine.specs.Steps.Answer.{has_released, has_taken, has_collected, has_cut}

module _ (answers : Answers) where
  -- the batch meaning of what was released since the base
  abbrev pub run_of : HallState → RunResult
  run_of S = run answers (tree_of S.plan) S.base_states S.batches

  -- the states that the batch meaning has after an epoch since the base
  abbrev pub run_states : HallState → ℕ → StateList
  run_states S e = states_after answers (tree_of S.plan) S.base_states S.batches (e - S.base)

  -- SOUND: the batches are those of the epochs from the base to the next; and the outputs of passed epochs that were not collected,
  -- and the states at passed epochs, are those of the batch meaning
  pub record Sound (S : HallState) : Type 0 where
    pub released : S.base + 1 + length S.batches ≡ S.next
    pub outputs : (e : ℕ) → S.base < e → S.collected < e → e < S.next → has_passed S e ≡ true → outputs_at S e ≡ get_or (run_of S).outs (e - S.base - 1) []
    pub states : (e : ℕ) → S.base ≤ e → e < S.next → has_passed S e ≡ true → states_at S e ≡ run_states S e

-- EACH STATE OF A PLAY IS SOUND
abbrev pub EachIsSound : Answers → Type 0
EachIsSound answers = (plan : List Line) (states : StateList) (first workers : ℕ) (events : List Event) (replies : List Answer) (S : HallState)
    → IsPlan plan → AreStates states → 1 ≤ first → 1 ≤ workers
    → Plays answers (opened plan states first workers) events replies S
    → Sound answers S

-- the batch that a call released, if it did
abbrev pub batch_by : Event → Answer → List (List Entry)
batch_by (release batch) (has_released e) = batch ∷ []
batch_by _ _ = []

-- those of a whole play, in order
abbrev pub batches_of : List Event → List Answer → List (List Entry)
batches_of [] answers = []
batches_of (event ∷ events) [] = []
batches_of (event ∷ events) (answer ∷ more) = batch_by event answer ++ batches_of events more

-- the outputs that an answer has
abbrev pub outs_by : Answer → List EpochOut
outs_by (has_collected outs) = outs
outs_by _ = []

-- each cut that was answered has the states of the batch meaning at its epoch
abbrev pub CutIs : Answers → List Line → StateList → ℕ → List (List Entry) → Answer → Type 0
CutIs answers plan states first batches (has_cut e at) = at ≡ states_after answers (tree_of plan) states batches (e + 1 - first)
CutIs answers plan states first batches _ = Unit {0}

-- of all answers
abbrev pub CutsAre : Answers → List Line → StateList → ℕ → List (List Entry) → List Answer → Type 0
CutsAre answers plan states first batches [] = Unit {0}
CutsAre answers plan states first batches (answer ∷ more) = CutIs answers plan states first batches answer × CutsAre answers plan states first batches more

-- CONFLUENCE: whatever order the takes and gives fall in, the collected outputs are the first outputs of the batch meaning,
-- as many as were collected, and the cuts have its states
abbrev pub Confluence : Answers → Type 0
Confluence answers = (plan : List Line) (states : StateList) (first workers : ℕ) (events : List Event) (replies : List Answer) (S : HallState)
    → IsPlan plan → AreStates states → 1 ≤ first → 1 ≤ workers
    → Plays answers (opened plan states first workers) events replies S
    → let batches = batches_of events replies in
    (flat_map outs_by replies ≡ numbered first (take (S.collected + 1 - first) (run answers (tree_of plan) states batches).outs))
    × CutsAre answers plan states first batches replies

-- NEVER STUCK: where each shard answers that it has no task, every released epoch has passed
abbrev pub NeverStuck : Answers → Type 0
NeverStuck answers = (plan : List Line) (states : StateList) (first workers : ℕ) (events : List Event) (replies : List Answer) (S : HallState)
    → IsPlan plan → AreStates states → 1 ≤ first → 1 ≤ workers
    → Plays answers (opened plan states first workers) events replies S
    → ((s : ℕ) → s < workers → Step answers S (taking s) (has_taken None) S)
    → (e : ℕ) → e < S.next → has_passed S e ≡ true
