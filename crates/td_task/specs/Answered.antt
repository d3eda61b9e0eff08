-- What the closure of a task's vertex answers it: one answer for each record that comes to a map, and one for each key of a
-- notification of a group or a fold. The records that come to other kinds are passed on or kept without a closure.
use Rattle.std.specs.Prelude.{ℕ, List, [], ◌∷◌, length, map, Option}
use Rattle.td_stamp.specs.declared.values.Rec.{Rec}
use Rattle.td_stamp.specs.declared.values.State.{State}
use Rattle.td_plan.specs.declared.vertex.Kind.{Kind}
use Rattle.td_plan.specs.declared.vertex.Kind.TheVariants.{Map, Group, Fold}
use Rattle.td_calls.specs.Answers.{Answers}
use Rattle.td_calls.specs.Callbacks.{on_notification}
use Rattle.td_machine.specs.declared.records.StateLeft.{StateLeft}
use Rattle.td_machine.specs.State.{KeyItems, Content, Task}
use Rattle.td_machine.specs.State.Content.{messages, notification}

-- what is sent for each key of a notification (Naiad, section 2.2, OnNotify)
abbrev pub sent_for_keys : Answers → Kind → List KeyItems → List (List Rec)
sent_for_keys answers kind items = map (λ g. (on_notification answers kind g.key g.state g.items).1) items

-- the state that a fold keeps for each key from then on, or none
abbrev pub kept_for_keys : Answers → Kind → List KeyItems → List (Option State)
kept_for_keys answers kind items = map (λ g. (on_notification answers kind g.key g.state g.items).0) items

-- what is sent, answer by answer
abbrev pub sent_of : Answers → Kind → Content → List (List Rec)
sent_of answers (Map code) (messages port recs) = map (answers.emit code port) recs
sent_of answers (Group code) (notification items) = sent_for_keys answers (Group code) items
sent_of answers (Fold code) (notification items) = sent_for_keys answers (Fold code) items
sent_of answers _ _ = []

-- the states that are kept, answer by answer; a map and a group keep none
abbrev pub states_of : Answers → Kind → Content → List (Option State)
states_of answers (Fold code) (notification items) = kept_for_keys answers (Fold code) items
states_of answers _ _ = []

-- the same of a task
abbrev pub answers_of : Answers → Task → List (List Rec)
answers_of answers task = sent_of answers task.kind task.content

abbrev pub states_for : Answers → Task → List (Option State)
states_for answers task = states_of answers task.kind task.content

-- how many answers there are, and how many states
abbrev pub answer_count : Kind → Content → ℕ
answer_count (Map code) (messages port recs) = length recs
answer_count (Group code) (notification items) = length items
answer_count (Fold code) (notification items) = length items
answer_count _ _ = 0

abbrev pub state_count : Kind → Content → ℕ
state_count (Fold code) (notification items) = length items
state_count _ _ = 0

-- states that are left for keys, one after another, at an epoch and a vertex
abbrev pub left_for : ℕ → ℕ → List KeyItems → List (Option State) → List StateLeft
left_for e v (k ∷ keys) (state ∷ states) = record { epoch = e; vertex = v; key = k.key; state = state } ∷ left_for e v keys states
left_for e v _ _ = []
