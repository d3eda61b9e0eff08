-- What becomes of the states that an epoch asks for.
use Rattle.std.specs.Prelude.{◌≡◌, ℕ, List, [], ◌∷◌, ◌++◌, map, length, Option, None}
use Rattle.std.specs.List.{AllByRecursion}
use Rattle.td_stamp.specs.declared.values.State.{State}
use Rattle.td_stamp.specs.declared.values.Arrival.{Arrival}
use Rattle.td_stamp.specs.Groups.{groups}
use Rattle.td_stamp.specs.States.{StateList, state_of}
use Rattle.td_plan.specs.declared.vertex.Kind.{Kind}
use Rattle.td_plan.specs.declared.vertex.Kind.TheVariants.{Fold}
use Rattle.td_plan.specs.Tree.{Nodes, size}
use Rattle.td_plan.specs.Tree.Nodes.{done, node, block}
use Rattle.td_calls.specs.Answers.{Answers}
use Rattle.td_calls.specs.Callbacks.{arrivals}
use Rattle.td_batch.specs.declared.changes.Change.{Change}
use Rattle.td_batch.specs.Meaning.{EpochInput, Bags, emitted, emission, turn, turns, over_turns, with_kept}

-- the states that a vertex is to keep after an epoch, key by key
abbrev pub changes_by : Answers → (ℕ → Option State) → ℕ → Kind → List Arrival → List Change
changes_by answers state v (Fold code) arrived = map (λ g. record { vertex = v; key = g.0; state = (answers.fold code g.0 (state g.0) g.1).0 }) (groups arrived)
changes_by answers state v _ arrived = []

-- those of these vertices, fold by fold, where these bags stand before them; folds stand outside loops
abbrev pub changes_from : EpochInput → Nodes → Bags → List Change
changes_from epoch done bags = []
changes_from epoch (node v rest) bags =
    changes_by epoch.answers (state_of epoch.states v.number) v.number v.kind (arrivals (map (emitted bags) v.sources))
    ++ changes_from epoch rest (bags ++ emission epoch None bags v ∷ [])
changes_from epoch (block bound body rest) bags =
    changes_from epoch rest (bags ++ over_turns (turns (λ earlier. turn epoch body earlier bags) bound None) (length bags) (size body))

-- THE CHANGES OF AN EPOCH: one for each key of a fold at which records arrive
abbrev pub epoch_changes : EpochInput → Nodes → List Change
epoch_changes epoch nodes = changes_from epoch nodes []

-- the states with what a change has its fold keep
abbrev pub with_change : StateList → Change → StateList
with_change states change = with_kept states change.vertex change.key change.state

-- the same epoch from other states
abbrev pub from_states : EpochInput → StateList → EpochInput
from_states epoch others = record { answers = epoch.answers; states = others; batch = epoch.batch }

-- states that are the same wherever one of these changes is
abbrev pub AgreeAt : List Change → StateList → StateList → Type 0
AgreeAt changes states others = AllByRecursion (λ c. state_of others c.vertex c.key ≡ state_of states c.vertex c.key) changes
