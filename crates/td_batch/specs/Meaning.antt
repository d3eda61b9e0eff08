-- The batch meaning of a plan: whole bags down its tree, one turn of a block after another, with no messages, no
-- notifications and no order.
use Rattle.std.specs.Prelude.{ℕ, zero, suc, ◌+◌, List, [], ◌∷◌, ◌++◌, map, flat_map, fold, length, take, get_or, Option, Some, None}
use Rattle.std.specs.List.{enumerate_from}
use Rattle.td_stamp.specs.declared.values.Rec.{Rec}
use Rattle.td_stamp.specs.declared.values.Entry.{Entry}
use Rattle.td_stamp.specs.declared.values.Output.{Output}
use Rattle.td_stamp.specs.declared.epoch_out.EpochOut.{EpochOut}
use Rattle.td_stamp.specs.declared.values.State.{State}
use Rattle.td_stamp.specs.declared.values.Arrival.{Arrival}
use Rattle.td_stamp.specs.Orders.{rec_cmp, output_cmp}
use Rattle.td_stamp.specs.Bag.{bag_of}
use Rattle.td_stamp.specs.Batch.{records_for}
use Rattle.td_stamp.specs.Groups.{groups}
use Rattle.td_stamp.specs.States.{StateList, state_of, with_state, without_state}
use Rattle.td_plan.specs.declared.vertex.Kind.{Kind}
use Rattle.td_plan.specs.declared.vertex.Kind.TheVariants.{Input, Fold, Enter, Feedback, Output as OutputKind}
use Rattle.td_plan.specs.Lines.{Vertex}
use Rattle.td_plan.specs.Tree.{Nodes, size}
use Rattle.td_plan.specs.Tree.Nodes.{done, node, block}
use Rattle.td_calls.specs.Answers.{Answers}
use Rattle.td_calls.specs.Callbacks.{arrivals, nothing_kept, sends, on_notification}

-- What an epoch is computed from: what closures answer, the states kept before it, and its batch
pub record EpochInput : Type 0 where
  pub answers : Answers
  pub states : StateList
  pub batch : List Entry

-- The bag that each vertex emitted, in the order of their numbers
abbrev pub Bags : Type 0
Bags = List (List Rec)

abbrev pub emitted : Bags → ℕ → List Rec
emitted bags v = get_or bags v []

-- what a vertex emits at a time at which this arrives
abbrev pub answer : EpochInput → ℕ → Kind → List Arrival → List Rec
answer epoch v Input arrived = bag_of rec_cmp (records_for v epoch.batch)
answer epoch v kind arrived = sends epoch.answers (state_of epoch.states v) kind nothing_kept arrived

-- in turn 0 of a loop there is no turn before, and then nothing comes back; what enters comes in turn 0 alone
abbrev pub returned : Option Bags → Bags
returned None = []
returned (Some earlier) = earlier

abbrev pub entered : Option Bags → Bags → Bags
entered None bags = bags
entered (Some earlier) bags = []

-- the bags that a vertex reads in a turn, of those of the turn before, and those so far in this one
abbrev pub bags_read : Kind → Option Bags → Bags → Bags
bags_read Enter before bags = entered before bags
bags_read Feedback before bags = returned before
bags_read _ before bags = bags

-- what a vertex emits in a turn
abbrev pub emission : EpochInput → Option Bags → Bags → Vertex → List Rec
emission epoch before bags v = answer epoch v.number v.kind (arrivals (map (emitted (bags_read v.kind before bags)) v.sources))

-- the bags of so many turns, each from those of the turn before
abbrev pub turns : (Option Bags → Bags) → ℕ → Option Bags → List Bags
turns turn zero before = []
turns turn (suc n) before = let bags = turn before in bags ∷ turns turn n (Some bags)

-- of so many vertices from this number on, what each emitted in all turns together
abbrev pub over_turns : List Bags → ℕ → ℕ → Bags
over_turns each v zero = []
over_turns each v (suc n) = bag_of rec_cmp (flat_map (λ bags. emitted bags v) each) ∷ over_turns each (v + 1) n

-- ONE TURN OF A BLOCK: the bags so far, and then those of its vertices in the order of their numbers. A loop makes all its turns
-- within this one; outside, its leaves alone are read, and they emit what they emitted in all of them. The turn before is an
-- argument, and no number of a turn is needed
abbrev pub turn : EpochInput → Nodes → Option Bags → Bags → Bags
turn epoch done before bags = bags
turn epoch (node v rest) before bags = turn epoch rest before (bags ++ emission epoch before bags v ∷ [])
turn epoch (block bound body rest) before bags =
    turn epoch rest before (bags ++ over_turns (turns (λ earlier. turn epoch body earlier bags) bound None) (length bags) (size body))

-- all bags of an epoch: turn 0 of the outermost block
abbrev pub epoch_bags : EpochInput → Nodes → Bags
epoch_bags epoch nodes = turn epoch nodes None []

-- the records of the outputs, which stand outside loops
abbrev pub outputs_at : (ℕ → List Rec) → Vertex → Kind → List Output
outputs_at bag v OutputKind = map (λ r. record { vertex = v.number; rec = r }) (bag v.number)
outputs_at bag v _ = []

abbrev pub outputs_in : (ℕ → List Rec) → Nodes → List Output
outputs_in bag done = []
outputs_in bag (node v rest) = outputs_at bag v v.kind ++ outputs_in bag rest
outputs_in bag (block bound body rest) = outputs_in bag rest

-- the states with what a fold keeps for a key: a state, or none
abbrev pub with_kept : StateList → ℕ → ℕ → Option State → StateList
with_kept states v key None = without_state states v key
with_kept states v key (Some state) = with_state states v key state

-- the states after what arrives at a vertex; each key of a fold is asked once, with its state before the epoch
abbrev pub states_by : EpochInput → Vertex → Kind → List Arrival → StateList → StateList
states_by epoch v (Fold code) arrived states =
    fold (λ kept g. with_kept kept v.number g.0 (on_notification epoch.answers (Fold code) g.0 (state_of epoch.states v.number g.0) g.1).0) states (groups arrived)
states_by epoch v _ arrived states = states

-- the states after an epoch; folds stand outside loops
abbrev pub states_in : EpochInput → (ℕ → List Rec) → Nodes → StateList → StateList
states_in epoch bag done states = states
states_in epoch bag (node v rest) states = states_in epoch bag rest (states_by epoch v v.kind (arrivals (map bag v.sources)) states)
states_in epoch bag (block bound body rest) states = states_in epoch bag rest states

-- What an epoch gives: the states after it, and its outputs
pub record EpochResult : Type 0 where
  pub states : StateList
  pub outs : List Output

-- where the vertices emitted these bags
abbrev pub result_of : EpochInput → Nodes → (ℕ → List Rec) → EpochResult
result_of epoch nodes bag = record { states = states_in epoch bag nodes epoch.states; outs = bag_of output_cmp (outputs_in bag nodes) }

abbrev pub epoch_result : EpochInput → Nodes → EpochResult
epoch_result epoch nodes = result_of epoch nodes (emitted (epoch_bags epoch nodes))

-- What a run gives: the last states, and the outputs of each epoch
pub record RunResult : Type 0 where
  pub states : StateList
  pub outs : List (List Output)

-- THE BATCH MEANING: one epoch after another, each from the states that the one before leaves
abbrev pub run : Answers → Nodes → StateList → List (List Entry) → RunResult
run answers nodes states [] = record { states = states; outs = [] }
run answers nodes states (batch ∷ later) =
    let first = epoch_result (record { answers = answers; states = states; batch = batch }) nodes in
    let rest = run answers nodes first.states later in
    record { states = rest.states; outs = first.outs ∷ rest.outs }

-- the states after the first n of some batches
abbrev pub states_after : Answers → Nodes → StateList → List (List Entry) → ℕ → StateList
states_after answers nodes states batches n = (run answers nodes states (take n batches)).states

-- the outputs of each epoch, numbered from the first on
abbrev pub numbered : ℕ → List (List Output) → List EpochOut
numbered first outs = map (λ o. record { epoch = o.0; recs = o.1 }) (enumerate_from first outs)
