-- An epoch gives what every solution of the flat equations gives.
use Rattle.std.proofs.Common.{◌≡◌, ℕ, ◌+◌, ◌==◌, true, List, [], ◌++◌, map, None, refl, ap, ◌∙◌}
use Rattle.std.specs.List.{list_any}
use Rattle.td_stamp.specs.Orders.{output_cmp}
use Rattle.td_stamp.specs.Bag.{bag_of}
use Rattle.td_stamp.specs.States.{StateList}
use Rattle.td_plan.specs.declared.vertex.Kind.{Kind}
use Rattle.td_plan.specs.declared.vertex.Kind.TheVariants.{Fold, Output as output}
use Rattle.td_plan.specs.Lines.{Vertex}
use Rattle.td_plan.specs.Tree.{Nodes, size}
use Rattle.td_plan.specs.Tree.Nodes.{done, node, block}
use Rattle.td_calls.specs.Callbacks.{arrivals}
use Rattle.td_batch.specs.Meaning.{EpochInput, Bags, emitted, epoch_bags, epoch_result, result_of, outputs_at, outputs_in, states_by, states_in}
use Rattle.td_plan.specs.Placed.{IsWellPlaced, IsPlacedTree, readable, read_of, read_in, leaves_of}
use Rattle.td_batch.specs.Flow.{Flow, Solves}
use Rattle.td_batch.proofs.Lists.{AreAmong, pick, all_append, all_left, all_right, all_map, map_alike}
use Rattle.td_batch.proofs.Flows.{EndsAs, AllEndAs, IsFlow, solution_is_flow}
use Rattle.td_batch.proofs.Solutions.{turn_ends, ends_read}

module _ (epoch : EpochInput) (flow : Flow) (last : Bags) where
  -- the last bags of these vertices are those of the flow
  abbrev Agree : List ℕ → Type 0
  Agree = AllEndAs flow [] last

  outputs_one : (v : Vertex) (kind : Kind) → Agree (read_of v kind) → outputs_at (emitted last) v kind ≡ outputs_at (λ s. flow s []) v kind
  outputs_one v output h = λ i. map (λ r. record { vertex = v.number; rec = r }) (h.0.1 i)
  outputs_one v _ h = refl

  pub outputs_alike : (nodes : Nodes) → Agree (read_in nodes) → outputs_in (emitted last) nodes ≡ outputs_in (λ s. flow s []) nodes
  outputs_alike done h = refl
  outputs_alike (node v rest) h =
      λ i. outputs_one v v.kind (all_left (EndsAs flow [] last) (read_of v v.kind) (read_in rest) h) i ++ outputs_alike rest (all_right (EndsAs flow [] last) (read_of v v.kind) (read_in rest) h) i
  outputs_alike (block b body rest) h = outputs_alike rest (all_right (EndsAs flow [] last) (leaves_of body) (read_in rest) h)

  states_one : (v : Vertex) (kind : Kind) (all own : List ℕ) (states : StateList) → Agree own → AreAmong (readable all [] own kind) v.sources
      → states_by epoch v kind (arrivals (map (emitted last) v.sources)) states ≡ states_by epoch v kind (arrivals (map (λ s. flow s []) v.sources)) states
  states_one v (Fold code) all own states h found =
      ap (λ bags. states_by epoch v (Fold code) (arrivals bags) states) (map_alike (emitted last) (λ s. flow s []) v.sources
      (all_map (λ s. list_any (λ x. x == s) own ≡ true) (λ s. emitted last s ≡ flow s []) (λ s f. (pick (EndsAs flow [] last) own s h f).1) v.sources found))
  states_one v _ all own states h found = refl

  pub states_alike : (nodes : Nodes) (all own : List ℕ) (n : ℕ) (states : StateList) → IsWellPlaced all [] own n nodes → Agree own → Agree (read_in nodes)
      → states_in epoch (emitted last) nodes states ≡ states_in epoch (λ s. flow s []) nodes states
  states_alike done all own n states placed o h = refl
  states_alike (node v rest) all own n states placed o h =
      let here : Agree (read_of v v.kind) = all_left (EndsAs flow [] last) (read_of v v.kind) (read_in rest) h in
      states_alike rest all (own ++ read_of v v.kind) (n + 1) (states_by epoch v v.kind (arrivals (map (emitted last) v.sources)) states) placed.2
      (all_append (EndsAs flow [] last) own (read_of v v.kind) o here) (all_right (EndsAs flow [] last) (read_of v v.kind) (read_in rest) h)
      ∙ ap (states_in epoch (λ s. flow s []) rest) (states_one v v.kind all own states o placed.1)
  states_alike (block b body rest) all own n states placed o h =
      states_alike rest all (own ++ leaves_of body) (n + size body) states placed.1
      (all_append (EndsAs flow [] last) own (leaves_of body) o (all_left (EndsAs flow [] last) (leaves_of body) (read_in rest) h)) (all_right (EndsAs flow [] last) (leaves_of body) (read_in rest) h)

pub epoch_is_solution : (epoch : EpochInput) (nodes : Nodes) (flow : Flow) → IsPlacedTree nodes → Solves epoch flow [] nodes → epoch_result epoch nodes ≡ result_of epoch nodes (λ v. flow v [])
epoch_is_solution epoch nodes flow placed solves =
    let last : Bags = epoch_bags epoch nodes in
    let flows : IsFlow epoch flow nodes [] = solution_is_flow epoch flow nodes [] [] tt solves in
    let ends : AllEndAs flow [] last (read_in nodes) = ends_read epoch flow nodes [] last (turn_ends epoch flow nodes (read_in nodes) [] [] None [] [] placed flows refl tt) flows in
    λ i. record {
      states = states_alike epoch flow last nodes (read_in nodes) [] 0 epoch.states placed tt ends i;
      outs = bag_of output_cmp (outputs_alike epoch flow last nodes ends i);
    }
