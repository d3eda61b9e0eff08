-- FOR PROOFS: what the laws of the crates below say of what stands here. `laws_below` has it from their contracts. Proofs take it
-- as an argument, and cite no proof of another crate.
use Rattle.std.specs.Prelude.{◌≡◌, ℕ, ◌≤◌, ◌<◌, true, List, [], ◌∷◌, ◌++◌, length, Some, slice_get}
use Rattle.std.specs.List.{AllByRecursion}
use Rattle.std.specs.Ordering.{nat_cmp}
use Rattle.td_stamp.specs.declared.values.Arrival.{Arrival}
use Rattle.td_stamp.specs.Orders.{rec_cmp, arrival_cmp, output_cmp}
use Rattle.td_stamp.specs.Bag.{bag_of}
use Rattle.td_stamp.specs.BagLaws.{BagLaws, SetLaws}
use Rattle.td_stamp.specs.Groups.{groups}
use Rattle.td_plan.specs.declared.vertex.Kind.{Kind}
use Rattle.td_plan.specs.declared.vertex.Edge.{Edge}
use Rattle.td_plan.specs.Lines.{Line}
use Rattle.td_plan.specs.Blocks.{PlacedVertex, vertices, edges, edge_at, reading_loops_at, read_loops_at}
use Rattle.td_plan.specs.LookedUp.{IsSourceAt}
use Rattle.td_plan.specs.Faults.{IsPlan, is_in_loop}
use Rattle.td_plan.specs.Laid.{AreLaid}
use Rattle.td_plan.specs.Placed.{IsPlacedTree}
use Rattle.td_plan.specs.Standing.{may_stand, IsBounded}
use Rattle.td_plan.specs.Tree.{Nodes, tree_of, placed_in, size, IsNumbered}
use Rattle.td_reach.specs.declared.stamp.Stamp.{Stamp}
use Rattle.td_reach.specs.Paths.{Could, IsOf}
use Rattle.td_reach.specs.Laws.{IsLeast}
use Rattle.td_batch.specs.Meaning.{EpochInput, answer, epoch_result, result_of}
use Rattle.td_batch.specs.Flow.{Flow, Solves}
use Rattle.td_batch.specs.BagAt.{bag_at}
use Rattle.td_batch.specs.SameFlow.{ReadAlike}
use Rattle.td_machine.specs.State.{message_cmp, stamped_cmp, notification_cmp, output_at_cmp, left_cmp}

pub record Below : Type 0 where
  -- of bags and sets
  pub messages : BagLaws message_cmp
  pub stamped : BagLaws stamped_cmp
  pub left : BagLaws left_cmp
  pub outputs_at : BagLaws output_at_cmp
  pub outputs : BagLaws output_cmp
  pub recs : BagLaws rec_cmp
  pub arrivals : BagLaws arrival_cmp
  pub notifications : SetLaws notification_cmp
  pub rec_sets : SetLaws rec_cmp
  pub number_sets : SetLaws nat_cmp
  pub groups_middle : (xs : List Arrival) (a : Arrival) (ys : List Arrival) → groups (xs ++ a ∷ ys) ≡ groups (a ∷ xs ++ ys)
  pub groups_of_bag : (xs : List Arrival) → groups (bag_of arrival_cmp xs) ≡ groups xs
  -- of plans
  pub numbered : (plan : List Line) → IsPlan plan → IsNumbered 0 (tree_of plan)
  pub placed : (plan : List Line) → IsPlan plan → IsPlacedTree (tree_of plan)
  pub in_order : (plan : List Line) → IsPlan plan → placed_in [] 0 (tree_of plan) ≡ vertices plan
  pub many : (plan : List Line) → IsPlan plan → length (vertices plan) ≡ size (tree_of plan)
  pub kinds_stand : (plan : List Line) → IsPlan plan → (v : ℕ) (p : PlacedVertex) → slice_get (vertices plan) v ≡ Some p → may_stand (is_in_loop p.loops) p.vertex.kind ≡ true
  pub bounds_stand : (plan : List Line) → IsPlan plan → (v : ℕ) (p : PlacedVertex) → slice_get (vertices plan) v ≡ Some p → AllByRecursion IsBounded p.loops
  pub read_there : (plan : List Line) → IsPlan plan → (reader port source : ℕ) → IsSourceAt plan reader port source → read_loops_at plan source ≡ Some (reading_loops_at plan reader)
  pub edge_numbers : (plan : List Line) → IsPlan plan → (i : ℕ) (e : Edge) → slice_get (edges plan) i ≡ Some e → edge_at plan e.reader e.port ≡ i
  pub edge_sources : (plan : List Line) → IsPlan plan → (i : ℕ) (e : Edge) → slice_get (edges plan) i ≡ Some e → IsSourceAt plan e.reader e.port e.source
  pub laid : (plan : List Line) → IsPlan plan → AreLaid plan [] (tree_of plan)
  -- of could-result-in
  pub no_way_back : (plan : List Line) → IsPlan plan → (p : Stamp) → IsOf plan p → (k : Could plan p p) → k.path ≡ []
  pub epochs : (plan : List Line) (p q : Stamp) → Could plan p q → p.time.epoch ≤ q.time.epoch
  pub some_least : (plan : List Line) → IsPlan plan → (all : List Stamp) → 0 < length all → ((i : ℕ) (p : Stamp) → slice_get all i ≡ Some p → IsOf plan p) → (p : Stamp) × IsLeast plan all p
  -- of the batch meaning
  pub answer_alike : (epoch : EpochInput) (v : ℕ) (kind : Kind) (xs ys : List Arrival) → bag_of arrival_cmp xs ≡ bag_of arrival_cmp ys → answer epoch v kind xs ≡ answer epoch v kind ys
  pub one_meaning : (epoch : EpochInput) (nodes : Nodes) (flow : Flow) → IsPlacedTree nodes → Solves epoch flow [] nodes → epoch_result epoch nodes ≡ result_of epoch nodes (λ v. flow v [])
  pub turns_solve : (epoch : EpochInput) (nodes : Nodes) → IsPlacedTree nodes → Solves epoch (bag_at epoch nodes) [] nodes
  pub one_flow : (epoch : EpochInput) (nodes : Nodes) (f g : Flow) → IsPlacedTree nodes → Solves epoch f [] nodes → Solves epoch g [] nodes → ReadAlike f g [] nodes
