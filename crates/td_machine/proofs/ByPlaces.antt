-- The work of an epoch, by the places at which the vertices read: the records on all edges are those that come to all places,
-- and the notifications are those of all places.
use Rattle.std.proofs.Common.{◌≡◌, ℕ, ◌+◌, List, [], ◌∷◌, map, flat_map, length, refl, ap, sym, ◌∙◌, length-append, sum_by}
use Rattle.std.specs.Prelude.{Some, if◌then◌else◌}
use Rattle.std.specs.List.{AllByRecursion, enumerate_from}
use Rattle.std.proofs.lemmas.List.{length-map}
use Rattle.std.proofs.lemmas.List.Sums.{sum_by-cons}
use Rattle.td_stamp.specs.declared.values.Rec.{Rec}
use Rattle.td_stamp.specs.Groups.{arrival_of}
use Rattle.td_plan.specs.declared.vertex.Edge.{Edge}
use Rattle.td_plan.specs.Lines.{Line}
use Rattle.td_plan.specs.Blocks.{PlacedVertex, vertices, edges_to, bounds, reading_loops, read_loops_at}
use Rattle.td_plan.specs.Tree.{tree_of, placed_in}
use Rattle.td_calls.specs.Callbacks.{is_notified}
use Rattle.td_batch.specs.Meaning.{EpochInput}
use Rattle.td_batch.specs.Flow.{Flow}
use Rattle.td_batch.specs.BagAt.{bag_at}
use Rattle.td_machine.proofs.PlanFacts.{AreReadThere}
use Rattle.td_machine.specs.Work.{turns_of, turns_read, edge_records, comes_to, shards_of, vertex_notes, epoch_records, epoch_notes}
use Rattle.td_machine.proofs.Lists.{all_weaken}
use Rattle.td_machine.proofs.Places.{Place, places, comes_at, over_turns, places_sum}
use Rattle.td_machine.proofs.Sums.{sum_map, sum_flat, sum_alike, sum_everywhere, sum_swap, sum_filter, sum_if}

-- the notifications of a place
abbrev pub notes_at : ℕ → Flow → Place → ℕ
notes_at workers flow p = if is_notified p.0.kind then length (shards_of workers (comes_at flow p)) else 0

-- what comes, by ports
arrivals_long : (f : ℕ → List Rec) (n : ℕ) (ss : List ℕ) → length (flat_map (λ (b : ℕ × List Rec). map (arrival_of b.0) b.1) (enumerate_from n (map f ss))) ≡ sum_by (λ (s : ℕ × ℕ). length (f s.1)) (enumerate_from n ss)
arrivals_long f n [] = refl
arrivals_long f n (s ∷ ss) =
    length-append (map (arrival_of n) (f s)) (flat_map (λ (b : ℕ × List Rec). map (arrival_of b.0) b.1) (enumerate_from (n + 1) (map f ss)))
    ∙ (λ i. length-map (f s) (arrival_of n) i + arrivals_long f (n + 1) ss i)
    ∙ sym (sum_by-cons (λ (s : ℕ × ℕ). length (f s.1)) (n, s) (enumerate_from (n + 1) ss))

module _ (plan : List Line) (all : placed_in [] 0 (tree_of plan) ≡ vertices plan) (epoch : EpochInput) where
  abbrev flow : Flow
  flow = bag_at epoch (tree_of plan)

  -- NOTES
  pub notes_by_places : (workers : ℕ) → sum_by (notes_at workers flow) (places [] (tree_of plan)) ≡ epoch_notes workers plan epoch
  notes_by_places workers =
      places_sum (notes_at workers flow) (tree_of plan) [] 0 ∙ ap (sum_by (over_turns (notes_at workers flow))) all
      ∙ sum_everywhere (over_turns (notes_at workers flow)) (λ p. if is_notified p.vertex.kind then vertex_notes workers flow p else 0) (vertices plan)
      (λ p. sym (sum_if (is_notified p.vertex.kind) (λ counters. length (shards_of workers (comes_to flow p.vertex counters))) (turns_of (bounds (reading_loops p.vertex.kind p.loops)))))
      ∙ sym (sum_filter (λ p. is_notified p.vertex.kind) (vertex_notes workers flow) (vertices plan))

  -- RECORDS
  abbrev edge_to_it : PlacedVertex → ℕ × ℕ → Edge
  edge_to_it p s = record { source = s.1; reader = p.vertex.number; port = s.0 }

  at_vertex : (p : PlacedVertex) → AreReadThere plan p → over_turns (λ q. length (comes_at flow q)) p ≡ sum_by (edge_records flow plan) (edges_to p)
  at_vertex p there =
      let turns : List (List ℕ) = turns_of (bounds (reading_loops p.vertex.kind p.loops)) in
      let ports : List (ℕ × ℕ) = enumerate_from 0 p.vertex.sources in
      sum_everywhere (λ counters. length (comes_to flow p.vertex counters)) (λ counters. sum_by (λ (s : ℕ × ℕ). length (flow s.1 counters)) ports) turns (λ counters. arrivals_long (λ s. flow s counters) 0 p.vertex.sources)
      ∙ sum_swap (λ counters (s : ℕ × ℕ). length (flow s.1 counters)) turns ports
      ∙ sum_alike (λ (s : ℕ × ℕ). sum_by (λ counters. length (flow s.1 counters)) turns) (λ s. edge_records flow plan (edge_to_it p s)) ports
      (all_weaken (λ (s : ℕ × ℕ). read_loops_at plan s.1 ≡ Some (reading_loops p.vertex.kind p.loops)) (λ s. sum_by (λ counters. length (flow s.1 counters)) turns ≡ edge_records flow plan (edge_to_it p s))
      (λ s e. ap (λ o. sum_by (λ counters. length (flow s.1 counters)) (turns_read o)) (sym e)) ports there)
      ∙ sym (sum_map (edge_records flow plan) (edge_to_it p) ports)

  pub records_by_places : AllByRecursion (AreReadThere plan) (vertices plan) → sum_by (λ p. length (comes_at flow p)) (places [] (tree_of plan)) ≡ epoch_records plan epoch
  records_by_places read =
      places_sum (λ p. length (comes_at flow p)) (tree_of plan) [] 0 ∙ ap (sum_by (over_turns (λ p. length (comes_at flow p)))) all
      ∙ sum_alike (over_turns (λ p. length (comes_at flow p))) (λ p. sum_by (edge_records flow plan) (edges_to p)) (vertices plan)
      (all_weaken (AreReadThere plan) (λ p. over_turns (λ q. length (comes_at flow q)) p ≡ sum_by (edge_records flow plan) (edges_to p)) at_vertex (vertices plan) read)
      ∙ sym (sum_flat (edge_records flow plan) edges_to (vertices plan))
