-- Where every released epoch has passed, as many records were answered as the batch meaning has on all edges in all turns.
use Rattle.std.proofs.Common.{◌≡◌, ℕ, ◌+◌, ◌-◌, ◌<◌, ◌≤◌, Bool, true, List, [], ◌∷◌, map, flat_map, filter, length, get_or, refl, ap, sym, ◌∙◌, subst, arith, sum_by}
use Rattle.std.specs.List.{AllByRecursion, enumerate_from}
use Rattle.std.proofs.lemmas.List.{length-map}
use Rattle.td_stamp.specs.declared.values.Arrival.{Arrival}
use Rattle.td_stamp.specs.Orders.{arrival_cmp}
use Rattle.td_stamp.specs.Time.{Timestamp}
use Rattle.td_stamp.specs.Bag.{bag_of}
use Rattle.td_plan.specs.declared.vertex.Loop.{Loop}
use Rattle.td_plan.specs.declared.vertex.Edge.{Edge}
use Rattle.td_plan.specs.Lines.{Line}
use Rattle.td_plan.specs.Blocks.{PlacedVertex, vertices, edges, edges_to}
use Rattle.td_plan.specs.Tree.{Nodes, size, tree_of, placed_in, IsNumbered}
use Rattle.td_plan.specs.Tree.Nodes.{done, node, block}
use Rattle.td_plan.specs.Placed.{IsPlacedTree}
use Rattle.td_calls.specs.Answers.{Answers}
use Rattle.td_calls.specs.Callbacks.{arrivals}
use Rattle.td_batch.specs.Meaning.{EpochInput, states_after}
use Rattle.td_batch.specs.Flow.{Flow, numbers_from}
use Rattle.td_batch.specs.BagAt.{bag_at}
use Rattle.td_machine.specs.declared.records.Message.{Message}
use Rattle.td_machine.specs.declared.records.Stamped.{Stamped}
use Rattle.td_machine.specs.State.{HallState, message_cmp, arrival}
use Rattle.td_machine.specs.Active.{kind_of, bound_of, has_passed}
use Rattle.td_machine.specs.Steps.{posts, posted, on_edge, sending_times}
use Rattle.td_machine.proofs.History.{Origin, History, Invariant, IsTime, epoch_from, came_at}
use Rattle.td_machine.proofs.PlanFacts.{PlanFacts}
use Rattle.td_machine.proofs.Flows.{flow_of, AreLaid}
use Rattle.td_machine.specs.Work.{epoch_records, epochs_of, Records}
use Rattle.td_machine.proofs.Orders.{there_is}
use Rattle.td_machine.proofs.Lists.{all_app, all_map, all_flat, all_weaken, all_both, all_everywhere}
use Rattle.td_machine.proofs.Bags.{all_join, from_join}
use Rattle.td_machine.proofs.Times.{all_posted}
use Rattle.td_machine.proofs.Plain.{passed_all}
use Rattle.td_machine.proofs.Passed.{came_is_posted, all_come}
use Rattle.td_machine.proofs.Solved.{passed_solves}
use Rattle.td_machine.proofs.Runs.{run_states}
use Rattle.td_machine.proofs.Places.{Place, places, comes_at, is_place, place_once, Into, places_into, ReadsSame, places_alike}
use Rattle.td_machine.proofs.ByPlaces.{records_by_places}
use Rattle.td_machine.proofs.Sums.{sum_map, sum_flat, sum_alike, sum_shift, all_numbers, count, count_map, count_none, by_keys, one_of, not_true}
use Rattle.td_machine.specs.Below.{Below}

module _ (below : Below) where
  -- NUMBERS of a tree, and the readers of edges
  numbers_small : (nodes : Nodes) (loops : List Loop) (n most : ℕ) → IsNumbered n nodes → n + size nodes ≤ most → AllByRecursion (λ (p : PlacedVertex). p.vertex.number < most) (placed_in loops n nodes)
  numbers_small done loops n most numbered l = tt
  numbers_small (node v rest) loops n most numbered l = (omega (arith, numbered.0, l), numbers_small rest loops (n + 1) most numbered.1 (omega (arith, l)))
  numbers_small (block b body rest) loops n most numbered l =
      all_app (λ (p : PlacedVertex). p.vertex.number < most) (placed_in (record { first = n; bound = b } ∷ loops) n body) (placed_in loops (n + size body) rest)
      (numbers_small body (record { first = n; bound = b } ∷ loops) n most numbered.0 (omega (arith, l))) (numbers_small rest loops (n + size body) most numbered.1 (omega (arith, l)))

  readers_small : (plan : List Line) → IsNumbered 0 (tree_of plan) → placed_in [] 0 (tree_of plan) ≡ vertices plan → AllByRecursion (λ (e : Edge). e.reader < size (tree_of plan)) (edges plan)
  readers_small plan numbered all =
      all_flat (λ (e : Edge). e.reader < size (tree_of plan)) edges_to (vertices plan)
      (all_weaken (λ (p : PlacedVertex). p.vertex.number < size (tree_of plan)) (λ p. AllByRecursion (λ (e : Edge). e.reader < size (tree_of plan)) (edges_to p))
      (λ p l. all_map (λ (e : Edge). e.reader < size (tree_of plan)) (λ (s : ℕ × ℕ). let e : Edge = record { source = s.1; reader = p.vertex.number; port = s.0 } in e) (enumerate_from 0 p.vertex.sources) (all_everywhere (λ (s : ℕ × ℕ). p.vertex.number < size (tree_of plan)) (λ s. l) (enumerate_from 0 p.vertex.sources)))
      (vertices plan) (subst (AllByRecursion (λ (p : PlacedVertex). p.vertex.number < size (tree_of plan))) all (numbers_small (tree_of plan) [] 0 (size (tree_of plan)) numbered (omega arith))))

  module _ (answers : Answers) (origin : Origin) (S : HallState) (H : History) (facts : PlanFacts S.plan) (numbered : IsNumbered 0 (tree_of S.plan)) (laid : AreLaid S.plan [] (tree_of S.plan)) (placed : IsPlacedTree (tree_of S.plan))
      (all : placed_in [] 0 (tree_of S.plan) ≡ vertices S.plan) (inv : Invariant answers origin S H) (passed : (e : ℕ) → origin.first ≤ e → e < S.next → has_passed S e ≡ true) where
    abbrev nodes : Nodes
    nodes = tree_of S.plan

    abbrev spots : List Place
    spots = places [] nodes

    abbrev released : List ℕ
    released = numbers_from origin.first (length origin.batches)

    -- every record came to a vertex of the tree
    abbrev IsSmall : Message → Type 0
    IsSmall c = c.vertex < size nodes

    posted_small : (x : Stamped) → AllByRecursion IsSmall (posted S.plan x)
    posted_small x = all_posted S.plan IsSmall x (all_weaken (λ (e : Edge). e.reader < size nodes) (λ e. e.source ≡ x.vertex → AllByRecursion (λ later. IsSmall (on_edge later x.rec e)) (sending_times (kind_of S.plan x.vertex) (bound_of S.plan x.vertex) x.time))
        (λ e l s. all_everywhere (λ (later : Timestamp). e.reader < size nodes) (λ later. l) (sending_times (kind_of S.plan x.vertex) (bound_of S.plan x.vertex) x.time)) (edges S.plan) (readers_small S.plan numbered all))

    pub arrived_small : AllByRecursion IsSmall H.arrived
    arrived_small =
        let sent : AllByRecursion IsSmall (posts S.plan H.sent) = all_flat IsSmall (posted S.plan) H.sent (all_everywhere (λ x. AllByRecursion IsSmall (posted S.plan x)) posted_small H.sent) in
        let bag : AllByRecursion IsSmall (bag_of message_cmp (posts S.plan H.sent)) = all_join message_cmp IsSmall (posts S.plan H.sent) [] sent tt in
        let both = from_join message_cmp IsSmall S.messages (bag_of message_cmp H.arrived) (subst (AllByRecursion IsSmall) (sym inv.running.told.balance) bag) in
        (from_join message_cmp IsSmall H.arrived [] both.1).0

    -- A VERTEX AND A TIME, as a key
    abbrev Key : Type 0
    Key = ℕ × Place

    abbrev keys : List Key
    keys = flat_map (λ e. map (λ p. (e, p)) spots) released

    pub one_key : (w : ℕ) (t : Timestamp) → w < size nodes → IsTime origin S.next S.plan w t → count (λ (k : Key). is_place S.plan k.0 w t k.1) keys ≡ 1
    one_key w t small time =
        one_of (λ e. map (λ p. (e, p)) spots) (λ (k : Key). is_place S.plan k.0 w t k.1) t.epoch
        (λ j other. count_map (λ (k : Key). is_place S.plan k.0 w t k.1) (λ p. (j, p)) spots ∙ count_none (λ p. is_place S.plan j w t p) spots (λ p. not_true (is_place S.plan j w t p) (λ h. other (sym (ap (λ (u : Timestamp). u.epoch) (there_is p.0.number w (record { epoch = j; turns = p.1 }) t h).1)))))
        origin.first (length origin.batches)
        (count_map (λ (k : Key). is_place S.plan k.0 w t k.1) (λ p. (t.epoch, p)) spots ∙ place_once S.plan t.epoch w t refl time.2 nodes [] 0 numbered laid (omega arith) (omega (arith, small)))
        time.0 (let l = time.1 in omega (arith, l, inv.stands.next))

    abbrev by_key : Key → Message → Bool
    by_key k c = is_place S.plan k.0 c.vertex c.time k.1

    arrived_by_key : length H.arrived ≡ sum_by (λ e. sum_by (λ p. count (by_key (e, p)) H.arrived) spots) released
    arrived_by_key =
        by_keys by_key keys H.arrived (all_weaken (λ c. IsSmall c × IsTime origin S.next S.plan c.vertex c.time) (λ c. count (λ k. by_key k c) keys ≡ 1) (λ c h. one_key c.vertex c.time h.0 h.1) H.arrived
        (all_both IsSmall (λ c. IsTime origin S.next S.plan c.vertex c.time) H.arrived arrived_small inv.running.answered.arrived_times))
        ∙ sum_flat (λ k. count (by_key k) H.arrived) (λ e. map (λ p. (e, p)) spots) released
        ∙ sum_alike (λ e. sum_by (λ k. count (by_key k) H.arrived) (map (λ p. (e, p)) spots)) (λ e. sum_by (λ p. count (by_key (e, p)) H.arrived) spots) released
        (all_everywhere (λ e. sum_by (λ k. count (by_key k) H.arrived) (map (λ p. (e, p)) spots) ≡ sum_by (λ p. count (by_key (e, p)) H.arrived) spots) (λ e. sum_map (λ k. count (by_key k) H.arrived) (λ p. (e, p)) spots) released)

    -- OF A PASSED EPOCH: what came to a vertex is what comes to it by the batch meaning
    abbrev epoch_at : ℕ → EpochInput
    epoch_at e = epoch_from answers origin H.left e

    pub came_alike : (e : ℕ) → origin.first ≤ e → e < S.next
        → AllByRecursion (λ p. bag_of arrival_cmp (came_at H.arrived p.0.number (record { epoch = e; turns = p.1 })) ≡ bag_of arrival_cmp (comes_at (bag_at (epoch_at e) nodes) p)) spots
    came_alike e low high =
        let done = passed_all below answers origin S H e (passed e low high) in
        let f : Flow = flow_of S.plan H.sent e in
        let g : Flow = bag_at (epoch_at e) nodes in
        let same = places_alike f g nodes [] (below.one_flow (epoch_at e) nodes f g placed (passed_solves below answers origin S H inv.running e low high done nodes [] laid) (below.turns_solve (epoch_at e) nodes placed)) in
        all_weaken (λ p. Into S.plan p × ReadsSame f g p) (λ p. bag_of arrival_cmp (came_at H.arrived p.0.number (record { epoch = e; turns = p.1 })) ≡ bag_of arrival_cmp (comes_at (bag_at (epoch_at e) nodes) p))
        (λ p h. came_is_posted below answers origin S H inv.running e done p.0.number (record { epoch = e; turns = p.1 }) refl ∙ all_come below S.plan H.sent p.0.number p.0.sources h.0 e p.1 ∙ ap (λ l. bag_of arrival_cmp (arrivals l)) h.1)
        spots (all_both (Into S.plan) (ReadsSame f g) spots (places_into S.plan nodes [] laid) same)

    long : (xs : List Arrival) → length xs ≡ length (bag_of arrival_cmp xs)
    long xs = let l = below.arrivals.size xs [] in sym (l ∙ omega arith)

    -- RECORDS OF AN EPOCH: as many came as the batch meaning has
    epoch_work : (e : ℕ) → origin.first ≤ e → e < S.next → sum_by (λ p. count (by_key (e, p)) H.arrived) spots ≡ epoch_records S.plan (epoch_at e)
    epoch_work e low high =
        sum_alike (λ p. count (by_key (e, p)) H.arrived) (λ p. length (comes_at (bag_at (epoch_at e) nodes) p)) spots
        (all_weaken (λ p. bag_of arrival_cmp (came_at H.arrived p.0.number (record { epoch = e; turns = p.1 })) ≡ bag_of arrival_cmp (comes_at (bag_at (epoch_at e) nodes) p)) (λ p. count (by_key (e, p)) H.arrived ≡ length (comes_at (bag_at (epoch_at e) nodes) p))
        (λ p h. sym (length-map (filter (by_key (e, p)) H.arrived) arrival) ∙ long (came_at H.arrived p.0.number (record { epoch = e; turns = p.1 })) ∙ ap length h ∙ sym (long (comes_at (bag_at (epoch_at e) nodes) p))) spots (came_alike e low high))
        ∙ records_by_places S.plan all (epoch_at e) facts.read

    -- the released epochs are those of the run
    pub run_epochs : (work : EpochInput → ℕ) → sum_by (λ e. work (epoch_at e)) released ≡ sum_by work (epochs_of answers S.plan origin.states origin.batches)
    run_epochs work =
        let n : ℕ = length origin.batches in
        let none : origin.first ≡ origin.first + 0 = omega arith in
        let of_run : ℕ → EpochInput = λ m. record { answers = answers; states = states_after answers nodes origin.states origin.batches m; batch = get_or origin.batches m [] } in
        (λ i. sum_by (λ e. work (epoch_at e)) (numbers_from (none i) n)) ∙ sum_shift (λ e. work (epoch_at e)) origin.first 0 n
        ∙ sum_alike (λ m. work (epoch_at (origin.first + m))) (λ m. work (of_run m)) (numbers_from 0 n)
        (all_weaken (λ m. (0 ≤ m) × (m < 0 + n)) (λ m. work (epoch_at (origin.first + m)) ≡ work (of_run m))
        (λ m h.
        let under = h.1 in
        let index : origin.first + m - origin.first ≡ m = omega arith in
        let states = run_states below answers origin S H facts numbered laid placed inv m (omega (arith, under, inv.stands.next)) (λ d a b. passed d a (omega (arith, b, under, inv.stands.next))) in
        λ i. work (record { answers = answers; states = states i; batch = get_or origin.batches (index i) [] })) (numbers_from 0 n) (all_numbers 0 n))
        ∙ sym (sum_map work of_run (numbers_from 0 n))

    -- of all epochs
    pub over_epochs : (given : ℕ → ℕ) (work : EpochInput → ℕ) → ((e : ℕ) → origin.first ≤ e → e < S.next → given e ≡ work (epoch_at e)) → sum_by given released ≡ sum_by work (epochs_of answers S.plan origin.states origin.batches)
    over_epochs given work each =
        sum_alike given (λ e. work (epoch_at e)) released
        (all_weaken (λ e. (origin.first ≤ e) × (e < origin.first + length origin.batches)) (λ e. given e ≡ work (epoch_at e)) (λ e h. each e h.0 (let l = h.1 in omega (arith, l, inv.stands.next))) released (all_numbers origin.first (length origin.batches)))
        ∙ run_epochs work

    -- RECORDS: as many were answered as the batch meaning has
    pub records_are : length H.arrived ≡ Records answers S.plan origin.states origin.batches
    records_are = arrived_by_key ∙ over_epochs (λ e. sum_by (λ p. count (by_key (e, p)) H.arrived) spots) (epoch_records S.plan) epoch_work
