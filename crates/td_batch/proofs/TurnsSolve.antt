-- The bags of the nested turns solve the flat equations.
use Rattle.std.proofs.Common.{◌≡◌, ℕ, zero, suc, ◌+◌, ◌-◌, ◌<◌, ◌≤◌, List, [], ◌∷◌, ◌++◌, flat_map, length, Option, Some, None, refl, ap, sym, ◌∙◌, subst, arith, length-append, append-nil}
use Rattle.std.specs.List.{AllByRecursion}
use Rattle.std.proofs.lemmas.List.{get_or_append_left, get_or-append_right, get_or_push}
use Rattle.std.proofs.lemmas.Bool.{lt-ltb, le-ltb}
use Rattle.td_stamp.specs.declared.values.Rec.{Rec}
use Rattle.td_stamp.specs.Orders.{rec_cmp}
use Rattle.td_stamp.specs.Bag.{bag_of}
use Rattle.td_plan.specs.declared.vertex.Kind.{Kind}
use Rattle.td_plan.specs.declared.vertex.Kind.TheVariants.{Enter, Feedback, Leave}
use Rattle.td_plan.specs.Lines.{Vertex}
use Rattle.td_plan.specs.Tree.{Nodes, size}
use Rattle.td_plan.specs.Tree.Nodes.{done, node, block}
use Rattle.td_plan.specs.Placed.{read_in, IsPlacedTree}
use Rattle.td_calls.specs.Callbacks.{arrivals}
use Rattle.td_batch.specs.Meaning.{EpochInput, Bags, emitted, answer, bags_read, emission, turns, turn}
use Rattle.td_batch.specs.Flow.{Flow, read_at, answer_at, leave_at, numbers_from, AreBelow, Equation, Solves}
use Rattle.td_batch.specs.BagAt.{before_turn, bag_on_path, onto, bag_at}
use Rattle.td_batch.proofs.Lists.{all_map, map_alike}
use Rattle.td_batch.proofs.Flows.{Sends, SendsOut, LeavesSend, IsFlow}
use Rattle.td_batch.proofs.Turns.{emitted-over_turns, loop_bags, length-loop_bags, turn_keeps}
use Rattle.td_batch.proofs.Ranges.{AreSources, IsRanged, block_range, ranged}

-- a vertex's bags in the turns from turn j on
turns_by_number : (turn : Option Bags → Bags) (v j n : ℕ) → flat_map (λ bags. emitted bags v) (turns turn n (before_turn turn j)) ≡ flat_map (λ k. emitted (turn (before_turn turn k)) v) (numbers_from j n)
turns_by_number turn v j zero = refl
turns_by_number turn v j (suc n) = λ i. emitted (turn (before_turn turn j)) v ++ turns_by_number turn v (suc j) n i

alike_by_number : (f g : ℕ → List Rec) (j n : ℕ) → ((k : ℕ) → k < j + n → f k ≡ g k) → flat_map f (numbers_from j n) ≡ flat_map g (numbers_from j n)
alike_by_number f g j zero h = refl
alike_by_number f g j (suc n) h = λ i. h j (omega arith) i ++ alike_by_number f g (suc j) n (λ k l. h k (omega arith)) i

module _ (epoch : EpochInput) where
  -- the turns of a loop, in a block that has these bags so far
  abbrev one_turn : Nodes → Bags → Option Bags → Bags
  one_turn body bags earlier = turn epoch body earlier bags

  length_loop : (bound : ℕ) (body : Nodes) (bags : Bags) → length (bags ++ loop_bags epoch bound body bags) ≡ length bags + size body
  length_loop bound body bags = length-append bags (loop_bags epoch bound body bags) ∙ ap (λ n. length bags + n) (length-loop_bags epoch bound body bags)

  length_node : (bags : Bags) (bag : List Rec) → length (bags ++ bag ∷ []) ≡ length bags + 1
  length_node bags bag = length-append bags (bag ∷ [])

  -- on the empty path is what the turn emits
  on_no_path : (nodes : Nodes) (before : Option Bags) (bags : Bags) (v : ℕ) → bag_on_path epoch nodes before bags v [] ≡ emitted (turn epoch nodes before bags) v
  on_no_path done before bags v = refl
  on_no_path (node w rest) before bags v = on_no_path rest before (bags ++ emission epoch before bags w ∷ []) v
  on_no_path (block bound body rest) before bags v = on_no_path rest before (bags ++ loop_bags epoch bound body bags) v

  -- a vertex of the loop, and one after it
  on_inner_path : (bound : ℕ) (body rest : Nodes) (before : Option Bags) (bags : Bags) (v k : ℕ) (path : List ℕ) → v < length bags + size body → k < bound
      → bag_on_path epoch (block bound body rest) before bags v (k ∷ path) ≡ bag_on_path epoch body (before_turn (one_turn body bags) k) bags v path
  on_inner_path bound body rest before bags v k path h l = rw (lt-ltb v (length bags + size body) h, lt-ltb k bound l, bag_on_path) refl

  on_later_path : (bound : ℕ) (body rest : Nodes) (before : Option Bags) (bags : Bags) (v k : ℕ) (path : List ℕ) → length bags + size body ≤ v
      → bag_on_path epoch (block bound body rest) before bags v (k ∷ path) ≡ bag_on_path epoch rest before (bags ++ loop_bags epoch bound body bags) v (k ∷ path)
  on_later_path bound body rest before bags v k path h = rw (le-ltb v (length bags + size body) h, bag_on_path) refl

  module _ (flow : Flow) where
    -- the vertices of a block emit what they answer to the flow
    abbrev Emit : Bags → Nodes → List ℕ → Type 0
    Emit bags done counters = Unit {0}
    Emit bags (node v rest) counters = (emitted bags v.number ≡ answer_at epoch flow v counters) × Emit bags rest counters
    Emit bags (block b body rest) counters = Emit bags rest counters

    -- What is known in a block of the vertices from first on and below total, inside one that begins at outer: the flow has
    -- the last bags of this turn, and those on longer paths; what enters, and what comes back, is what the turn reads
    record Ready (outer first total : ℕ) (nodes : Nodes) (before : Option Bags) (bags : Bags) (counters : List ℕ) : Type 0 where
      start : first ≤ length bags
      ends : length bags + size nodes ≡ total
      here : (s : ℕ) → first ≤ s → s < total → flow s counters ≡ emitted (turn epoch nodes before bags) s
      below : (v k : ℕ) (path : List ℕ) → length bags ≤ v → v < total → flow v (onto path (k ∷ counters)) ≡ bag_on_path epoch nodes before bags v (k ∷ path)
      enters : (s : ℕ) → outer ≤ s → s < first → read_at flow Enter counters s ≡ emitted (bags_read Enter before bags) s
      returns : (s : ℕ) → first ≤ s → s < total → read_at flow Feedback counters s ≡ emitted (bags_read Feedback before bags) s

    enters_more : (before : Option Bags) (bags more : Bags) (s : ℕ) → s < length bags → emitted (bags_read Enter before (bags ++ more)) s ≡ emitted (bags_read Enter before bags) s
    enters_more None bags more s h = get_or_append_left bags more [] s h
    enters_more (Some earlier) bags more s h = refl

    -- what is known after a vertex
    after_vertex : {outer first total : ℕ} {v : Vertex} {rest : Nodes} {before : Option Bags} {bags : Bags} {counters : List ℕ} → Ready outer first total (node v rest) before bags counters
        → Ready outer first total rest before (bags ++ emission epoch before bags v ∷ []) counters
    after_vertex {outer} {first} {total} {v} {rest} {before} {bags} {counters} r =
        let e = length_node bags (emission epoch before bags v) in
        record {
          start = omega (arith, e, r.start);
          ends = omega (arith, e, r.ends);
          here = r.here;
          below = λ w k path h l. r.below w k path (omega (arith, e)) l;
          enters = λ s h l. r.enters s h l ∙ sym (enters_more before bags (emission epoch before bags v ∷ []) s (omega (arith, r.start)));
          returns = r.returns;
        }

    -- after a loop
    after_loop : {outer first total bound : ℕ} {body rest : Nodes} {before : Option Bags} {bags : Bags} {counters : List ℕ} → Ready outer first total (block bound body rest) before bags counters
        → Ready outer first total rest before (bags ++ loop_bags epoch bound body bags) counters
    after_loop {outer} {first} {total} {bound} {body} {rest} {before} {bags} {counters} r =
        let e = length_loop bound body bags in
        record {
          start = omega (arith, e, r.start);
          ends = omega (arith, e, r.ends);
          here = r.here;
          below = λ w k path h l. r.below w k path (omega (arith, e)) l ∙ on_later_path bound body rest before bags w k path (omega (arith, e));
          enters = λ s h l. r.enters s h l ∙ sym (enters_more before bags (loop_bags epoch bound body bags) s (omega (arith, r.start)));
          returns = r.returns;
        }

    -- and in a turn of a loop
    in_turn : {outer first total bound : ℕ} {body rest : Nodes} {before : Option Bags} {bags : Bags} {counters : List ℕ} → Ready outer first total (block bound body rest) before bags counters
        → (k : ℕ) → k < bound → Ready first (length bags) (length bags + size body) body (before_turn (one_turn body bags) k) bags (k ∷ counters)
    in_turn {outer} {first} {total} {bound} {body} {rest} {before} {bags} {counters} r k l =
        record {
          start = omega arith;
          ends = refl;
          here = λ s h m. r.below s k [] h (omega (arith, r.ends)) ∙ on_inner_path bound body rest before bags s k [] m l ∙ on_no_path body (before_turn (one_turn body bags) k) bags s;
          below = λ v j path h m. r.below v k (j ∷ path) h (omega (arith, r.ends)) ∙ on_inner_path bound body rest before bags v k (j ∷ path) m l;
          enters = enters k l;
          returns = returns k l;
        }
      where
        outside : (s : ℕ) → first ≤ s → s < length bags → flow s counters ≡ emitted bags s
        outside s h m = r.here s h (omega (arith, r.ends)) ∙ turn_keeps epoch (block bound body rest) before bags s m

        enters : (k : ℕ) → k < bound → (s : ℕ) → first ≤ s → s < length bags → read_at flow Enter (k ∷ counters) s ≡ emitted (bags_read Enter (before_turn (one_turn body bags) k) bags) s
        enters zero l s h m = outside s h m
        enters (suc k) l s h m = refl

        returns : (k : ℕ) → k < bound → (s : ℕ) → length bags ≤ s → s < length bags + size body → read_at flow Feedback (k ∷ counters) s ≡ emitted (bags_read Feedback (before_turn (one_turn body bags) k) bags) s
        returns zero l s h m = refl
        returns (suc k) l s h m =
            r.below s k [] h (omega (arith, r.ends)) ∙ on_inner_path bound body rest before bags s k [] m (omega arith) ∙ on_no_path body (before_turn (one_turn body bags) k) bags s

    -- a vertex reads what its sources emitted
    reads : {outer first total : ℕ} {v : Vertex} {rest : Nodes} {before : Option Bags} {bags : Bags} {counters : List ℕ} → Ready outer first total (node v rest) before bags counters
        → (kind : Kind) → AreSources outer first total (length bags) kind v.sources → AllByRecursion (λ s. read_at flow kind counters s ≡ emitted (bags_read kind before bags) s) v.sources
    reads {outer} {first} {total} {v} {rest} {before} {bags} {counters} r kind p = by kind p
      where
        by : (kind : Kind) → AreSources outer first total (length bags) kind v.sources → AllByRecursion (λ s. read_at flow kind counters s ≡ emitted (bags_read kind before bags) s) v.sources
        by Enter p = all_map _ _ (λ s h. r.enters s h.0 h.1) v.sources p
        by Feedback p = all_map _ _ (λ s h. r.returns s h.0 h.1) v.sources p
        by _ p = all_map _ _ (λ s h. r.here s h.0 (omega (arith, r.ends, h.1)) ∙ turn_keeps epoch (node v rest) before bags s h.1) v.sources p

    -- what it emits is what it answers
    emission_is : {outer first total : ℕ} {v : Vertex} {rest : Nodes} {before : Option Bags} {bags : Bags} {counters : List ℕ} → Ready outer first total (node v rest) before bags counters
        → AreSources outer first total (length bags) v.kind v.sources → emission epoch before bags v ≡ answer_at epoch flow v counters
    emission_is {v} {before} {bags} {counters} r p =
        ap (λ read. answer epoch v.number v.kind (arrivals read)) (sym (map_alike (read_at flow v.kind counters) (emitted (bags_read v.kind before bags)) v.sources (reads r v.kind p)))

    leave_sends : (v : Vertex) (kind : Kind) (bound : ℕ) (counters : List ℕ) → flow v.number counters ≡ leave_at epoch flow v bound counters → SendsOut epoch flow bound v kind counters
    leave_sends v Leave bound counters e = e
    leave_sends v _ bound counters e = tt

    -- the leaves of a loop send outside what they answer in all turns
    leaves_send : (outer first total bound : ℕ) (bags_of : ℕ → Bags) (counters : List ℕ) (n : ℕ) (nodes : Nodes) → IsRanged outer first total n nodes
        → ((v : ℕ) → n ≤ v → v < n + size nodes → flow v counters ≡ bag_of rec_cmp (flat_map (λ k. emitted (bags_of k) v) (numbers_from 0 bound)))
        → ((k : ℕ) → k < bound → Emit (bags_of k) nodes (k ∷ counters)) → LeavesSend epoch flow bound nodes counters
    leaves_send outer first total bound bags_of counters n done p sent emit = tt
    leaves_send outer first total bound bags_of counters n (node v rest) p sent emit =
        (leave_sends v v.kind bound counters all, leaves_send outer first total bound bags_of counters (n + 1) rest p.2 (λ w h l. sent w (omega arith) (omega arith)) (λ k l. (emit k l).1))
      where
        all : flow v.number counters ≡ leave_at epoch flow v bound counters
        all = sent v.number (omega (arith, p.0)) (omega (arith, p.0)) ∙ ap (bag_of rec_cmp) (alike_by_number (λ k. emitted (bags_of k) v.number) (λ k. answer_at epoch flow v (k ∷ counters)) 0 bound (λ k l. (emit k (omega arith)).0))
    leaves_send outer first total bound bags_of counters n (block b body rest) p sent emit =
        leaves_send outer first total bound bags_of counters (n + size body) rest p.1 (λ w h l. sent w (omega arith) (omega arith)) emit

    vertex_sends : (v : Vertex) (kind : Kind) (counters : List ℕ) → flow v.number counters ≡ answer_at epoch flow v counters → Sends epoch flow v kind counters
    vertex_sends v Leave counters e = tt
    vertex_sends v _ counters e = e

    solve : (nodes : Nodes) (outer first total : ℕ) (before : Option Bags) (bags : Bags) (counters : List ℕ) → IsRanged outer first total (length bags) nodes → Ready outer first total nodes before bags counters
        → IsFlow epoch flow nodes counters × Emit (turn epoch nodes before bags) nodes counters
    solve done outer first total before bags counters p r = (tt, tt)
    solve (node v rest) outer first total before bags counters p r =
        let after = solve rest outer first total before (bags ++ emission epoch before bags v ∷ []) counters (subst (λ n. IsRanged outer first total n rest) (sym (length_node bags (emission epoch before bags v))) p.2) (after_vertex r) in
        ((vertex_sends v v.kind counters (r.here v.number (omega (arith, p.0, r.start)) (omega (arith, p.0, r.ends)) ∙ emits), after.0), (emits, after.1))
      where
        emits : emitted (turn epoch rest before (bags ++ emission epoch before bags v ∷ [])) v.number ≡ answer_at epoch flow v counters
        emits = let e = length_node bags (emission epoch before bags v) in
            ap (λ s. emitted (turn epoch rest before (bags ++ emission epoch before bags v ∷ [])) s) p.0
            ∙ turn_keeps epoch rest before (bags ++ emission epoch before bags v ∷ []) (length bags) (omega (arith, e))
            ∙ get_or_push bags (emission epoch before bags v) [] (length bags) refl ∙ emission_is r p.1
    solve (block bound body rest) outer first total before bags counters p r =
        let after = solve rest outer first total before (bags ++ loop_bags epoch bound body bags) counters (subst (λ n. IsRanged outer first total n rest) (sym (length_loop bound body bags)) p.1) (after_loop r) in
        let inside : (k : ℕ) → k < bound → IsFlow epoch flow body (k ∷ counters) × Emit (turn epoch body (before_turn (one_turn body bags) k) bags) body (k ∷ counters) =
        λ k l. solve body first (length bags) (length bags + size body) (before_turn (one_turn body bags) k) bags (k ∷ counters) p.0 (in_turn r k l) in
        ((λ k l. (inside k l).0, leaves_send first (length bags) (length bags + size body) bound (λ k. turn epoch body (before_turn (one_turn body bags) k) bags) counters (length bags) body p.0 sent (λ k l. (inside k l).1), after.0), after.1)
      where
        sent : (v : ℕ) → length bags ≤ v → v < length bags + size body
            → flow v counters ≡ bag_of rec_cmp (flat_map (λ k. emitted (turn epoch body (before_turn (one_turn body bags) k) bags) v) (numbers_from 0 bound))
        sent v h l =
            let e = length_loop bound body bags in
            let at : length bags + (v - length bags) ≡ v = omega arith in
            r.here v (omega (arith, r.start)) (omega (arith, r.ends)) ∙ turn_keeps epoch rest before (bags ++ loop_bags epoch bound body bags) v (omega (arith, e))
            ∙ get_or-append_right bags (loop_bags epoch bound body bags) (length bags) v [] refl h
            ∙ emitted-over_turns (turns (one_turn body bags) bound None) (length bags) (size body) (v - length bags) (omega arith)
            ∙ ap (λ w. bag_of rec_cmp (flat_map (λ bags. emitted bags w) (turns (one_turn body bags) bound None))) at
            ∙ ap (bag_of rec_cmp) (turns_by_number (one_turn body bags) v 0 bound)

    -- EQUATIONS AT ALL COUNTERS: counters by counters, and then vertex by vertex
    abbrev LeaveSends : List ℕ → Vertex → Kind → Type 0
    LeaveSends [] v kind = Unit {0}
    LeaveSends (bound ∷ bounds) v kind = (counters : List ℕ) → AreBelow counters bounds → SendsOut epoch flow bound v kind counters

    abbrev AllLeavesSend : List ℕ → Nodes → Type 0
    AllLeavesSend [] nodes = Unit {0}
    AllLeavesSend (bound ∷ bounds) nodes = (counters : List ℕ) → AreBelow counters bounds → LeavesSend epoch flow bound nodes counters

    leave_equation : (bounds : List ℕ) (v : Vertex) → LeaveSends bounds v Leave → Equation epoch flow bounds v Leave
    leave_equation [] v out = tt
    leave_equation (bound ∷ bounds) v out = out

    equation_of : (v : Vertex) (kind : Kind) (bounds : List ℕ) → ((counters : List ℕ) → AreBelow counters bounds → Sends epoch flow v kind counters) → LeaveSends bounds v kind → Equation epoch flow bounds v kind
    equation_of v Leave bounds here out = leave_equation bounds v out
    equation_of v _ bounds here out = here

    first_leaf : (bounds : List ℕ) (v : Vertex) (rest : Nodes) → AllLeavesSend bounds (node v rest) → LeaveSends bounds v v.kind × AllLeavesSend bounds rest
    first_leaf [] v rest l = (tt, tt)
    first_leaf (bound ∷ bounds) v rest l = (λ c h. (l c h).0, λ c h. (l c h).1)

    past_loop : (bounds : List ℕ) (b : ℕ) (body rest : Nodes) → AllLeavesSend bounds (block b body rest) → AllLeavesSend bounds rest
    past_loop [] b body rest l = tt
    past_loop (bound ∷ bounds) b body rest l = l

    by_vertex : (nodes : Nodes) (bounds : List ℕ) → ((counters : List ℕ) → AreBelow counters bounds → IsFlow epoch flow nodes counters) → AllLeavesSend bounds nodes → Solves epoch flow bounds nodes
    by_vertex done bounds at l = tt
    by_vertex (node v rest) bounds at l =
        (equation_of v v.kind bounds (λ c h. (at c h).0) (first_leaf bounds v rest l).0, by_vertex rest bounds (λ c h. (at c h).1) (first_leaf bounds v rest l).1)
    by_vertex (block bound body rest) bounds at l =
        (by_vertex body (bound ∷ bounds) inside (λ c h. (at c h).1), by_vertex rest bounds (λ c h. (at c h).2) (past_loop bounds bound body rest l))
      where
        inside : (counters : List ℕ) → AreBelow counters (bound ∷ bounds) → IsFlow epoch flow body counters
        inside [] h = absurd h
        inside (k ∷ c) h = (at c h.1).0 k h.0

onto-onto : (path a b : List ℕ) → onto (onto path a) b ≡ onto a (path ++ b)
onto-onto [] a b = refl
onto-onto (k ∷ path) a b = onto-onto path (k ∷ a) b

onto_twice : (path : List ℕ) → onto (onto path []) [] ≡ path
onto_twice path = onto-onto path [] [] ∙ append-nil path

-- the bags of an epoch's turns solve the flat equations of a plan whose sources are read where their readers read
pub bag_at-Solves : (epoch : EpochInput) (nodes : Nodes) → IsPlacedTree nodes → Solves epoch (bag_at epoch nodes) [] nodes
bag_at-Solves epoch nodes placed = by_vertex epoch (bag_at epoch nodes) nodes [] at tt
  where
    in_range : IsRanged 0 0 (size nodes) 0 nodes
    in_range = ranged nodes (read_in nodes) [] [] 0 0 (size nodes) 0 (omega arith) (block_range nodes (read_in nodes) [] [] 0 (size nodes) (omega arith) placed) tt tt placed

    ready : Ready epoch (bag_at epoch nodes) 0 0 (size nodes) nodes None [] []
    ready = record {
      start = omega arith;
      ends = omega arith;
      here = λ s h l. on_no_path epoch nodes None [] s;
      below = λ v k path h l. ap (bag_on_path epoch nodes None [] v) (onto_twice (k ∷ path));
      enters = λ s h l. absurd (omega arith);
      returns = λ s h l. refl;
    }

    at : (counters : List ℕ) → AreBelow counters [] → IsFlow epoch (bag_at epoch nodes) nodes counters
    at [] h = (solve epoch (bag_at epoch nodes) nodes 0 0 (size nodes) None [] [] in_range ready).0
    at (k ∷ c) h = absurd h
