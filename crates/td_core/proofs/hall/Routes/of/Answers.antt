use Rattle.std.proofs.Common.{◌≡◌, ℕ, List, get_or, ◌+◌, ◌<◌, ◌≤◌, [], ◌∷◌, Some, take, length, refl, sym, ap, ◌∙◌, subst, arith}
use Rattle.std.specs.List.{slice_get}
use Rattle.std.proofs.lemmas.List.{take_all, length-append}
use Rattle.std.proofs.lemmas.Option.{slice_get_read}
use Rattle.td_plan.specs.Lines.{Line}
use Rattle.td_plan.specs.Blocks.{PlacedVertex, vertices, edge_count, edge_at}
use Rattle.td_plan.specs.LookedUp.{IsLookedUp}
use Rattle.td_core.specs.Routes.{IsRoute}
use Rattle.td_core.proofs.RouteLists.{few_edges, count_next, count_within, AreRoutes, one_more_route, all_found}
use Rattle.td_core.proofs.hall.Routes.of.Goals as goal

-- the vertex of an iteration stands at its place
there : (plan : List Line) (vs : List PlacedVertex) (n : ℕ) (p : PlacedVertex) → vs ≡ vertices plan → n < length vs → p ≡ get_or vs n p → slice_get (vertices plan) n ≡ Some p
there plan vs n p all within is = subst (λ l. slice_get l n ≡ Some p) all (slice_get_read vs (length vs) n p refl within is)

pub route_of-requires-clause-there : goal.route_of-requires-clause-there
route_of-requires-clause-there c = let f = c.look_ups.ensures.vertices c.args.plan.now c.loop-vertex.vertex-index c.vertex-item.result c.vertices-vertices.ensures.lawful
    (there c.args.plan.now c.vertices-vertices.result.now c.loop-vertex.vertex-index c.vertex-item.result c.vertices-vertices.ensures.all c.loop-vertex-test.true c.vertex-item.is) in subst (λ n. IsLookedUp c.args.plan.now n c.vertex-item.result) (sym f.number) f

pub route_of-requires-clause-first : goal.route_of-requires-clause-first
route_of-requires-clause-first c =
    let f = c.look_ups.ensures.vertices c.args.plan.now c.loop-vertex.vertex-index c.vertex-item.result c.vertices-vertices.ensures.lawful
    (there c.args.plan.now c.vertices-vertices.result.now c.loop-vertex.vertex-index c.vertex-item.result c.vertices-vertices.ensures.all c.loop-vertex-test.true c.vertex-item.is) in
    let first = edge_count (take c.loop-vertex.vertex-index (vertices c.args.plan.now)) in
    let none : first ≡ first + 0 = omega arith in
    c.loop-vertex.invariant.first ∙ (none ∙ ap (λ n. edge_at c.args.plan.now n 0) (sym f.number))

pub overflow_add-first : goal.overflow_add-first
overflow_add-first c =
    let vs = vertices c.args.plan.now in
    let n = c.loop-vertex.vertex-index in
    let few = few_edges c.args.plan.now c.vertices-vertices.ensures.lawful in
    let next = count_next n vs c.vertex-item.result (there c.args.plan.now c.vertices-vertices.result.now c.loop-vertex.vertex-index c.vertex-item.result c.vertices-vertices.ensures.all c.loop-vertex-test.true c.vertex-item.is) in
    let within = count_within (n + 1) vs in
    omega (arith, few, next, within, c.loop-vertex.invariant.first, c.source_count.ensures.count)

pub loop-vertex-preserved : goal.loop-vertex-preserved
loop-vertex-preserved c =
    let plan = c.args.plan.now in
    let n = c.loop-vertex.vertex-index in
    let inv = c.loop-vertex.invariant in
    let f = c.look_ups.ensures.vertices c.args.plan.now c.loop-vertex.vertex-index c.vertex-item.result c.vertices-vertices.ensures.lawful
    (there c.args.plan.now c.vertices-vertices.result.now c.loop-vertex.vertex-index c.vertex-item.result c.vertices-vertices.ensures.all c.loop-vertex-test.true c.vertex-item.is) in
    let s = c.in_ok-route_of.field-0 in
    let place : n ≡ 0 + length c.loop-vertex.routes.items = let many = inv.many in omega (arith, many) in
    record {
      routes = subst (AreRoutes plan 0) (sym c.push_reserved.ensures.items)
          (one_more_route plan 0 c.loop-vertex.routes.items s inv.routes (subst (λ m. IsRoute plan m s) (f.number ∙ place) c.in_ok-route_of.ensures));
      many = ap length c.push_reserved.ensures.items ∙ (length-append c.loop-vertex.routes.items (s ∷ []) ∙ ap (λ m. m + 1) inv.many);
      first = ap (λ m. m + c.source_count.result) inv.first ∙ (ap (λ m. edge_count (take n (vertices plan)) + m) c.source_count.ensures.count ∙ sym (count_next n (vertices plan) c.vertex-item.result (there c.args.plan.now c.vertices-vertices.result.now c.loop-vertex.vertex-index c.vertex-item.result c.vertices-vertices.ensures.all c.loop-vertex-test.true c.vertex-item.is)));
      room =
          let within = ap (λ l. length l) c.vertices-vertices.ensures.all in
          omega (arith, inv.room, c.push_reserved.ensures.len, c.push_reserved.ensures.capacity, c.loop-vertex-test.true, within);
    }

pub returns : goal.returns
returns c =
    let plan = c.args.plan.now in
    let vs = vertices plan in
    let n = c.loop-vertex.vertex-index in
    let inv = c.loop-vertex.invariant in
    let within = ap (λ l. length l) c.vertices-vertices.ensures.all in
    let end = c.loop-vertex-test.false in
    let past : length vs ≤ n = omega (arith, within, end) in
    let before = c.loop-vertex.auto.vertex-index-end in
    let all : n ≡ length vs = omega (arith, past, before, within) in
    all_found c.edges_by_number.ensures.number c.edges_by_number.ensures.source c.read_there.ensures plan c.vertices-vertices.ensures.lawful (record { by_vertex = c.loop-vertex.routes; edges = c.loop-vertex.first })
    inv.routes (inv.many ∙ all) (inv.first ∙ ap edge_count (take_all n vs past))
