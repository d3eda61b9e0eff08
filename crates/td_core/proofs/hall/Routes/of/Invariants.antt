use Rattle.std.proofs.Common.{◌≡◌, ◌+◌, ◌-◌, ◌≤◌, take, length, vec_len, vec_capacity}
use Rattle.td_plan.specs.Blocks.{vertices, edge_count}
use Rattle.td_core.proofs.RouteLists.{AreRoutes}
use Rattle.td_core.proofs.hall.Routes.of.Given as goal

abbrev pub invariant-loop-vertex : goal.invariant-loop-vertex
invariant-loop-vertex l = record {
  routes : AreRoutes l.plan 0 l.routes.items;
  many : length l.routes.items ≡ l.vertex-index;
  first : l.first ≡ edge_count (take l.vertex-index (vertices l.plan));
  room : vec_len l.routes + (length (vertices l.plan) - l.vertex-index) ≤ vec_capacity l.routes;
}
