-- What a hall looks up of each vertex of its plan.
use Rattle.std.specs.Prelude.{◌≡◌, ℕ, ◌+◌, List, [], map, Option, option_map, unwrap_or}
use Rattle.std.specs.List.{slice_get}
use Rattle.td_plan.specs.declared.vertex.Edge.{Edge}
use Rattle.td_plan.specs.declared.vertex.Kind.{Kind}
use Rattle.td_plan.specs.Lines.{Line}
use Rattle.td_plan.specs.Blocks.{edge_at}
use Rattle.td_machine.specs.Active.{kind_or, kind_of, bound_of}
use Rattle.td_machine.specs.Steps.{edges_from}
use Rattle.td_shard.specs.declared.outlet.Outlet.{Outlet}
use Rattle.td_shard.specs.Messages.{AreApart}
use Rattle.td_core.specs.declared.hall.Route.{Route}
use Rattle.td_core.specs.declared.hall.Routes.{Routes}

-- an edge, with its number
abbrev pub outlet_of : List Line → Edge → Outlet
outlet_of plan e = record { number = edge_at plan e.reader e.port; reader = e.reader; port = e.port }

-- the outlets of a vertex
abbrev pub outlets_of : List Line → ℕ → List Outlet
outlets_of plan v = map (outlet_of plan) (edges_from plan v)

-- THE LOOK-UPS: of a vertex its kind, the bound of its loop, the edges out of it, and the number of the edge to a port
abbrev pub route_in : Routes → ℕ → Option Route
route_in routes v = slice_get routes.by_vertex.items v

abbrev pub kind_in : Routes → ℕ → Kind
kind_in routes v = kind_or (option_map (λ s. s.kind) (route_in routes v))

abbrev pub bound_in : Routes → ℕ → ℕ
bound_in routes v = unwrap_or (option_map (λ s. s.bound) (route_in routes v)) 0

abbrev pub outlets_in : Routes → ℕ → List Outlet
outlets_in routes v = unwrap_or (option_map (λ s. s.outlets.items) (route_in routes v)) []

abbrev pub edge_in : Routes → ℕ → ℕ → ℕ
edge_in routes v port = unwrap_or (option_map (λ s. s.first) (route_in routes v)) routes.edges + port

-- what is looked up of a vertex is what the plan has of it
pub record IsRoute (plan : List Line) (v : ℕ) (route : Route) : Type 0 where
  pub kind : route.kind ≡ kind_of plan v
  pub bound : route.bound ≡ bound_of plan v
  pub first : route.first ≡ edge_at plan v 0
  pub outlets : route.outlets.items ≡ outlets_of plan v

-- THEY FIND what the plan has, of every number
pub record IsRoutes (plan : List Line) (routes : Routes) : Type 0 where
  pub kind : (v : ℕ) → kind_in routes v ≡ kind_of plan v
  pub bound : (v : ℕ) → bound_in routes v ≡ bound_of plan v
  pub outlets : (v : ℕ) → outlets_in routes v ≡ outlets_of plan v
  pub edge : (v port : ℕ) → edge_in routes v port ≡ edge_at plan v port
  -- no two edges lead to one port
  pub apart : (v : ℕ) → AreApart (outlets_in routes v)
