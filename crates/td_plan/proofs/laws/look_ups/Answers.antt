use Rattle.td_plan.proofs.Looked.{vertex_found, edge_found}
use Rattle.td_plan.proofs.laws.look_ups.Goals as goal

pub returns-clause-vertices : goal.returns-clause-vertices
returns-clause-vertices c = vertex_found

pub returns-clause-edges : goal.returns-clause-edges
returns-clause-edges c = edge_found
