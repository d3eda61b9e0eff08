use Rattle.td_plan.proofs.EdgesTo.{edge_number, edge_source, edges_into}
use Rattle.td_plan.proofs.laws.edges_by_number.Goals as goal

pub returns-clause-number : goal.returns-clause-number
returns-clause-number c = edge_number

pub returns-clause-source : goal.returns-clause-source
returns-clause-source c = edge_source

pub returns-clause-into : goal.returns-clause-into
returns-clause-into c = edges_into
