use Rattle.std.proofs.Common.{sym, ap, ◌∙◌}
use Rattle.std.specs.Prelude.{option_map}
use Rattle.td_plan.specs.Faults.{fault_of}
use Rattle.td_plan.specs.Steps.Reading.{error_of}
use Rattle.td_plan.specs.Steps.Written.{written_line}
use Rattle.td_plan.proofs.scope.Scope.fault.Goals as goal

pub returns-in-Vertex : goal.returns-in-Vertex
returns-in-Vertex c = c.vertex_fault.ensures ∙ ap (λ l. option_map (λ fault. error_of fault c.args.number) (fault_of c.args.self.now (written_line l))) (sym c.in-Vertex.is)
