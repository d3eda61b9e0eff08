use Rattle.std.proofs.Common.{◌≡◌, sym, ap, ◌∙◌, inr, subst}
use Rattle.td_plan.specs.Lines.Line.{vertex}
use Rattle.td_plan.specs.Blocks.{scope_of}
use Rattle.td_plan.specs.Faults.{fault_of}
use Rattle.td_plan.specs.Steps.Reading.{Answers, with_line}
use Rattle.td_plan.specs.Steps.Written.{written_line}
use Rattle.td_plan.proofs.Growth.{refused_line, taken_line, taken_answer}
use Rattle.td_plan.proofs.reader.Draft.with_line.Goals as goal

pub returns-in-Some : goal.returns-in-Some
returns-in-Some c = inr (refused_line c.args.self c.args.number (written_line c.args.line) c.in-Some.fault (sym c.in-Some.is ∙ c.fault.ensures))

pub returns-in-Vertex : goal.returns-in-Vertex
returns-in-Vertex c =
    let line : written_line c.args.line ≡ vertex c.in-Vertex.written = ap written_line c.in-Vertex.is in
    subst (λ l. Answers c.with_vertex.result (with_line c.args.self c.args.number l)) (sym line)
    (taken_answer c.args.self c.args.number (vertex c.in-Vertex.written) c.with_vertex.result
    (ap (fault_of (scope_of c.args.self.lines)) (sym line) ∙ taken_line c.args.self c.args.number (written_line c.args.line) (sym c.in_default.is ∙ c.fault.ensures)) c.with_vertex.ensures)
