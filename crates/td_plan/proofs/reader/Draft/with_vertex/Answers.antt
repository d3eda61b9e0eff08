use Rattle.std.proofs.Common.{sym, ap, ◌∙◌, ◌++◌, ◌∷◌, []}
use Rattle.td_plan.specs.Lines.Line.{vertex}
use Rattle.td_plan.specs.Blocks.{scope_of}
use Rattle.td_plan.specs.Faults.{fault_of}
use Rattle.td_plan.specs.Steps.Reading.{feedback_of}
use Rattle.td_plan.proofs.Growth.{vertex_lines, vertex_read, drafted}
use Rattle.td_plan.proofs.reader.Draft.with_vertex.Goals as goal

pub invariant_of-result : goal.invariant_of-result
invariant_of-result c =
    vertex_read c.self.inside.marks.items c.push.new.self.items c.self.inside.scope c.in_ok-scope.scope c.self.inside.loops.items c.args.written c.self.invariant c.in_ok-push.ensures.items c.in_ok-scope.ensures.ok
    c.requires.form (ap (λ d. fault_of (scope_of d.lines) (vertex c.args.written)) c.self.view_is ∙ c.requires.faultless)

pub returns : goal.returns
returns c =
    drafted _ _ _ _
    (ap (λ d. d.lines ++ vertex c.args.written ∷ []) (sym c.self.view_is)
    ∙ sym (vertex_lines c.self.inside.marks.items c.push.new.self.items c.self.inside.scope c.in_ok-scope.scope c.args.written c.self.invariant.marked c.in_ok-push.ensures.items c.in_ok-scope.ensures.ok))
    (ap (λ d. d.feedbacks ++ feedback_of c.args.number (vertex c.args.written)) (sym c.self.view_is) ∙ sym c.in_ok-add_feedback.ensures.ok)
