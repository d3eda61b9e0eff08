use Rattle.std.proofs.Common.{sym, ap, ◌∙◌, ◌++◌, ◌∷◌, [], append-nil}
use Rattle.td_plan.specs.Lines.Line.{end}
use Rattle.td_plan.specs.Blocks.{scope_of}
use Rattle.td_plan.specs.Faults.{fault_of}
use Rattle.td_plan.proofs.Growth.{end_lines, end_read, drafted}
use Rattle.td_plan.proofs.reader.Draft.with_end.Goals as goal

pub invariant_of-result : goal.invariant_of-result
invariant_of-result c =
    end_read c.self.inside.marks.items c.push.new.self.items c.self.inside.scope c.around_loop.result c.self.inside.loops.items c.self.invariant c.in_ok-push.ensures.items c.around_loop.ensures
    (ap (λ d. fault_of (scope_of d.lines) end) c.self.view_is ∙ c.requires)

pub returns : goal.returns
returns c =
    drafted _ _ _ _
    (ap (λ d. d.lines ++ end ∷ []) (sym c.self.view_is) ∙ sym (end_lines c.self.inside.marks.items c.push.new.self.items c.self.inside.scope c.around_loop.result c.in_ok-push.ensures.items c.around_loop.ensures))
    (append-nil _ ∙ ap (λ d. d.feedbacks) (sym c.self.view_is))
