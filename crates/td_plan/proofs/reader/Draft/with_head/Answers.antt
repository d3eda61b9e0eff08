use Rattle.std.proofs.Common.{◌≡◌, sym, ap, ◌∙◌, ◌++◌, ◌∷◌, [], append-nil}
use Rattle.td_plan.specs.declared.mark.Mark.TheVariants as mark
use Rattle.td_plan.specs.Lines.Line.{loop}
use Rattle.td_plan.specs.Blocks.{scope_of, scope_after}
use Rattle.td_plan.specs.Faults.{fault_of}
use Rattle.td_plan.proofs.Growth.{head_lines, head_read, drafted}
use Rattle.td_plan.proofs.reader.Draft.with_head.Goals as goal

-- the marks, the loops and the scope after the pushes
marks_after : (c : goal.After-in_loop) → c.push-2.new.self.items ≡ c.self.inside.marks.items ++ mark.Loop c.args.bound ∷ []
marks_after c = c.in_ok-push-2.ensures.items ∙ ap (λ l. c.self.inside.marks.items ++ mark.Loop l.bound ∷ []) c.opened-opened.ensures

scope_then : (c : goal.After-in_loop) → c.in_loop.result ≡ scope_after c.self.inside.scope (loop c.args.bound)
scope_then c = c.in_loop.ensures ∙ (λ i. record { vertices = c.self.inside.scope.vertices; loops = c.opened-opened.ensures i ∷ c.self.inside.scope.loops })

pub invariant_of-result : goal.invariant_of-result
invariant_of-result c =
    head_read c.self.inside.marks.items c.push-2.new.self.items c.self.inside.scope c.in_loop.result c.self.inside.loops.items c.push.new.self.items c.args.bound c.self.invariant (marks_after c) (scope_then c)
    (c.in_ok-push.ensures.items ∙ ap (λ l. c.self.inside.loops.items ++ l ∷ []) c.opened-opened.ensures) c.requires.form (ap (λ d. fault_of (scope_of d.lines) (loop c.args.bound)) c.self.view_is ∙ c.requires.faultless)

pub returns : goal.returns
returns c =
    drafted _ _ _ _
    (ap (λ d. d.lines ++ loop c.args.bound ∷ []) (sym c.self.view_is) ∙ sym (head_lines c.self.inside.marks.items c.push-2.new.self.items c.self.inside.scope c.in_loop.result c.args.bound (marks_after c) (scope_then c)))
    (append-nil _ ∙ ap (λ d. d.feedbacks) (sym c.self.view_is))
