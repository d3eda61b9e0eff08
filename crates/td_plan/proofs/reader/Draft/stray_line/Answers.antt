use Rattle.std.proofs.Common.{ap, ◌∙◌}
use Rattle.std.specs.Prelude.{find, option_map}
use Rattle.td_plan.specs.Blocks.{Scope}
use Rattle.td_plan.specs.Steps.Reading.{is_stray_at, stray_line}
use Rattle.td_plan.proofs.reader.Draft.stray_line.Goals as goal

pub returns : goal.returns
returns c =
    c.first_stray.ensures ∙ ap (λ fs. option_map (λ f. f.line) (find (λ f. is_stray_at c.self.inside.scope.vertices f.number) fs)) c.as_slice.ensures.value
    ∙ ap (λ (s : Scope). option_map (λ f. f.line) (find (λ f. is_stray_at s.vertices f.number) c.self.inside.feedbacks.items)) c.self.invariant.scope_is
    ∙ ap stray_line c.self.view_is
