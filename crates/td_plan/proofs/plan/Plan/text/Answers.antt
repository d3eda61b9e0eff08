use Rattle.std.proofs.Common.{◌≡◌, List, ℕ, ap, ◌∙◌, subst}
use Rattle.std.specs.Prelude.{IfOk, string_bytes}
use Rattle.td_plan.specs.Lines.{text_of}
use Rattle.td_plan.specs.Faults.{IsPlan}
use Rattle.td_plan.specs.Marks.{lines_of_marks}
use Rattle.td_plan.proofs.Canonical.{spelled_again}
use Rattle.td_plan.proofs.plan.Plan.text.Goals as goal

pub returns-clause-again : goal.returns-clause-again
returns-clause-again c =
    let printed : text_of (lines_of_marks c.as_slice.result.now c.as_slice-2.result.now) ≡ text_of c.args.self.now =
    (λ i. text_of (lines_of_marks (c.as_slice.ensures.value i) (c.as_slice-2.ensures.value i))) ∙ ap text_of c.self.view_is in
    spelled_again string_bytes c.args.self.now c.print.result (subst IsPlan c.self.view_is c.self.invariant.lawful)
    (subst (λ (bytes : List ℕ). IfOk c.print.result (λ text. string_bytes text ≡ bytes)) printed c.print.ensures.ok)
