use Rattle.std.proofs.Common.{◌≡◌, ap, ◌∙◌, true, subst, ◌⊎◌}
use Rattle.std.specs.List.{list_all}
use Rattle.std.specs.Char.{is_ascii}
use Rattle.td_plan.specs.declared.error.PlanError.TheVariants.{Memory}
use Rattle.td_plan.specs.Texts.{PlanText, PlanFault}
use Rattle.td_report.specs.Narrowed.{narrowed}
use Rattle.td_report.proofs.Narrowed.{ascii, plan_text, refusal}
use Rattle.td_report.proofs.plan_text.plan_of.Goals as goal

pub returns-in-Ok-clause-ok : goal.returns-in-Ok-clause-ok
returns-in-Ok-clause-ok c =
    let same : c.in-Some.text.now ≡ narrowed c.args.text.items = c.in-Some.ensures.some ∙ c.deref.ensures.value ∙ c.narrowed-text.ensures in
    plan_text c.args.text.items c.in-Ok.plan (subst (λ t. PlanText t c.in-Ok.plan) same c.in-Ok.ensures.ok)

pub returns-in-Some-clause-fault : goal.returns-in-Some-clause-fault
returns-in-Some-clause-fault c =
    let same : c.in-Some.text.now ≡ narrowed c.args.text.items = c.in-Some.ensures.some ∙ c.deref.ensures.value ∙ c.narrowed-text.ensures in
    refusal c.args.text.items c.in-Err.error c.plan_fault.result c.plan_fault.ensures.memory c.plan_fault.ensures.other
    (subst (λ t. (c.in-Err.error ≡ Memory) ⊎ PlanFault t c.in-Err.error) same c.in-Err.ensures.refused)

pub unreachable-requires : goal.unreachable-requires
unreachable-requires c =
    let no = c.in-None.ensures.ascii in
    let yes : list_all is_ascii c.deref.result.now ≡ true = ap (list_all is_ascii) (c.deref.ensures.value ∙ c.narrowed-text.ensures) ∙ ascii c.args.text.items in
    cc
