use Rattle.std.proofs.Common.{◌∙◌, sym, ap, [], Some, unwrap_or, option_map, true≢false}
use Rattle.td_progress.specs.Held.{first_alone}
use Rattle.td_progress.proofs.Counted.{none_is_some}
use Rattle.td_progress.proofs.held.Held.is_first.Goals as goal

pub returns-in-Some-clause-is : goal.returns-in-Some-clause-is
returns-in-Some-clause-is c =
    let f = ap (λ o. unwrap_or (option_map (λ x. x.now) o) []) (sym c.in-Some.is) ∙ c.chain_of.ensures.is in
    let r = c.epoch.ensures in (
      λ t. sym (ap first_alone f) ∙ c.is_first.ensures.0 t ∙ ap Some r,
      λ h. c.is_first.ensures.1 (ap first_alone f ∙ h ∙ ap Some (sym r)),
    )

pub returns-in-None-clause-is : goal.returns-in-None-clause-is
returns-in-None-clause-is c =
    let f = ap (λ o. unwrap_or (option_map (λ x. x.now) o) []) (sym c.in-None.is) ∙ c.chain_of.ensures.is in
    (λ t. absurd (true≢false (sym t)), λ h. absurd (none_is_some (ap first_alone f ∙ h)))
