use Rattle.std.proofs.Common.{sym, ◌∙◌}
use Rattle.td_reach.proofs.reach.Reach.leads.Goals as goal

pub returns : goal.returns
returns c =
    let tested = c.could_tested.ensures.leads c.args.self.now c.finds.ensures.lawful c.args.from c.args.to c.requires.from c.requires.to in
    (λ h. tested.0 (sym c.finds.ensures.value ∙ h), λ h. c.finds.ensures.value ∙ tested.1 h)
