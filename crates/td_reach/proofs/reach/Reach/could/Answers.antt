use Rattle.std.proofs.Common.{sym, ◌∙◌}
use Rattle.td_reach.proofs.reach.Reach.could.Goals as goal

pub returns : goal.returns
returns c =
    let tested = c.could_tested.ensures.could c.args.self.now c.answer.ensures.lawful c.args.from.now c.args.to.now c.requires.from c.requires.to in
    (λ h. tested.0 (sym c.answer.ensures.value ∙ h), λ h. c.answer.ensures.value ∙ tested.1 h)
