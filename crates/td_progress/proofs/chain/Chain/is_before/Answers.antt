use Rattle.std.proofs.Common.{◌≡◌, ◌-◌, suc, length, ap, ◌∙◌, arith, rules, is_none}
use Rattle.std.proofs.lemmas.Grind.{common_steps}
use Rattle.td_progress.specs.Gaps.{first_from}
use Rattle.td_progress.proofs.ChainSteps.{last_decides}
use Rattle.td_progress.proofs.chain.Chain.is_before.Goals as goal

pub returns-in-Some : goal.returns-in-Some
returns-in-Some c =
    let cs = c.self.inside.cells.items in
    let long : length cs ≡ suc (length cs - 1) = grind (arith, common_steps, c.in-Some.ensures.variant.0 (search rules)) in
    last_decides c.args.epoch 0 (length cs - 1) cs c.in-Some.last.now c.self.invariant long (search (rules, common_steps))
    ∙ ap (λ gs. is_none (first_from c.args.epoch gs)) c.self.view_is
