use Rattle.std.proofs.Common.{ap, ◌∙◌, nat_lt, ℕ}
use Rattle.std.specs.List.{list_all}
use Rattle.td_progress.specs.Gaps.{Mark}
use Rattle.td_progress.proofs.ChainSteps.{after_first}
use Rattle.td_progress.proofs.chain.Chain.is_after.Goals as goal

pub returns-in-Some : goal.returns-in-Some
returns-in-Some c =
    after_first c.args.epoch 0 c.self.inside.cells.items c.in-Some.first.now c.self.invariant c.in-Some.ensures.item.3.0 c.in-Some.ensures.lookup
    ∙ ap (list_all (λ (g : ℕ × Mark). nat_lt c.args.epoch g.0)) c.self.view_is
