use Rattle.std.proofs.Common.{ap, ◌∙◌}
use Rattle.td_reach.specs.Frontier.{has_passed}
use Rattle.td_progress.proofs.table.Table.passed.Goals as goal

pub returns : goal.returns
returns c = c.passed.ensures ∙ ap (λ a. has_passed a.stamps c.args.epoch) c.self.view_is
