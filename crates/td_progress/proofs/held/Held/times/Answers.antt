use Rattle.std.proofs.Common.{◌∙◌, ap}
use Rattle.td_progress.specs.Gaps.{times_at}
use Rattle.td_progress.specs.Held.{gaps_at}
use Rattle.td_progress.proofs.held.Held.times.Goals as goal

pub returns-in-Some-clause-is : goal.returns-in-Some-clause-is
returns-in-Some-clause-is c = c.times.ensures ∙ ap (times_at c.args.epoch) (c.in-Some.ensures ∙ ap (gaps_at c.args.index) c.self.view_is)

pub returns-in-None-clause-is : goal.returns-in-None-clause-is
returns-in-None-clause-is c = ap (times_at c.args.epoch) (c.in-None.ensures ∙ ap (gaps_at c.args.index) c.self.view_is)
