use Rattle.std.proofs.Common.{ap, ◌∙◌}
use Rattle.td_progress.specs.Gaps.{start_of}
use Rattle.td_progress.proofs.held.start_in.Goals as goal

pub returns-in-Some : goal.returns-in-Some
returns-in-Some c = c.start_of.ensures ∙ ap (start_of 0 c.args.epoch) c.in-Some.ensures

pub returns-in-None : goal.returns-in-None
returns-in-None c = ap (start_of 0 c.args.epoch) c.in-None.ensures
