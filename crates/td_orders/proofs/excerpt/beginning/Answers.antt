use Rattle.std.proofs.Common.{sym}
use Rattle.td_orders.proofs.Excerpts.{take_short}
use Rattle.td_orders.proofs.excerpt.beginning.Goals as goal

pub returns-in-None : goal.returns-in-None
returns-in-None c = sym (take_short 80 c.args.line.now c.in-None.ensures.cases)
