use Rattle.td_plan.proofs.Cuts.{lines_cut}
use Rattle.td_plan.proofs.text.next_line.Goals as goal

pub returns-in-Some-clause-lines : goal.returns-in-Some-clause-lines
returns-in-Some-clause-lines c = lines_cut c.args.text.now c.cut.result.0.now c.in-Some.rest.now (rw c.in-Some.is at c.cut.ensures.split)
