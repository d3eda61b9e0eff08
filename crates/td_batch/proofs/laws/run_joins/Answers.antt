use Rattle.td_batch.proofs.Runs.{states-append, outs-append}
use Rattle.td_batch.proofs.laws.run_joins.Goals as goal

pub returns-clause-states : goal.returns-clause-states
returns-clause-states g c = states-append g.L.Law.answers

pub returns-clause-outs : goal.returns-clause-outs
returns-clause-outs g c = outs-append g.L.Law.answers
