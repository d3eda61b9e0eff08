use Rattle.td_machine.proofs.Joined.{plays_joined, batches_joined, tally_joined}
use Rattle.td_machine.proofs.laws.plays_join.Goals as goal

pub returns-clause-joined : goal.returns-clause-joined
returns-clause-joined g c = plays_joined g.L.Law.answers

pub returns-clause-released : goal.returns-clause-released
returns-clause-released g c = batches_joined g.L.Law.answers

pub returns-clause-given : goal.returns-clause-given
returns-clause-given g c = tally_joined g.L.Law.answers
