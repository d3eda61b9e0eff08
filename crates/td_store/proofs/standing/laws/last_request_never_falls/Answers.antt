use Rattle.td_batch.specs.Meaning.{run}
use Rattle.td_store.proofs.standing.Requests.{advance-last, more-last, cut-last}
use Rattle.td_store.proofs.standing.laws.last_request_never_falls.Goals as goal

pub returns-clause-told : goal.returns-clause-told
returns-clause-told g c nodes = advance-last (λ b x. (run g.L.Law.answers nodes b x).states)

pub returns-clause-submitted : goal.returns-clause-submitted
returns-clause-submitted g c = more-last

pub returns-clause-cut : goal.returns-clause-cut
returns-clause-cut g c = cut-last
