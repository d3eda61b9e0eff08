use Rattle.td_batch.specs.Meaning.{run}
use Rattle.td_store.proofs.standing.Joins.{after_submit, after_cut, later, last-cut}
use Rattle.td_store.proofs.standing.laws.advances_join.Goals as goal

pub returns-clause-submitted : goal.returns-clause-submitted
returns-clause-submitted g c nodes = after_submit (λ b x. (run g.L.Law.answers nodes b x).states)

pub returns-clause-cut : goal.returns-clause-cut
returns-clause-cut g c nodes = after_cut (λ b x. (run g.L.Law.answers nodes b x).states) (λ b x y. c.run_joins.ensures.states nodes b x y)

pub returns-clause-later : goal.returns-clause-later
returns-clause-later g c nodes = later (λ b x. (run g.L.Law.answers nodes b x).states)

pub returns-clause-last : goal.returns-clause-last
returns-clause-last g c = last-cut
