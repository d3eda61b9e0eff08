use Rattle.td_stamp.proofs.Bags.{set-middle, set_insert-set_insert, set_has-set_of}
use Rattle.td_stamp.proofs.laws.sets.Goals as goal

pub returns-clause-any_place : goal.returns-clause-any_place
returns-clause-any_place g c = λ xs ys x. set-middle g.T.Ord.cmp g.met.T.Ord.total g.met.T.Member.told_apart xs x ys

pub returns-clause-inserts_swap : goal.returns-clause-inserts_swap
returns-clause-inserts_swap g c = set_insert-set_insert g.T.Ord.cmp g.met.T.Ord.total g.met.T.Member.told_apart

pub returns-clause-found : goal.returns-clause-found
returns-clause-found g c = set_has-set_of g.T.Ord.cmp g.met.T.Ord.total g.met.T.Member.told_apart
