use Rattle.td_stamp.proofs.Bags.{join-assoc, join_comm, join-swap, join_cancel, join-IsBag, length-join}
use Rattle.td_stamp.proofs.laws.joins.Goals as goal

pub returns-clause-associative : goal.returns-clause-associative
returns-clause-associative g c = join-assoc g.T.Ord.cmp g.met.T.Ord.total g.met.T.Member.told_apart

pub returns-clause-commutative : goal.returns-clause-commutative
returns-clause-commutative g c = join_comm g.T.Ord.cmp g.met.T.Ord.total g.met.T.Member.told_apart

pub returns-clause-swaps : goal.returns-clause-swaps
returns-clause-swaps g c = join-swap g.T.Ord.cmp g.met.T.Ord.total g.met.T.Member.told_apart

pub returns-clause-cancels : goal.returns-clause-cancels
returns-clause-cancels g c = join_cancel g.T.Ord.cmp g.met.T.Ord.total g.met.T.Member.told_apart

pub returns-clause-gives_a_bag : goal.returns-clause-gives_a_bag
returns-clause-gives_a_bag g c = join-IsBag g.T.Ord.cmp g.met.T.Ord.total g.met.T.Member.told_apart

pub returns-clause-size : goal.returns-clause-size
returns-clause-size g c = length-join g.T.Ord.cmp
