use Rattle.td_stamp.proofs.Bags.{bag_of-IsBag, bag_of-append, join-middle, bag_insert-bag_insert, bag_remove-bag_insert}
use Rattle.td_stamp.proofs.Rising.{IsBag-filter}
use Rattle.std.specs.Prelude.{[]}
use Rattle.td_stamp.proofs.laws.bags.Goals as goal

pub returns-clause-gives_a_bag : goal.returns-clause-gives_a_bag
returns-clause-gives_a_bag g c = bag_of-IsBag g.T.Ord.cmp g.met.T.Ord.total g.met.T.Member.told_apart

pub returns-clause-append : goal.returns-clause-append
returns-clause-append g c = bag_of-append g.T.Ord.cmp g.met.T.Ord.total g.met.T.Member.told_apart

pub returns-clause-any_place : goal.returns-clause-any_place
returns-clause-any_place g c = λ xs ys x. join-middle g.T.Ord.cmp g.met.T.Ord.total g.met.T.Member.told_apart xs x ys []

pub returns-clause-inserts_swap : goal.returns-clause-inserts_swap
returns-clause-inserts_swap g c = bag_insert-bag_insert g.T.Ord.cmp g.met.T.Ord.total g.met.T.Member.told_apart

pub returns-clause-removes : goal.returns-clause-removes
returns-clause-removes g c = bag_remove-bag_insert g.T.Ord.cmp g.met.T.Ord.total g.met.T.Member.told_apart

pub returns-clause-filtered : goal.returns-clause-filtered
returns-clause-filtered g c = IsBag-filter g.T.Ord.cmp g.met.T.Ord.total g.met.T.Member.told_apart
