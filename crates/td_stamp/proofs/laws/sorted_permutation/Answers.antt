use Rattle.td_stamp.proofs.Sorted.{IsSorted-bag_of, IsPermutation-bag_of, sorted_is_bag}
use Rattle.td_stamp.proofs.laws.sorted_permutation.Goals as goal

pub returns-clause-sorted : goal.returns-clause-sorted
returns-clause-sorted g c = IsSorted-bag_of g.T.Ord.cmp g.met.T.Ord.total g.met.T.Member.told_apart

pub returns-clause-permutation : goal.returns-clause-permutation
returns-clause-permutation g c = IsPermutation-bag_of g.T.Ord.cmp g.met.T.Ord.total g.met.T.Member.told_apart

pub returns-clause-only_one : goal.returns-clause-only_one
returns-clause-only_one g c = sorted_is_bag g.T.Ord.cmp g.met.T.Ord.total g.met.T.Member.told_apart
