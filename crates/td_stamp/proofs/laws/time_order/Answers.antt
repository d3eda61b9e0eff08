use Rattle.td_stamp.proofs.TimeLaws.{IsAtMost-trans, IsAtMost-antisymmetric, IsAtMost-total, time_le-IsAtMost, IsAtMost-time_le}
use Rattle.td_stamp.proofs.laws.time_order.Goals as goal

pub returns-clause-transitive : goal.returns-clause-transitive
returns-clause-transitive c = IsAtMost-trans

pub returns-clause-antisymmetric : goal.returns-clause-antisymmetric
returns-clause-antisymmetric c = IsAtMost-antisymmetric

pub returns-clause-total : goal.returns-clause-total
returns-clause-total c = IsAtMost-total

pub returns-clause-tested : goal.returns-clause-tested
returns-clause-tested c = λ t u e. (time_le-IsAtMost t u e, IsAtMost-time_le t u e)
