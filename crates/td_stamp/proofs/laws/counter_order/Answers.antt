use Rattle.td_stamp.proofs.TimeLaws.{AreNotLater-trans, AreNotLater-antisymmetric, counters_cmp-ranks}
use Rattle.td_stamp.proofs.laws.counter_order.Goals as goal

pub returns-clause-transitive : goal.returns-clause-transitive
returns-clause-transitive c = AreNotLater-trans

pub returns-clause-antisymmetric : goal.returns-clause-antisymmetric
returns-clause-antisymmetric c = AreNotLater-antisymmetric

pub returns-clause-compared : goal.returns-clause-compared
returns-clause-compared c = counters_cmp-ranks
