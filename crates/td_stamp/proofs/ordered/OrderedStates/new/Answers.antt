use Rattle.std.proofs.Common.{sym, subst}
use Rattle.td_stamp.specs.States.{AreStates}
use Rattle.td_stamp.proofs.ordered.OrderedStates.new.Goals as goal

pub invariant_of-result : goal.invariant_of-result
unfolding Rattle.std.specs.List.Sorted.IsStrictlySortedBy
invariant_of-result c = subst AreStates (sym c.new.ensures.items) tt
