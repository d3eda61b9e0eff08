use Rattle.std.proofs.Common.{subst}
use Rattle.std.specs.HashMap as hash
use Rattle.td_stamp.specs.States.{same_place, AreStates}
use Rattle.td_stamp.proofs.Placed.{in_order}
use Rattle.td_stamp.proofs.states.States.len.Goals as goal

pub returns-clause-ordered : goal.returns-clause-ordered
returns-clause-ordered c = subst AreStates c.self.view_is (in_order c.self.inside.order.keys (hash.get same_place c.self.inside.kept) c.self.invariant.0)
