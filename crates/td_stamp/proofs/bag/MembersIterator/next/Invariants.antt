use Rattle.std.proofs.Common.{◌≡◌, ◌++◌, [], length}
use Rattle.td_stamp.specs.Bag.{members}
use Rattle.td_stamp.specs.Steps.{repeats}
use Rattle.td_stamp.proofs.bag.MembersIterator.next.Given as goal

abbrev pub invariant-loop-self : goal.invariant-loop-self
invariant-loop-self g l =
    (l.self-inside.in_order.now ≡ []) × (repeats l.self-inside.current ++ members l.self-inside.rest ≡ repeats l.initial.self-inside.current ++ members l.initial.self-inside.rest)

abbrev pub decreases-loop-self : goal.decreases-loop-self
decreases-loop-self g l = length l.self-inside.rest
