use Rattle.std.proofs.Common.{◌≡◌, ◌+◌, ◌*◌, ◌++◌, length}
use Rattle.td_batch.specs.Steps.Epoch.{weight}
use Rattle.td_batch.specs.Steps.Emitted.{input_of}
use Rattle.td_batch.specs.Steps.Tree.{nodes_of, reads}
use Rattle.td_batch.proofs.Loops.{Rounding, inside}
use Rattle.td_batch.proofs.rounds.+turns.Given as goal

abbrev pub invariant-go_round-loop-left : goal.invariant-go_round-loop-left
invariant-go_round-loop-left g l =
    (l.first ≡ length l.fn.bags.items)
    × (l.inside.items ≡ inside (input_of g.L.Law.answers (g.S.KeptStates.states l.given.states.now) l.given.batch.now) (nodes_of l.body) (reads l.is_first (nodes_of l.rest) ++ l.need) l.fn.bags.items)
    × Rounding (input_of g.L.Law.answers (g.S.KeptStates.states l.given.states.now) l.given.batch.now) (nodes_of l.body) (reads l.is_first (nodes_of l.rest) ++ l.need) l.fn.bags.items
    l.bound l.bags.items l.before l.collected.items l.left

abbrev pub decreases-go_round-loop-left : goal.decreases-go_round-loop-left
decreases-go_round-loop-left g l = l.left

abbrev pub decreases-walk : goal.decreases-walk
decreases-walk g a = 2 * weight (nodes_of a.nodes.now)

abbrev pub decreases-go_round : goal.decreases-go_round
decreases-go_round g a = 2 * weight (nodes_of a.body.now) + 1
