use Rattle.std.proofs.Common.{◌≡◌, true}
use Rattle.td_batch.specs.Steps.Emitted.{input_of}
use Rattle.td_batch.specs.Steps.Tree.{nodes_of}
use Rattle.td_batch.proofs.Epochs.{Going}
use Rattle.td_batch.proofs.epoch.bring.Given as goal

abbrev pub invariant-loop-left : goal.invariant-loop-left
invariant-loop-left g l =
    (l.before-inside.is_first ≡ true)
    × Going (input_of g.L.Law.answers (g.S.KeptStates.states l.given.states.now) l.given.batch.now) (g.C.Closures.stored l.given.calls.now)
    (nodes_of l.tree) (nodes_of l.left) l.bags.items l.brought.outputs.items l.brought.changes.items
