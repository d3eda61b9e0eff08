use Rattle.std.proofs.Common.{◌≡◌, ◌+◌, take}
use Rattle.td_store.specs.group.Groups.{gated, AllFit}
use Rattle.td_store.proofs.group.cells.gated.Given as goal

abbrev pub invariant-loop-submitted : goal.invariant-loop-submitted
invariant-loop-submitted l =
    (l.epoch ≡ l.first + l.submitted-index)
    × (l.bytes.items ≡ gated l.journal.m l.first (take l.submitted-index l.group))
    × AllFit (take l.submitted-index l.group)
