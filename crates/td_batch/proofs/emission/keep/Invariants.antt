use Rattle.std.proofs.Common.{◌≡◌, ◌+◌, ◌++◌, ◌∷◌, [], length}
use Rattle.td_batch.specs.Steps.Tree.{nodes_of, reads, AreAlike}
use Rattle.td_batch.proofs.emission.keep.Given as goal

abbrev pub invariant-loop-source : goal.invariant-loop-source
invariant-loop-source l =
    (length l.bags.items ≡ length l.fn.bags.items + 1)
    × AreAlike (reads l.is_first (nodes_of l.rest) ++ l.need) l.bags.items (l.fn.bags.items ++ l.fn.bag ∷ [])
