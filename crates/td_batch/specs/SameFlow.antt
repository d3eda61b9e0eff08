-- Where two flows are the same to all readers.
use Rattle.std.specs.Prelude.{◌≡◌, ℕ, List, ◌∷◌, map}
use Rattle.td_plan.specs.Laid.{read_bounds}
use Rattle.td_plan.specs.Tree.{Nodes}
use Rattle.td_plan.specs.Tree.Nodes.{done, node, block}
use Rattle.td_batch.specs.Flow.{Flow, AreBelow}

-- each vertex of a block in loops of these bounds reads the same in both, in each turn of the block on which it reads
abbrev pub ReadAlike : Flow → Flow → List ℕ → Nodes → Type 0
ReadAlike f g bounds done = Unit {0}
ReadAlike f g bounds (node v rest) =
    ((counters : List ℕ) → AreBelow counters (read_bounds v.kind bounds) → map (λ s. f s counters) v.sources ≡ map (λ s. g s counters) v.sources)
    × ReadAlike f g bounds rest
ReadAlike f g bounds (block bound body rest) = ReadAlike f g (bound ∷ bounds) body × ReadAlike f g bounds rest
