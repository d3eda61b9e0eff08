-- The bags of the nested turns, by vertex and loop counters.
use Rattle.std.specs.Prelude.{ℕ, zero, suc, ◌+◌, List, [], ◌∷◌, ◌++◌, length, Option, Some, None, true, false, nat_lt}
use Rattle.td_stamp.specs.declared.values.Rec.{Rec}
use Rattle.td_plan.specs.Tree.{Nodes, size}
use Rattle.td_plan.specs.Tree.Nodes.{done, node, block}
use Rattle.td_batch.specs.Meaning.{EpochInput, Bags, emitted, emission, turn, turns, over_turns}
use Rattle.td_batch.specs.Flow.{Flow}

-- the bags of the turn before turn k of a loop, if there is one
abbrev pub before_turn : (Option Bags → Bags) → ℕ → Option Bags
before_turn turn zero = None
before_turn turn (suc k) = Some (turn (before_turn turn k))

-- what a vertex emits in this turn of a block; or, on a path of counters, the outermost first, in that turn of a loop in it
abbrev pub bag_on_path : EpochInput → Nodes → Option Bags → Bags → ℕ → List ℕ → List Rec
bag_on_path epoch done before bags v [] = emitted bags v
bag_on_path epoch done before bags v (k ∷ path) = []
bag_on_path epoch (node w rest) before bags v path = bag_on_path epoch rest before (bags ++ emission epoch before bags w ∷ []) v path
bag_on_path epoch (block bound body rest) before bags v [] =
    bag_on_path epoch rest before (bags ++ over_turns (turns (λ earlier. turn epoch body earlier bags) bound None) (length bags) (size body)) v []
bag_on_path epoch (block bound body rest) before bags v (k ∷ path) =
    elim (nat_lt v (length bags + size body)) [
      | true ↦ elim (nat_lt k bound) [ true ↦ bag_on_path epoch body (before_turn (λ earlier. turn epoch body earlier bags) k) bags v path | false ↦ [] ]
      | false ↦ bag_on_path epoch rest before (bags ++ over_turns (turns (λ earlier. turn epoch body earlier bags) bound None) (length bags) (size body)) v (k ∷ path)
    ]

-- a path, which begins with the outermost counter, in front of counters that begin with the innermost
abbrev pub onto : List ℕ → List ℕ → List ℕ
onto [] counters = counters
onto (k ∷ path) counters = onto path (k ∷ counters)

-- THE BAGS OF AN EPOCH AT ALL TIMES: what each vertex emits in the turns that these counters tell, the innermost first. There
-- are as many counters as loops round the block on which the vertex is read. At fewer it is what the vertex emits in all turns
-- of the inner loops together; at more it is nothing, or what the vertex emits at the first of them: nobody reads it there
abbrev pub bag_at : EpochInput → Nodes → Flow
bag_at epoch nodes v counters = bag_on_path epoch nodes None [] v (onto counters [])
