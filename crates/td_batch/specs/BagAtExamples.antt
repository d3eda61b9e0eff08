-- Worked examples of bags at loop counters: each holds by computing.
use Rattle.std.specs.Prelude.{◌≡◌, List, [], ◌∷◌, ℤ, pos, refl}
use Rattle.td_stamp.specs.declared.values.Rec.{Rec}
use Rattle.td_plan.specs.Named.{loop_plan, nest_plan}
use Rattle.td_plan.specs.Tree.{tree_of}
use Rattle.td_calls.specs.Stock.{stock}
use Rattle.td_batch.specs.Meaning.{EpochInput}
use Rattle.td_batch.specs.Flow.{Flow}
use Rattle.td_batch.specs.BagAt.{bag_at}
use Rattle.td_batch.specs.Examples.{entry}

abbrev pub five : EpochInput
five = record { answers = stock; states = []; batch = entry 0 7 (pos 5) ∷ [] }

abbrev pub one : ℤ → List Rec
one val = record { key = 7; val = val } ∷ []

abbrev pub looped : Flow
looped = bag_at five (tree_of (loop_plan 3))

-- a value 5 goes round three times and loses 1 in each turn: what enters, what comes back, and what the map makes of it
pub entered_rows : looped 1 (0 ∷ []) ∷ looped 1 (1 ∷ []) ∷ [] ≡ one (pos 5) ∷ [] ∷ []
entered_rows = refl

pub returned_rows : looped 2 (0 ∷ []) ∷ looped 2 (1 ∷ []) ∷ looped 2 (2 ∷ []) ∷ [] ≡ [] ∷ one (pos 4) ∷ one (pos 3) ∷ []
returned_rows = refl

pub mapped_rows : looped 3 (0 ∷ []) ∷ looped 3 (1 ∷ []) ∷ looped 3 (2 ∷ []) ∷ [] ≡ one (pos 4) ∷ one (pos 3) ∷ one (pos 2) ∷ []
mapped_rows = refl

-- a turn that the loop does not make
pub past_bound : looped 3 (3 ∷ []) ≡ []
past_bound = refl

-- in a loop in a loop, the innermost counter first
pub nested_rows : bag_at five (tree_of nest_plan) 6 (0 ∷ 1 ∷ []) ∷ bag_at five (tree_of nest_plan) 6 (1 ∷ 0 ∷ []) ∷ [] ≡ one (pos 10) ∷ one (pos 5) ∷ []
nested_rows = refl
