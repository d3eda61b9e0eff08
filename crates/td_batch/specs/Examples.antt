-- Worked examples: each holds by computing.
use Rattle.std.specs.Prelude.{◌≡◌, ℕ, List, [], ◌∷◌, ℤ, pos, negsuc, refl}
use Rattle.td_stamp.specs.declared.values.Entry.{Entry}
use Rattle.td_stamp.specs.declared.values.Output.{Output}
use Rattle.td_plan.specs.Lines.{Line}
use Rattle.td_plan.specs.Named.{count_plan, sum_plan, toggle_plan, loop_plan, nest_plan, ring_plan, both_plan}
use Rattle.td_plan.specs.Tree.{tree_of}
use Rattle.td_calls.specs.Stock.{stock}
use Rattle.td_batch.specs.Meaning.{run}
use Rattle.td_plan.specs.Placed.{IsPlacedTree}

-- an entry of a batch, and an output
abbrev pub entry : ℕ → ℕ → ℤ → Entry
entry input key val = record { input = input; rec = record { key = key; val = val } }

abbrev pub out : ℕ → ℕ → ℤ → Output
out v key val = record { vertex = v; rec = record { key = key; val = val } }

abbrev pub outs_from_start : List Line → List (List Entry) → List (List Output)
outs_from_start plan batches = (run stock (tree_of plan) [] batches).outs

pub count_row : outs_from_start count_plan ((entry 0 7 (pos 1) ∷ entry 0 7 (pos 1) ∷ entry 0 9 (pos 0) ∷ []) ∷ []) ≡ (out 2 7 (pos 2) ∷ out 2 9 (pos 1) ∷ []) ∷ []
count_row = refl

-- a value 5 goes round three times and loses 1 in each turn
pub loop_row : outs_from_start (loop_plan 3) ((entry 0 7 (pos 5) ∷ []) ∷ []) ≡ (out 5 7 (pos 2) ∷ out 5 7 (pos 3) ∷ out 5 7 (pos 4) ∷ []) ∷ []
loop_row = refl

-- and once
pub once_row : outs_from_start (loop_plan 1) ((entry 0 7 (pos 5) ∷ []) ∷ []) ≡ (out 5 7 (pos 4) ∷ []) ∷ []
once_row = refl

-- a sum that stops at the greatest i64
pub sum_row : outs_from_start sum_plan ((entry 0 7 (negsuc 0) ∷ entry 0 7 (pos 1) ∷ entry 0 7 (pos 9223372036854775807) ∷ []) ∷ []) ≡ (out 2 7 (pos 9223372036854775807) ∷ []) ∷ []
sum_row = refl

-- a loop in a loop
pub nest_row : outs_from_start nest_plan ((entry 0 7 (pos 5) ∷ []) ∷ []) ≡ (out 9 7 (pos 5) ∷ out 9 7 (pos 5) ∷ out 9 7 (pos 10) ∷ out 9 7 (pos 10) ∷ []) ∷ []
nest_row = refl

-- a state that is kept at every other epoch
pub toggle_row : run stock (tree_of toggle_plan) [] ((entry 0 7 (pos 5) ∷ []) ∷ (entry 0 7 (pos 6) ∷ []) ∷ (entry 0 7 (pos 9) ∷ []) ∷ [])
    ≡ record { states = ((1, 7), record { a = pos 9; b = pos 0 }) ∷ []; outs = (out 2 7 (pos 1) ∷ []) ∷ (out 2 7 (pos 0) ∷ []) ∷ (out 2 7 (pos 1) ∷ []) ∷ [] }
toggle_row = refl

-- keys that go round
pub ring_row : outs_from_start ring_plan ((entry 0 0 (pos 1) ∷ entry 0 0 (pos 1) ∷ []) ∷ [])
    ≡ (out 7 0 (pos 3) ∷ out 7 1 (pos 3) ∷ out 7 2 (pos 2) ∷ out 7 3 (pos 2) ∷ []) ∷ []
ring_row = refl

-- two inputs
pub both_row : outs_from_start both_plan ((entry 0 7 (pos 5) ∷ entry 0 8 (pos 1) ∷ entry 1 7 (pos 10) ∷ []) ∷ []) ≡ (out 3 7 (pos 15) ∷ []) ∷ []
both_row = refl

-- the sources of these plans are read where their readers read
pub loop_placed : IsPlacedTree (tree_of (loop_plan 3))
loop_placed = (
  refl,
  tt,
  (
    (refl, (refl, tt), (refl, (refl, tt), (refl, (refl, (refl, tt)), (refl, (refl, tt), tt)))),
    (refl, (refl, tt), tt),
  ),
)
