-- Plans that the worked rows name.
use Rattle.std.specs.Prelude.{ℕ, List, [], ◌∷◌}
use Rattle.td_plan.specs.declared.vertex.Kind.{Kind}
use Rattle.td_plan.specs.declared.vertex.Kind.TheVariants.{Input, Map, Distinct, Group, Fold, Enter, Feedback, Leave, Output}
use Rattle.td_plan.specs.Lines.{Line}
use Rattle.td_plan.specs.Lines.Line.{vertex, loop, end}

abbrev pub at : ℕ → Kind → List ℕ → Line
at number kind sources = vertex (record { number = number; kind = kind; sources = sources })

-- an input, one vertex of this kind, and an output
abbrev pub straight : Kind → List Line
straight kind = at 0 Input [] ∷ at 1 kind (0 ∷ []) ∷ at 2 Output (1 ∷ []) ∷ []

abbrev pub count_plan : List Line
count_plan = straight (Group 20)

abbrev pub sum_plan : List Line
sum_plan = straight (Group 21)

abbrev pub total_plan : List Line
total_plan = straight (Fold 40)

abbrev pub toggle_plan : List Line
toggle_plan = straight (Fold 41)

abbrev pub loop_plan : ℕ → List Line
loop_plan bound =
    at 0 Input []
    ∷ loop bound
    ∷ at 1 Enter (0 ∷ [])
    ∷ at 2 Feedback (3 ∷ [])
    ∷ at 3 (Map 2) (1 ∷ 2 ∷ [])
    ∷ at 4 Leave (3 ∷ [])
    ∷ end
    ∷ at 5 Output (4 ∷ [])
    ∷ []

abbrev pub nest_plan : List Line
nest_plan =
    at 0 Input []
    ∷ loop 2
    ∷ at 1 Enter (0 ∷ [])
    ∷ at 2 Feedback (7 ∷ [])
    ∷ at 3 (Map 1) (1 ∷ 2 ∷ [])
    ∷ loop 2
    ∷ at 4 Enter (3 ∷ [])
    ∷ at 5 Feedback (6 ∷ [])
    ∷ at 6 (Group 21) (4 ∷ 5 ∷ [])
    ∷ at 7 Leave (6 ∷ [])
    ∷ end
    ∷ at 8 Leave (7 ∷ [])
    ∷ end
    ∷ at 9 Output (8 ∷ [])
    ∷ []

abbrev pub ring_plan : List Line
ring_plan =
    at 0 Input []
    ∷ loop 10
    ∷ at 1 Enter (0 ∷ [])
    ∷ at 2 Feedback (4 ∷ [])
    ∷ at 3 Distinct (1 ∷ 2 ∷ [])
    ∷ at 4 (Map 9) (3 ∷ [])
    ∷ at 5 Leave (3 ∷ [])
    ∷ end
    ∷ at 6 (Group 20) (5 ∷ [])
    ∷ at 7 Output (6 ∷ [])
    ∷ []

abbrev pub both_plan : List Line
both_plan = at 0 Input [] ∷ at 1 Input [] ∷ at 2 (Group 24) (0 ∷ 1 ∷ []) ∷ at 3 Output (2 ∷ []) ∷ []
