-- The numbers and the texts of the refusals.
use Rattle.std.specs.Prelude.{ℕ, List, ◌++◌, codes}
use Rattle.std.specs.Fmt.{decimal}
use Rattle.td_plan.specs.declared.error.PlanError.{PlanError}
use Rattle.td_plan.specs.declared.error.PlanError.TheVariants.{Syntax, Number, Order, Nest, Bound, FoldInLoop, Again, TooMany, NoInputOrOutput, Memory}

-- the number of a refusal
abbrev pub number_of : PlanError → ℕ
number_of (Syntax line) = 1
number_of (Number line) = 2
number_of (Order line) = 3
number_of (Nest line) = 4
number_of (Bound line) = 5
number_of (FoldInLoop line) = 6
number_of (Again line) = 7
number_of (TooMany line) = 8
number_of NoInputOrOutput = 9
number_of Memory = 10

-- a line, and what is wrong with it
abbrev pub at_plan_line : ℕ → List ℕ → List ℕ
at_plan_line line what = codes "plan line " ++ (decimal line ++ (codes ": " ++ what))

-- the text of a refusal
abbrev pub refusal_text : PlanError → List ℕ
refusal_text (Syntax line) = at_plan_line line (codes "syntax")
refusal_text (Number line) = at_plan_line line (codes "number")
refusal_text (Order line) = at_plan_line line (codes "order")
refusal_text (Nest line) = at_plan_line line (codes "nest")
refusal_text (Bound line) = at_plan_line line (codes "bound")
refusal_text (FoldInLoop line) = at_plan_line line (codes "fold in loop")
refusal_text (Again line) = at_plan_line line (codes "again")
refusal_text (TooMany line) = at_plan_line line (codes "too many")
refusal_text NoInputOrOutput = codes "plan: no input or output"
refusal_text Memory = codes "memory"
