-- The number of a refusal, and its place.
use Rattle.std.specs.Prelude.{ℕ}
use Rattle.td_plan.specs.declared.error.PlanError.{PlanError}
use Rattle.td_plan.specs.declared.error.PlanError.TheVariants as faults
use Rattle.td_plan.specs.Refusals as plans
use Rattle.td_calls.specs.declared.error.CallsError.{CallsError}
use Rattle.td_calls.specs.declared.error.CallsError.TheVariants.{NoCall}
use Rattle.td_closures.specs.declared.fault.Wrong.{Wrong}
use Rattle.td_closures.specs.declared.fault.Wrong.TheVariants as wrongs
use Rattle.td_c.specs.declared.refusal.Refusal.{Refusal}
use Rattle.td_c.specs.declared.refusal.Refusal.TheVariants.{Plan, Text, Closure, Input, Count, Fold, Doubled, Room, Closures, ClosuresText, Memory}

-- the number of what is wrong with a line of closures
abbrev pub number_of_wrong : Wrong → ℕ
number_of_wrong wrongs.Memory = 10
number_of_wrong wrongs.Syntax = 18
number_of_wrong wrongs.Name = 19
number_of_wrong wrongs.Code = 20
number_of_wrong wrongs.TooMany = 21
number_of_wrong wrongs.Deep = 22

-- the number
abbrev pub number_of : Refusal → ℕ
number_of (Plan fault) = plans.number_of fault
number_of Memory = 10
number_of Text = 11
number_of (Closure lack) = 12
number_of (Input index) = 13
number_of Count = 14
number_of (Fold index) = 15
number_of (Doubled index) = 16
number_of Room = 17
number_of (Closures fault) = number_of_wrong fault.wrong
number_of ClosuresText = 23

-- the line of a plan's fault, or 0
abbrev pub line_of : PlanError → ℕ
line_of (faults.Syntax line) = line
line_of (faults.Number line) = line
line_of (faults.Order line) = line
line_of (faults.Nest line) = line
line_of (faults.Bound line) = line
line_of (faults.FoldInLoop line) = line
line_of (faults.Again line) = line
line_of (faults.TooMany line) = line
line_of faults.NoInputOrOutput = 0
line_of faults.Memory = 0

-- the vertex that lacks a closure
abbrev pub vertex_of : CallsError → ℕ
vertex_of (NoCall vertex code) = vertex
vertex_of _ = 0

-- the line of closures that is wrong; none where memory was refused
abbrev pub line_of_wrong : ℕ → Wrong → ℕ
line_of_wrong line wrongs.Memory = 0
line_of_wrong line _ = line

-- the place: a line, a vertex, or an index
abbrev pub place_of : Refusal → ℕ
place_of (Plan fault) = line_of fault
place_of (Closure lack) = vertex_of lack
place_of (Input index) = index
place_of (Fold index) = index
place_of (Doubled index) = index
place_of (Closures fault) = line_of_wrong fault.line fault.wrong
place_of _ = 0
