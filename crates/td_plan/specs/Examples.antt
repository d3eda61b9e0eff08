-- Worked examples of the definitions, by computation.
use Rattle.std.specs.Prelude.{◌≡◌, ◌++◌, ℕ, true, false, List, [], ◌∷◌, codes, Some, None, map}
use Rattle.std.proofs.Common.{refl, inr}
use Rattle.std.specs.Fmt.{digits}
use Rattle.td_plan.specs.declared.vertex.Kind.TheVariants.{Input, Map, Group, Fold, Enter, Feedback, Leave, Output}
use Rattle.td_plan.specs.declared.error.PlanError.TheVariants as errors
use Rattle.td_plan.specs.Text.{text_lines}
use Rattle.td_plan.specs.Lines.{Line, text_of}
use Rattle.td_plan.specs.Lines.Line.{loop, end}
use Rattle.td_plan.specs.Blocks.{scope_of, edges, loops, firsts, reading_loops_at, edge_at}
use Rattle.td_plan.specs.Faults.{Fault, fault_of, is_stray, IsPlan}
use Rattle.td_plan.specs.Texts.{PlanText, PlanFault}
use Rattle.td_plan.specs.Named.{at, count_plan, sum_plan, total_plan, toggle_plan, loop_plan, nest_plan, ring_plan, both_plan}
use Rattle.td_plan.specs.Tree.{tree_of, lines_of}

-- the named plans have no fault
count_is_plan : IsPlan count_plan
count_is_plan = record { formed = refl; faultless = refl; closed = refl; none_stray = refl; ends = refl }

sum_is_plan : IsPlan sum_plan
sum_is_plan = record { formed = refl; faultless = refl; closed = refl; none_stray = refl; ends = refl }

total_is_plan : IsPlan total_plan
total_is_plan = record { formed = refl; faultless = refl; closed = refl; none_stray = refl; ends = refl }

toggle_is_plan : IsPlan toggle_plan
toggle_is_plan = record { formed = refl; faultless = refl; closed = refl; none_stray = refl; ends = refl }

loop_is_plan : IsPlan (loop_plan 3)
loop_is_plan = record { formed = refl; faultless = refl; closed = refl; none_stray = refl; ends = refl }

nest_is_plan : IsPlan nest_plan
nest_is_plan = record { formed = refl; faultless = refl; closed = refl; none_stray = refl; ends = refl }

ring_is_plan : IsPlan ring_plan
ring_is_plan = record { formed = refl; faultless = refl; closed = refl; none_stray = refl; ends = refl }

both_is_plan : IsPlan both_plan
both_is_plan = record { formed = refl; faultless = refl; closed = refl; none_stray = refl; ends = refl }

-- and are the lines of their trees
nest_tree : lines_of (tree_of nest_plan) ≡ nest_plan
nest_tree = refl

ring_tree : lines_of (tree_of ring_plan) ≡ ring_plan
ring_tree = refl

-- look-ups: the group of the inner loop, and its two edges
nest_blocks : map (λ l. l.bound) (loops nest_plan) ≡ 2 ∷ 2 ∷ []
nest_blocks = refl

nest_reads : firsts (reading_loops_at nest_plan 4) ≡ 1 ∷ []
nest_reads = refl

nest_inner : firsts (reading_loops_at nest_plan 6) ≡ 4 ∷ 1 ∷ []
nest_inner = refl

nest_edge : edge_at nest_plan 6 1 ≡ 7
nest_edge = refl

nest_edge_is : map (λ e. e.source) (edges nest_plan) ≡ 0 ∷ 7 ∷ 1 ∷ 2 ∷ 3 ∷ 6 ∷ 4 ∷ 5 ∷ 6 ∷ 7 ∷ 8 ∷ []
nest_edge_is = refl

-- an output has one or more sources
abbrev two_sources : List Line
two_sources = at 0 Input [] ∷ at 1 (Group 20) (0 ∷ []) ∷ at 2 (Group 20) (0 ∷ []) ∷ at 3 Output (1 ∷ 2 ∷ []) ∷ []

two_sources_is_plan : IsPlan two_sources
two_sources_is_plan = record { formed = refl; faultless = refl; closed = refl; none_stray = refl; ends = refl }

-- TEXTS
abbrev lf : List ℕ → List ℕ → List ℕ
lf a b = a ++ 10 ∷ b

count_text : text_of count_plan ≡ lf (codes "0 input") (lf (codes "1 group 20 0") (lf (codes "2 output 1") []))
unfolding digits
count_text = refl

no_line : text_lines [] ≡ []
no_line = refl

one_empty_line : text_lines (10 ∷ []) ≡ [] ∷ []
one_empty_line = refl

-- a text with spaces and a comment
pub count_spelled : PlanText (lf (codes " 0  input ") (lf (codes "# a comment") (lf (codes "1 group 20 0") (codes "2 output 1")))) count_plan
unfolding digits
count_spelled = record {
  readings = Some (at 0 Input []) ∷ None ∷ Some (at 1 (Group 20) (0 ∷ [])) ∷ Some (at 2 Output (1 ∷ [])) ∷ [];
  read = ((refl, refl), (refl, ((refl, refl), ((refl, refl), tt))));
  plan_is = refl;
  lawful = count_is_plan;
}

-- the second vertex is given the number 2
pub misnumbered : PlanFault (lf (codes "0 input") (lf (codes "2 map 1 5") [])) (errors.Number 2)
unfolding digits
misnumbered = record {
  front = codes "0 input" ∷ [];
  line = codes "2 map 1 5";
  rest = [];
  splits = refl;
  readings = Some (at 0 Input []) ∷ [];
  read = ((refl, refl), tt);
  faultless = refl;
  is_number = refl;
  has = inr (at 2 (Map 1) (5 ∷ []), (refl, refl), refl);
}

empty_text : PlanFault [] errors.NoInputOrOutput
empty_text = record { readings = []; whole = record { read = tt; faultless = refl }; closed = refl; none_stray = refl; lacks = refl }

-- REFUSED LINES, by what stands before them
-- a source lower than the vertex, but not than the first number of the block
abbrev left_within : List Line
left_within = at 0 Input [] ∷ loop 2 ∷ at 1 Enter (0 ∷ []) ∷ at 2 Leave (1 ∷ []) ∷ []

order_in_loop : fault_of (scope_of left_within) (at 3 Enter (2 ∷ [])) ≡ Some Fault.order
order_in_loop = refl

fold_in_loop : fault_of (scope_of (at 0 Input [] ∷ loop 2 ∷ at 1 Enter (0 ∷ []) ∷ [])) (at 2 (Fold 40) (1 ∷ [])) ≡ Some Fault.fold_in_loop
fold_in_loop = refl

-- an output that reads within the loop
abbrev counted_down : List Line
counted_down =
    at 0 Input []
    ∷ loop 3
    ∷ at 1 Enter (0 ∷ [])
    ∷ at 2 Feedback (3 ∷ [])
    ∷ at 3 (Map 2) (1 ∷ 2 ∷ [])
    ∷ at 4 Leave (3 ∷ [])
    ∷ end
    ∷ []

read_within : fault_of (scope_of counted_down) (at 5 Output (3 ∷ [])) ≡ Some Fault.nest
read_within = refl

bound_0 : fault_of (scope_of (at 0 Input [] ∷ [])) (loop 0) ≡ Some Fault.bound
bound_0 = refl

bound_1000 : fault_of (scope_of (at 0 Input [] ∷ [])) (loop 1000) ≡ None
bound_1000 = refl

bound_1001 : fault_of (scope_of (at 0 Input [] ∷ [])) (loop 1001) ≡ Some Fault.bound
bound_1001 = refl

fourth_level : fault_of (scope_of (loop 2 ∷ loop 2 ∷ loop 2 ∷ [])) (loop 2) ≡ Some Fault.too_many
fourth_level = refl

empty_loop : fault_of (scope_of (at 0 Input [] ∷ loop 2 ∷ [])) end ≡ Some Fault.syntax
empty_loop = refl

two_feedback_sources : fault_of (scope_of (at 0 Input [] ∷ loop 2 ∷ at 1 Enter (0 ∷ []) ∷ [])) (at 2 Feedback (1 ∷ 2 ∷ [])) ≡ Some Fault.again
two_feedback_sources = refl

-- a feedback whose source is no vertex, and one whose source is read on another block
abbrev fed_back : ℕ → List Line
fed_back source = at 0 Input [] ∷ loop 2 ∷ at 1 Enter (0 ∷ []) ∷ at 2 Feedback (source ∷ []) ∷ end ∷ at 3 Output (0 ∷ []) ∷ []

stray_number : is_stray (fed_back 9) (at 2 Feedback (9 ∷ [])) ≡ true
stray_number = refl

stray_block : is_stray (fed_back 0) (at 2 Feedback (0 ∷ [])) ≡ true
stray_block = refl

not_stray : is_stray (fed_back 1) (at 2 Feedback (1 ∷ [])) ≡ false
not_stray = refl
