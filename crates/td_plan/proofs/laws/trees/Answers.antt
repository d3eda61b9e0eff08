use Rattle.std.proofs.Common.{[], length, ap, sym, ◌∙◌}
use Rattle.td_plan.specs.Tree.{tree_of}
use Rattle.td_plan.proofs.Trees.{length-placed, tree_lines, tree_numbered, tree_vertices}
use Rattle.td_plan.proofs.laws.trees.Goals as goal

pub returns-clause-lines : goal.returns-clause-lines
returns-clause-lines c = tree_lines

pub returns-clause-numbers : goal.returns-clause-numbers
returns-clause-numbers c = tree_numbered

pub returns-clause-all : goal.returns-clause-all
returns-clause-all c = tree_vertices

pub returns-clause-size : goal.returns-clause-size
returns-clause-size c = λ plan lawful. ap length (sym (tree_vertices plan lawful)) ∙ length-placed (tree_of plan) [] 0
