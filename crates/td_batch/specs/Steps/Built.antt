-- What is built of a plan's tree, from its last line on.
use Rattle.std.specs.Prelude.{map}
use Rattle.td_plan.specs.Tree.{Rest}
use Rattle.td_batch.specs.declared.built.Built.{Built}
use Rattle.td_batch.specs.Steps.Tree.{nodes_of}

-- the parts of the tree for which it stands
abbrev pub rest_built : Built → Rest
rest_built b = record { inside = nodes_of b.inside; after = map nodes_of b.after.items }
