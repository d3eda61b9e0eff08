use Rattle.td_batch.proofs.Local.{placed_alike}
use Rattle.td_plan.specs.Tree.{tree_of}
use Rattle.td_batch.proofs.laws.epochs_are_local.Goals as goal

pub returns-clause-outs : goal.returns-clause-outs
returns-clause-outs c = λ plan epoch others lawful h. (placed_alike epoch others (tree_of plan) (c.well_placed.ensures plan lawful) (c.stands_well.ensures plan lawful) h).0

pub returns-clause-states : goal.returns-clause-states
returns-clause-states c = λ plan epoch others lawful h. (placed_alike epoch others (tree_of plan) (c.well_placed.ensures plan lawful) (c.stands_well.ensures plan lawful) h).1
