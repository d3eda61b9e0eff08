use Rattle.td_batch.specs.Meaning.{emitted, epoch_bags, outputs_in}
use Rattle.td_batch.proofs.laws.outputs_are_sorted.Goals as goal

pub returns : goal.returns
returns c = λ epoch nodes. c.bags.ensures.gives_a_bag (outputs_in (emitted (epoch_bags epoch nodes)) nodes)
