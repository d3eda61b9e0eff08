use Rattle.std.proofs.Common.{◌≡◌, length, take}
use Rattle.td_plan.specs.Tree.{tree_of}
use Rattle.td_batch.specs.Meaning.{run, numbered}
use Rattle.td_batch.proofs.evaluator.evaluate.Given as goal

abbrev pub invariant-loop-batch : goal.invariant-loop-batch
invariant-loop-batch g l = record {
  count_is : length l.outs.items ≡ l.batch-index;
  kept : l.states ≡ (run g.L.Law.answers (tree_of l.plan) l.fn.states (take l.batch-index l.batches)).states;
  so_far : l.outs.items ≡ numbered l.first (run g.L.Law.answers (tree_of l.plan) l.fn.states (take l.batch-index l.batches)).outs;
}
