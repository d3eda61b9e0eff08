use Rattle.std.proofs.Common.{◌≡◌, ◌+◌, [], length}
use Rattle.std.specs.Prelude.{string_bytes}
use Rattle.td_plan.specs.Tree.{tree_of}
use Rattle.td_batch.specs.Meaning.{run, numbered}
use Rattle.td_console.specs.Answer.{output_text}
use Rattle.td_console.proofs.answer.run_text.Given as goal

-- the states and the lines of the epochs so far
abbrev pub invariant-loop-batch : goal.invariant-loop-batch
invariant-loop-batch g l = record {
  epoch_is : l.epoch ≡ 1 + length l.yielded;
  kept : l.states ≡ (run g.L.Law.answers (tree_of l.plan) [] l.yielded).states;
  printed : string_bytes l.text ≡ output_text (numbered 1 (run g.L.Law.answers (tree_of l.plan) [] l.yielded).outs);
}
