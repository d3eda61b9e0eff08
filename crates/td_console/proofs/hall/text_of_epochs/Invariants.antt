use Rattle.std.proofs.Common.{◌≡◌, ◌+◌, [], length}
use Rattle.std.specs.Prelude.{string_bytes}
use Rattle.td_plan.specs.Tree.{tree_of}
use Rattle.td_batch.specs.Meaning.{run, numbered}
use Rattle.td_machine.specs.Sound.{run_of}
use Rattle.td_console.specs.Answer.{output_text}
use Rattle.td_console.specs.EpochByEpoch.{IsBetween}
use Rattle.td_console.proofs.hall.text_of_epochs.Given as goal

-- the epochs so far were run, and the hall has their states
abbrev pub invariant-loop-batch : goal.invariant-loop-batch
invariant-loop-batch g l = record {
  plan : l.hall.plan ≡ l.fn.hall.plan;
  between : IsBetween l.hall;
  next : l.hall.next ≡ 1 + length l.yielded;
  kept : (run_of g.L.Law.answers l.hall).states ≡ (run g.L.Law.answers (tree_of l.fn.hall.plan) [] l.yielded).states;
  printed : string_bytes l.text ≡ output_text (numbered 1 (run g.L.Law.answers (tree_of l.fn.hall.plan) [] l.yielded).outs);
}
