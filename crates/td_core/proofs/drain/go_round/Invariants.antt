use Rattle.std.proofs.Common.{◌≡◌, ℕ, ◌<◌, None}
use Rattle.td_machine.specs.Steps.{Takes}
use Rattle.td_machine.specs.Steps.Answer.{has_taken}
use Rattle.td_core.specs.Drained.{IsFurther}
use Rattle.td_core.specs.Parts.{state_of}
use Rattle.td_core.proofs.drain.go_round.Given as goal

abbrev pub invariant-loop-shard : goal.invariant-loop-shard
invariant-loop-shard g l = record {
  further : IsFurther g.L.Law.answers l.fn.parts l.fn.drained l.parts l.drained;
  none_left : l.parts.taken ≡ l.fn.parts.taken → (s : ℕ) → s < l.shard → Takes (state_of l.parts) s (has_taken None) (state_of l.parts);
}
