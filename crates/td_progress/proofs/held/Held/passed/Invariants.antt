use Rattle.std.proofs.Common.{◌≡◌}
use Rattle.td_reach.specs.Frontier.{has_passed}
use Rattle.td_progress.specs.Held.{all_marked, AllTimed}
use Rattle.td_progress.proofs.held.Held.passed.Given as goal

abbrev pub invariant-loop-chain : goal.invariant-loop-chain
invariant-loop-chain l = record {
  rest : has_passed (all_marked l.chain-iterator) l.epoch ≡ has_passed (all_marked l.self) l.epoch;
  timed : AllTimed l.chain-iterator;
}
