use Rattle.std.proofs.Common.{◌≡◌, length}
use Rattle.td_progress.specs.Held.{firsts}
use Rattle.td_progress.proofs.chain.FrontierStampsIterator.next.Given as goal

abbrev pub invariant-loop-class : goal.invariant-loop-class
invariant-loop-class l = firsts l.self-inside.chains ≡ firsts l.initial.self-inside.chains

abbrev pub decreases-loop-class : goal.decreases-loop-class
decreases-loop-class l = length l.self-inside.chains
