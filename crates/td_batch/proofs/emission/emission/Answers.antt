use Rattle.std.proofs.Common.{arith}
use Rattle.std.proofs.lemmas.Grind.{common_steps}
use Rattle.td_batch.proofs.emission.emission.Goals as goal

pub returns-then-is_input-clause-sent : goal.returns-then-is_input-clause-sent
returns-then-is_input-clause-sent g c = grind (arith, common_steps)
