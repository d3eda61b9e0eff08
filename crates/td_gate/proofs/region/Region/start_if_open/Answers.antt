use Rattle.std.proofs.Common.{arith}
use Rattle.std.proofs.lemmas.Grind.{common_steps}
use Rattle.td_gate.proofs.region.Region.start_if_open.Goals as goal

pub returns-clause-found : goal.returns-clause-found
returns-clause-found g c = grind (arith, common_steps)
