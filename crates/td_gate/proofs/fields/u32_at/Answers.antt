use Rattle.std.proofs.Common.{arith}
use Rattle.std.proofs.lemmas.Grind.{common_steps}
use Rattle.td_gate.specs.Fields.{number_at}
use Rattle.td_gate.proofs.fields.u32_at.Goals as goal

pub returns : goal.returns
unfolding number_at
returns c = grind (arith, common_steps)
