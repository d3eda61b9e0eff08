use Rattle.std.proofs.Common.{rules}
use Rattle.td_gate.specs.Fields.{number_bytes}
use Rattle.td_gate.proofs.fields.push_u32.Goals as goal

pub returns : goal.returns
unfolding number_bytes
returns c = search rules
