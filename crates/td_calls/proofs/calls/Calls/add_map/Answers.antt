use Rattle.std.proofs.Common.{rules}
use Rattle.td_calls.proofs.calls.Calls.add_map.Goals as goal

pub returns-clause-used : goal.returns-clause-used
returns-clause-used g c = search rules
