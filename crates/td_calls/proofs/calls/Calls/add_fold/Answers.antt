use Rattle.std.proofs.Common.{rules}
use Rattle.td_calls.proofs.calls.Calls.add_fold.Goals as goal

pub returns-clause-used : goal.returns-clause-used
returns-clause-used g c = search rules
