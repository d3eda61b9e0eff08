use Rattle.std.proofs.Common.{rules}
use Rattle.td_calls.proofs.calls.Closures.lacking_code.Goals as goal

pub returns-in-Fold : goal.returns-in-Fold
returns-in-Fold g c = search rules
