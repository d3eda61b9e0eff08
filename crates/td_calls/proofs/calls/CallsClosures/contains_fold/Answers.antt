use Rattle.std.proofs.Common.{rules}
use Rattle.td_calls.proofs.calls.CallsClosures.contains_fold.Goals as goal

pub returns : goal.returns
returns g c = search rules
