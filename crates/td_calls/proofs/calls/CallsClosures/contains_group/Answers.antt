use Rattle.std.proofs.Common.{rules}
use Rattle.td_calls.proofs.calls.CallsClosures.contains_group.Goals as goal

pub returns : goal.returns
returns g c = search rules
