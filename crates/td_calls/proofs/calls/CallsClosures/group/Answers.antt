use Rattle.std.proofs.Common.{rules}
use Rattle.td_calls.proofs.calls.CallsClosures.group.Goals as goal

pub returns-clause-law : goal.returns-clause-law
returns-clause-law g c = search rules
