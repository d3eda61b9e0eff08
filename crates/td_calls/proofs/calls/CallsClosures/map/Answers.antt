use Rattle.std.proofs.Common.{rules}
use Rattle.td_calls.proofs.calls.CallsClosures.map.Goals as goal

pub returns-in_err-call-clause-found : goal.returns-in_err-call-clause-found
returns-in_err-call-clause-found g c = search rules

pub returns-clause-found : goal.returns-clause-found
returns-clause-found g c = search rules

pub returns-clause-law : goal.returns-clause-law
returns-clause-law g c = search rules
