use Rattle.std.proofs.Common.{rules}
use Rattle.td_disk.proofs.ahead.ReadAhead.new.Goals as goal

pub returns-clause-failures : goal.returns-clause-failures
returns-clause-failures g c = search rules
