use Rattle.std.proofs.Common.{rules}
use Rattle.td_disk.proofs.ahead.ReadAheadDisk.sync.Goals as goal

pub returns-else-is_err-clause-durable : goal.returns-else-is_err-clause-durable
returns-else-is_err-clause-durable g c = search rules

pub returns-else-is_err-clause-gives : goal.returns-else-is_err-clause-gives
returns-else-is_err-clause-gives g c = search rules
