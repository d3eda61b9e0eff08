use Rattle.std.proofs.Common.{rules}
use Rattle.td_console.proofs.faults.fault_line.Goals as goal

pub returns : goal.returns
returns c = search rules
