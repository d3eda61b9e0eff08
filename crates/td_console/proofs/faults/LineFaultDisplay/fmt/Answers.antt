use Rattle.std.proofs.Common.{rules}
use Rattle.td_console.proofs.faults.LineFaultDisplay.fmt.Goals as goal

pub returns-in-NotClosed-clause-writes : goal.returns-in-NotClosed-clause-writes
returns-in-NotClosed-clause-writes g c = search rules

pub returns-in-NotOut-clause-writes : goal.returns-in-NotOut-clause-writes
returns-in-NotOut-clause-writes g c = search rules

pub returns-in-SeenBefore-clause-writes : goal.returns-in-SeenBefore-clause-writes
returns-in-SeenBefore-clause-writes g c = search rules

pub returns-in-Gap-clause-writes : goal.returns-in-Gap-clause-writes
returns-in-Gap-clause-writes g c = search rules

pub returns-in-NoSuchFold-clause-writes : goal.returns-in-NoSuchFold-clause-writes
returns-in-NoSuchFold-clause-writes g c = search rules
