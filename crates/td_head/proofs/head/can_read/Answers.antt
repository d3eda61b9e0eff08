use Rattle.std.proofs.Common.{rules}
use Rattle.td_head.proofs.head.can_read.Goals as goal

pub returns-else-version-eq1 : goal.returns-else-version-eq1
returns-else-version-eq1 c = search rules
