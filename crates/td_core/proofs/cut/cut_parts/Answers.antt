use Rattle.std.proofs.Common.{rules}
use Rattle.td_core.proofs.cut.cut_parts.Goals as goal

pub returns-clause-states : goal.returns-clause-states
returns-clause-states c = search rules

pub returns-clause-ok : goal.returns-clause-ok
returns-clause-ok c = search rules
