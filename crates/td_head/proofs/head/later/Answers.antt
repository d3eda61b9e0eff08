use Rattle.std.proofs.Common.{rules}
use Rattle.td_head.proofs.head.later.Goals as goal

pub returns-then-u64_at-clause-greater : goal.returns-then-u64_at-clause-greater
returns-then-u64_at-clause-greater c = search rules

pub returns-else-u64_at-clause-greater : goal.returns-else-u64_at-clause-greater
returns-else-u64_at-clause-greater c = search rules
