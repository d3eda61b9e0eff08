use Rattle.std.proofs.Common.{rules}
use Rattle.td_shard.proofs.versions.placed.Goals as goal

pub returns-clause-version : goal.returns-clause-version
returns-clause-version c = search rules
