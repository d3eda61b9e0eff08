use Rattle.std.proofs.Common.{rules}
use Rattle.td_shard.proofs.versions.Version.total_cmp.Goals as goal

pub returns : goal.returns
returns c = search rules
