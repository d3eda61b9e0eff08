use Rattle.std.proofs.Common.{rules}
use Rattle.td_shard.proofs.versions.keep.Goals as goal

pub returns-in-None : goal.returns-in-None
returns-in-None c = search rules
