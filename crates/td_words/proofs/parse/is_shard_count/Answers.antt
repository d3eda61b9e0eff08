use Rattle.std.proofs.Common.{rules}
use Rattle.td_words.proofs.parse.is_shard_count.Goals as goal

pub returns-then-workers-ge1 : goal.returns-then-workers-ge1
returns-then-workers-ge1 c = search rules
