use Rattle.td_shard.proofs.OneRun.{front-waits}
use Rattle.td_shard.proofs.take.front_is_taken.Goals as goal

pub returns-then-len-gt0-clause-waits : goal.returns-then-len-gt0-clause-waits
returns-then-len-gt0-clause-waits c = front-waits c.args.runs.now.parts c.waiting.result c.waiting.ensures.count
