use Rattle.std.proofs.Common.{rules}
use Rattle.td_batch.proofs.built.Built.with_head.Goals as goal

pub returns : goal.returns
returns c = search rules
