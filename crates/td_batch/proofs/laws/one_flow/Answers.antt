use Rattle.td_batch.proofs.Unique.{solutions_read_same}
use Rattle.td_batch.proofs.laws.one_flow.Goals as goal

pub returns : goal.returns
returns c = solutions_read_same
