use Rattle.td_shard.proofs.Parted.{is-beside, beside-is}
use Rattle.td_shard.proofs.laws.edges.Goals as goal

pub returns : goal.returns
returns c x y = (is-beside x y, beside-is x y)
