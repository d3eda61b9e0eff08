use Rattle.std.proofs.Common.{arith}
use Rattle.td_shard.specs.Runs.{all_of}
use Rattle.td_shard.proofs.Search.{few_ascend}
use Rattle.td_shard.proofs.take.number_at.Goals as goal

pub loop-high-init : goal.loop-high-init
loop-high-init c =
    let low = c.bounds_of-low.ensures.low in
    let high = c.bounds_of-low.ensures.high in
    record { ordered = few_ascend c.bounds_of-low.result.0 c.bounds_of-low.result.1 (all_of c.args.runs.now.parts) (omega (arith, low, high)); low = low; high = high }
