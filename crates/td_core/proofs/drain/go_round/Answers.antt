use Rattle.td_core.proofs.DrainParts.{further_on, none_on}
use Rattle.td_core.proofs.drain.go_round.Goals as goal

pub loop-shard-preserved : goal.loop-shard-preserved
loop-shard-preserved g c = record {
  further = further_on g.L.Law.answers c.args.parts.now c.loop-shard.parts c.clear.new.parts c.args.drained.now c.loop-shard.drained c.clear.new.drained c.loop-shard.invariant.further c.clear.ensures.further;
  none_left = none_on g.L.Law.answers c.args.parts.now c.loop-shard.parts c.clear.new.parts c.args.drained.now c.loop-shard.drained c.clear.new.drained c.loop-shard.shard
      c.loop-shard.invariant.further c.clear.ensures.further c.loop-shard.invariant.none_left c.in_ok-clear.ensures.none_left;
}
