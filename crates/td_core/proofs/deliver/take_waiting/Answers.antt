use Rattle.std.proofs.Common.{◌∙◌, arith}
use Rattle.td_shard.specs.Asked.{without_items}
use Rattle.td_core.proofs.NotifyShards.{same_mails, taken_out}
use Rattle.td_core.proofs.deliver.take_waiting.Goals as goal

pub returns-clause-mails : goal.returns-clause-mails
returns-clause-mails c = same_mails c.args.shards.now.items c.from.result c.index_mut-shard.result.now c.forget.new.self c.index_mut-shard.ensures.value

pub returns-clause-waits : goal.returns-clause-waits
returns-clause-waits c =
    let place = c.from.ensures ∙ c.shard.ensures in
    let asked = c.index_mut-shard.result.now.waiting in
    taken_out c.args.task.now 0 c.args.shards.now.items c.from.result c.index_mut-shard.result.now c.forget.new.self (omega (arith, place, c.requires)) c.index_mut-shard.ensures.value
    (omega (arith, place)) (c.forget.ensures.left ∙ (λ i. without_items asked (c.vertex.ensures i) (c.time.ensures i)))
