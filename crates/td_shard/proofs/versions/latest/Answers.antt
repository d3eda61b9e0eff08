use Rattle.std.proofs.Common.{◌∙◌, take}
use Rattle.td_shard.proofs.VersionOrder.{latest-up_to}
use Rattle.td_shard.proofs.versions.latest.Goals as goal

pub returns : goal.returns
returns c =
    let vs = c.args.versions.now in
    c.copied.ensures ∙ (c.last.ensures.value ∙ latest-up_to vs (take c.count_up_to-count.result vs) c.args.epoch c.requires c.count_up_to-count.ensures.before)
