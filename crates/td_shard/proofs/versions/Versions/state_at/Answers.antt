use Rattle.std.proofs.Common.{sym, ap, ◌∙◌}
use Rattle.td_stamp.specs.States.{state_of}
use Rattle.td_shard.specs.Versions.{version_or}
use Rattle.td_shard.proofs.versions.Versions.state_at.Goals as goal

pub returns-in-Some : goal.returns-in-Some
returns-in-Some c =
    let before = state_of c.args.base.now c.args.vertex c.args.key in
    sym (c.latest_at.ensures c.args.base.now c.len-in_order.ensures.ordered ∙ ap (λ o. version_or o before) c.in-Some.is)

pub returns-in-None : goal.returns-in-None
returns-in-None c =
    let before = state_of c.args.base.now c.args.vertex c.args.key in
    c.get.ensures ∙ sym (c.latest_at.ensures c.args.base.now c.len-in_order.ensures.ordered ∙ ap (λ o. version_or o before) c.in-None.is)
