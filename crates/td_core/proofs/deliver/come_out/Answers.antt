use Rattle.std.proofs.Common.{◌≡◌, ◌∙◌, ap, sym, subst, map, length}
use Rattle.std.specs.List.{AllByRecursion}
use Rattle.td_reach.specs.Paths.{IsOf}
use Rattle.td_stamp.specs.Bag.{join}
use Rattle.td_machine.specs.State.{output_at_cmp}
use Rattle.td_core.specs.Came.{output_at}
use Rattle.td_shard.specs.Messages.{AreApart}
use Rattle.td_core.specs.Posted.{stamp_on_outlet}
use Rattle.td_core.proofs.Sending.{sent_then, outlets_of_plan, all_off, untouched}
use Rattle.td_core.proofs.Keeping.{at_ok, at_err}
use Rattle.td_core.proofs.deliver.come_out.Goals as goal

pub prepare-requires-clause-of_plan : goal.prepare-requires-clause-of_plan
prepare-requires-clause-of_plan c =
    let parts = c.args.parts.now in
    subst (AllByRecursion (λ o. IsOf parts.table.plan (stamp_on_outlet c.args.time.now o))) (sym (c.outlets-outlets.ensures ∙ c.requires.can.routes.outlets c.args.vertex))
    (outlets_of_plan parts.table.plan c.args.vertex c.args.time.now c.args.time.now c.requires.plain c.requires.can.of_plan)

pub returns-then-is_err-clause-err : goal.returns-then-is_err-clause-err
returns-then-is_err-clause-err c =
    let parts = c.args.parts.now in
    untouched parts (record parts { table = c.take_off_on.new.table; shards = c.prepare.new.shards; outputs = c.come.new.self })
    (λ i. record parts { table = c.take_off_on.new.table; shards = c.prepare.new.shards; outputs = at_err c.come.result c.if-is_err.ensures.value c.come.ensures.err i })
    (c.take_off_on.ensures.plan ∙ c.in_ok-prepare.ensures.plan)
    (all_off c.counted.ensures.append c.outlets-outlets.result.now c.args.time.now (length c.args.recs.now) parts.table.stamps c.prepare.new.table.stamps c.take_off_on.new.table.stamps
    c.in_ok-prepare.ensures.stamps c.take_off_on.ensures.stamps)
    c.in_ok-prepare.ensures.shards

pub returns-clause-ok : goal.returns-clause-ok
returns-clause-ok c =
    let parts = c.args.parts.now in
    let came = join output_at_cmp (map (output_at c.args.time.now.epoch c.args.vertex) c.args.recs.now) parts.outputs in
    let comes : c.come.new.self ≡ came =
    at_ok c.come.result c.if-is_err.ensures.value c.come.ensures.ok ∙ ap (λ e. join output_at_cmp (map (output_at e c.args.vertex) c.args.recs.now) parts.outputs) c.epoch.ensures in
    sent_then parts (record parts { table = c.prepare.new.table; shards = c.post.new.shards; outputs = c.come.new.self }) c.args.vertex c.args.time.now c.args.time.now c.requires.plain
    c.outlets-outlets.result.now (c.outlets-outlets.ensures ∙ c.requires.can.routes.outlets c.args.vertex) c.args.recs.now parts.seen came c.prepare.new.shards.items
    (λ i. record parts { table = c.prepare.new.table; shards = c.post.new.shards; outputs = comes i })
    c.in_ok-prepare.ensures.plan c.in_ok-prepare.ensures.stamps c.in_ok-prepare.ensures.shards c.post.ensures.messages

pub post-requires-clause-apart : goal.post-requires-clause-apart
post-requires-clause-apart c = subst AreApart (sym c.outlets-outlets.ensures) (c.requires.can.routes.apart c.args.vertex)
