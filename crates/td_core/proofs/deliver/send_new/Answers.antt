use Rattle.std.proofs.Common.{◌≡◌, ◌-◌, ◌++◌, ◌∙◌, ap, sym, subst, length, arith}
use Rattle.std.specs.List.{AllByRecursion}
use Rattle.td_reach.specs.Paths.{IsOf}
use Rattle.td_stamp.specs.Bag.{join}
use Rattle.td_progress.specs.Bag.{occurrences}
use Rattle.td_machine.specs.State.{stamped_cmp}
use Rattle.td_machine.specs.Steps.{stamped}
use Rattle.td_machine.specs.AtOnce.{fresh}
use Rattle.td_shard.specs.Messages.{AreApart}
use Rattle.td_core.specs.Posted.{stamp_on_outlet, stamps_on, IsPosted, HaveRoom}
use Rattle.td_shard.specs.Messages.{on_each}
use Rattle.td_core.proofs.Sending.{sent_then, outlets_of_plan, fewer, room_for_new, enough_on, surplus_off, all_off, untouched}
use Rattle.td_core.proofs.deliver.send_new.Goals as goal

pub prepare-requires-clause-of_plan : goal.prepare-requires-clause-of_plan
prepare-requires-clause-of_plan c =
    let parts = c.args.parts.now in
    subst (AllByRecursion (λ o. IsOf parts.table.plan (stamp_on_outlet c.args.time.now o))) (sym (c.outlets-outlets.ensures ∙ c.requires.can.routes.outlets c.args.vertex))
    (outlets_of_plan parts.table.plan c.args.vertex c.args.time.now c.args.time.now c.requires.plain c.requires.can.of_plan)

pub returns-in_default-clause-err : goal.returns-in_default-clause-err
returns-in_default-clause-err c =
    let parts = c.args.parts.now in
    untouched parts (record parts { table = c.take_off_on.new.table; shards = c.prepare.new.shards; seen = c.see.new.self })
    (λ i. record parts { table = c.take_off_on.new.table; shards = c.prepare.new.shards; seen = c.in_default.ensures.err i })
    (c.take_off_on.ensures.plan ∙ c.in_ok-prepare.ensures.plan)
    (all_off c.counted.ensures.append c.outlets-outlets.result.now c.args.time.now (length c.args.recs.now) parts.table.stamps c.prepare.new.table.stamps c.take_off_on.new.table.stamps
    c.in_ok-prepare.ensures.stamps c.take_off_on.ensures.stamps)
    c.in_ok-prepare.ensures.shards

pub overflow_sub-surplus : goal.overflow_sub-surplus
overflow_sub-surplus c =
    let less = fewer c.args.parts.now.seen c.args.vertex c.args.time.now c.args.recs.now in
    let many : c.len.result ≡ length (fresh c.args.parts.now.seen c.args.vertex c.args.time.now c.args.recs.now) = c.len.ensures ∙ (c.in-Ok.new.ok.0 ∙ ap length c.in-Ok.ensures.answer) in
    omega (arith, less, many)

pub take_off_on-requires-2 : goal.take_off_on-requires-2
take_off_on-requires-2 c =
    enough_on c.counted.ensures.append c.outlets-outlets.result.now c.args.time.now (length c.args.recs.now) (length c.args.recs.now - c.len.result) c.args.parts.now.table.stamps c.prepare.new.table.stamps
    (omega arith) c.in_ok-prepare.ensures.stamps

pub post-requires-clause-room : goal.post-requires-clause-room
post-requires-clause-room c =
    subst (λ new. HaveRoom new (length c.outlets-outlets.result.now) c.prepare.new.shards.items) (sym (c.as_slice.ensures.value ∙ c.in-Ok.ensures.answer))
    (room_for_new c.args.parts.now.seen c.args.vertex c.args.time.now c.args.recs.now (length c.outlets-outlets.result.now) c.prepare.new.shards.items c.in_ok-prepare.ensures.room)

pub returns-clause-ok : goal.returns-clause-ok
returns-clause-ok c =
    let parts = c.args.parts.now in
    let v = c.args.vertex in
    let t = c.args.time.now in
    let outs = c.outlets-outlets.result.now in
    let less = fewer parts.seen v t c.args.recs.now in
    let many : c.len.result ≡ length (fresh parts.seen v t c.args.recs.now) = c.len.ensures ∙ (c.in-Ok.new.ok.0 ∙ ap length c.in-Ok.ensures.answer) in
    let stamps = surplus_off c.counted.ensures.append outs t (length c.args.recs.now) c.len.result parts.table.stamps c.prepare.new.table.stamps c.take_off_on-2.new.table.stamps
    (omega (arith, less, many)) c.in_ok-prepare.ensures.stamps c.take_off_on-2.ensures.stamps in
    sent_then parts (record parts { table = c.take_off_on-2.new.table; shards = c.post.new.shards; seen = c.see.new.self }) v t t c.requires.plain outs
    (c.outlets-outlets.ensures ∙ c.requires.can.routes.outlets v) (fresh parts.seen v t c.args.recs.now) (join stamped_cmp (stamped v t (fresh parts.seen v t c.args.recs.now)) parts.seen) parts.outputs
    c.prepare.new.shards.items
    (λ i. record parts {
      table = c.take_off_on-2.new.table;
      shards = c.post.new.shards;
      seen = c.in-Ok.ensures.ok i;
    })
    (c.take_off_on-2.ensures.plan ∙ c.in_ok-prepare.ensures.plan)
    (λ p. stamps p ∙ ap (λ n. occurrences p (stamps_on outs t n ++ parts.table.stamps)) many)
    c.in_ok-prepare.ensures.shards
    (subst (λ new. IsPosted (on_each outs t new) c.prepare.new.shards.items c.post.new.shards.items) (c.as_slice.ensures.value ∙ c.in-Ok.ensures.answer) c.post.ensures.messages)

pub post-requires-clause-apart : goal.post-requires-clause-apart
post-requires-clause-apart c = subst AreApart (sym c.outlets-outlets.ensures) (c.requires.can.routes.apart c.args.vertex)
