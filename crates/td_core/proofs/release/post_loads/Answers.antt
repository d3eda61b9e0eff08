use Rattle.std.proofs.Common.{sym, subst}
use Rattle.td_shard.specs.Messages.{AreApart}
use Rattle.td_core.proofs.Loads.{nothing_posted, room_for, posted_next, room_next}
use Rattle.td_core.proofs.release.post_loads.Goals as goal

pub loop-load-init : goal.loop-load-init
loop-load-init c = record { posted = nothing_posted c.args.shards.now.items; room = c.requires.room }

pub post-requires-clause-apart : goal.post-requires-clause-apart
post-requires-clause-apart c = subst AreApart (sym c.outlets.ensures) (c.requires.apart c.load-item.result.input)

pub post-requires-clause-room : goal.post-requires-clause-room
post-requires-clause-room c = room_for c.args.routes.now c.args.epoch c.args.loads.now c.loop-load.load-index c.load-item.result c.load-item.is c.loop-load-test.true
    c.outlets.result.now c.new-time.result c.as_slice.result.now c.outlets.ensures c.new-time.ensures c.as_slice.ensures.value c.loop-load.shards.items c.loop-load.invariant.room

pub loop-load-preserved : goal.loop-load-preserved
loop-load-preserved c =
    let routes = c.args.routes.now in
    let now = c.loop-load.shards.items in
    let inv = c.loop-load.invariant in
    record {
      posted = posted_next routes c.args.epoch c.args.loads.now c.loop-load.load-index c.load-item.result c.load-item.is c.loop-load-test.true
          c.outlets.result.now c.new-time.result c.as_slice.result.now c.outlets.ensures c.new-time.ensures c.as_slice.ensures.value now inv.room c.args.shards.now.items c.post.new.shards.items inv.posted c.post.ensures.messages;
      room = room_next routes c.args.epoch c.args.loads.now c.loop-load.load-index c.load-item.result c.load-item.is c.loop-load-test.true
          c.outlets.result.now c.new-time.result c.as_slice.result.now c.outlets.ensures c.new-time.ensures c.as_slice.ensures.value now inv.room c.post.new.shards.items c.post.ensures.messages c.post.ensures.room;
    }
