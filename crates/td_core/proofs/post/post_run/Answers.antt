use Rattle.std.proofs.Common.{◌≡◌, ◌++◌, ◌*◌, length, sym, ap, ◌∙◌, subst, arith}
use Rattle.std.specs.List.{AllByRecursion}
use Rattle.td_machine.specs.State.{shard_of_key}
use Rattle.td_core.specs.Posted.{only_in}
use Rattle.td_shard.specs.Messages.{on_each}
use Rattle.td_core.proofs.PostRuns.{room_at, room_left, run_posted, only_here}
use Rattle.td_core.proofs.post.post_run.Goals as goal

pub post_each-requires-clause-runs : goal.post_each-requires-clause-runs
post_each-requires-clause-runs c =
    let x = c.index_mut-shard.result.now in
    let place = c.from.ensures in
    let there = c.requires.there in
    let room = room_at (only_in c.args.shard (length c.args.outlets.now)) (only_in c.args.shard (length c.args.recs.now * length c.args.outlets.now)) 0 c.from.result c.args.shard c.args.shards.now.items x (omega (arith, place)) (omega (arith, place, there)) c.requires.room in
    let runs = room.1 in
    let one = only_here c.args.shard (length c.args.outlets.now) in
    let is = ap (λ s. s.mailbox.runs) c.index_mut-shard.ensures.value in
    omega (arith, runs, one, is)

pub post_each-requires-clause-room : goal.post_each-requires-clause-room
post_each-requires-clause-room c =
    let x = c.index_mut-shard.result.now in
    let n = length c.args.recs.now * length c.args.outlets.now in
    let place = c.from.ensures in
    let there = c.requires.there in
    let room = room_at (only_in c.args.shard (length c.args.outlets.now)) (only_in c.args.shard n) 0 c.from.result c.args.shard c.args.shards.now.items x (omega (arith, place)) (omega (arith, place, there)) c.requires.room in
    let enough = room.0 in
    let all = only_here c.args.shard n in
    let is = ap (λ s. s.mailbox.room) c.index_mut-shard.ensures.value in
    omega (arith, enough, all, is)

pub returns-clause-posted : goal.returns-clause-posted
returns-clause-posted c =
    let x = c.index_mut-shard.result.now in
    let place = c.from.ensures in
    let there = c.requires.there in
    let recs = c.args.recs.now in
    let os = c.args.outlets.now in
    let t = c.args.time.now in
    run_posted c.from.result t os recs c.args.shards.now.items (record { mailbox = c.post_each.new.self; waiting = x.waiting }) x (omega (arith, place, there))
    (subst (λ n. AllByRecursion (λ r. shard_of_key (length c.args.shards.now.items) r.key ≡ n) recs) (sym place) c.requires.own)
    (c.post_each.ensures.messages ∙ ap (λ s. s.mailbox.messages ++ on_each os t recs) c.index_mut-shard.ensures.value) (ap (λ s. s.waiting) c.index_mut-shard.ensures.value)

pub returns-clause-room : goal.returns-clause-room
returns-clause-room c runs_more many h =
    let x = c.index_mut-shard.result.now in
    let n = length c.args.recs.now * length c.args.outlets.now in
    let place = c.from.ensures in
    let there = c.requires.there in
    let room = c.post_each.ensures.room in
    let runs = c.post_each.ensures.runs in
    let is_room = ap (λ s. s.mailbox.room) c.index_mut-shard.ensures.value in
    let is_runs = ap (λ s. s.mailbox.runs) c.index_mut-shard.ensures.value in
    room_left runs_more many (length c.args.outlets.now) n 0 c.from.result c.args.shard c.args.shards.now.items (record { mailbox = c.post_each.new.self; waiting = x.waiting }) x (omega (arith, place)) (omega (arith, place, there))
    (omega (arith, room, is_room)) (omega (arith, runs, is_runs)) h
