use Rattle.std.proofs.Common.{◌≡◌, ◌+◌, ◌<◌, max, length, get_or, set, ap, ◌∙◌, subst, arith}
use Rattle.td_shard.specs.declared.shard.Shard.{Shard}
use Rattle.td_core.specs.Posted.{HasRoom}
use Rattle.td_core.proofs.PostSteps.{roomier_same, roomier_then, as_many_mails}
use Rattle.td_core.proofs.PostRuns.{one_roomier, one_more_room, room_by_place}
use Rattle.td_core.proofs.post.make_room_for.Goals as goal

pub loop-shard-init : goal.loop-shard-init
loop-shard-init c = record { same = roomier_same c.args.shards.now.items; room = λ k d l. absurd (omega (arith, l)) }

pub loop-shard-preserved : goal.loop-shard-preserved
loop-shard-preserved c =
    let i = c.loop-shard.shard in
    let inv = c.loop-shard.invariant in
    let old = c.args.shards.now.items in
    let now = c.loop-shard.shards.items in
    let have = c.args.shards.now.ok in
    let many = get_or c.args.counts.now.messages i 0 in
    let most = get_or c.args.counts.now.runs i 0 in
    let x = c.index_mut.result.now in
    let s : Shard = record { mailbox = c.reserve.new.self; waiting = x.waiting } in
    let made = c.in_ok-reserve.ensures.ok in
    let same = as_many_mails old now inv.same.mails in
    let test = c.loop-shard-test.true in
    let within : i < length now = omega (arith, test, same, have, c.len-shard-end.ensures) in
    let room : s.mailbox.room ≡ max x.mailbox.room many = ap (λ m. m.room) made in
    let runs : s.mailbox.runs ≡ max x.mailbox.runs most = ap (λ m. m.runs) made in
    let value = c.index_mut.ensures.value in
    let was_room = ap (λ y. y.mailbox.room) value in
    let was_runs = ap (λ y. y.mailbox.runs) value in
    record {
      same = roomier_then old now (set now i s) inv.same
          (one_roomier i now s x within (ap (λ m. m.messages) made ∙ ap (λ y. y.mailbox.messages) value) (ap (λ y. y.waiting) value) (omega (arith, room, was_room)) (omega (arith, runs, was_runs)));
      room = one_more_room (λ k. get_or c.args.counts.now.runs k 0) (λ k. get_or c.args.counts.now.messages k 0) i now s within inv.room (omega (arith, room), omega (arith, runs));
    }

pub returns-clause-room : goal.returns-clause-room
returns-clause-room c =
    let inv = c.loop-shard.invariant in
    let old = c.args.shards.now.items in
    let now = c.loop-shard.shards.items in
    let have = c.args.shards.now.ok in
    let same = as_many_mails old now inv.same.mails in
    let test = c.loop-shard-test.false in
    room_by_place (λ k. get_or c.args.counts.now.runs k 0) (λ k. get_or c.args.counts.now.messages k 0) 0 now
    (λ k d l. let on : k ≡ 0 + k = omega arith in subst (λ n. HasRoom (get_or c.args.counts.now.runs n 0) (get_or c.args.counts.now.messages n 0) (get_or now k d)) on (inv.room k d (omega (arith, l, same, test, have, c.len-shard-end.ensures))))
