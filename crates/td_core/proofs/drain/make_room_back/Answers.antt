use Rattle.std.proofs.Common.{◌<◌, length, ap, sym, refl, get_or-set_same, arith}
use Rattle.td_core.proofs.Advance.{roomier_at}
use Rattle.td_core.proofs.drain.make_room_back.Goals as goal

pub returns-in_err-reserve-clause-same : goal.returns-in_err-reserve-clause-same
returns-in_err-reserve-clause-same c =
    let e = c.in_err-reserve.ensures.err in
    let room = ap (λ m. m.room) e in
    let runs = ap (λ m. m.runs) e in
    roomier_at c.index_mut.result.now (record { mailbox = c.reserve.new.self; waiting = c.index_mut.result.now.waiting }) (ap (λ m. m.messages) e) refl (omega (arith, room)) (omega (arith, runs))
    c.args.shards.now.items c.args.shard (sym c.index_mut.ensures.value)

pub returns-clause-same : goal.returns-clause-same
returns-clause-same c =
    let e = c.in_ok-reserve.ensures.ok in
    let room = ap (λ m. m.room) e in
    let runs = ap (λ m. m.runs) e in
    roomier_at c.index_mut.result.now (record { mailbox = c.reserve.new.self; waiting = c.index_mut.result.now.waiting }) (ap (λ m. m.messages) e) refl (omega (arith, room)) (omega (arith, runs))
    c.args.shards.now.items c.args.shard (sym c.index_mut.ensures.value)

pub returns-clause-room : goal.returns-clause-room
returns-clause-room c =
    let e = c.in_ok-reserve.ensures.ok in
    let room = ap (λ m. m.room) e in
    let runs = ap (λ m. m.runs) e in
    let within : c.args.shard < length c.args.shards.now.items = c.requires in
    λ d. rw get_or-set_same (omega (arith, runs), omega (arith, room))
