use Rattle.std.proofs.Common.{◌≡◌, ◌*◌, length, sym, ap, ◌∙◌, arith}
use Rattle.td_core.specs.Posted.{count_of, runs_of}
use Rattle.td_core.proofs.PostSteps.{as_many_mails, roomier_same}
use Rattle.td_core.proofs.PostRuns.{room_once_counted}
use Rattle.td_core.proofs.post.make_room.Goals as goal

pub returns-in_err-count-clause-same : goal.returns-in_err-count-clause-same
returns-in_err-count-clause-same c = roomier_same c.args.shards.now.items

pub returns-clause-room : goal.returns-clause-room
returns-clause-room c =
    let old = c.args.shards.now.items in
    let now = c.make_room_for.new.shards.items in
    let recs = c.args.recs.now in
    let edges = c.args.edges in
    let workers : c.len.result ≡ length now = c.len.ensures ∙ (c.args.shards.now.ok.0 ∙ sym (as_many_mails old now c.make_room_for.ensures.same.mails)) in
    room_once_counted c.make_room_for.result c.count.new.counts.runs c.count.new.counts.messages (runs_of (length now) recs edges) (λ s. count_of (length now) recs s * edges) now
    (λ s below. let is = c.in_ok-count.ensures.runs s (omega (arith, below, workers)) in let none = c.new-counts.ensures.runs s in
    omega (arith, is, none, ap (λ w. runs_of w recs edges s) workers))
    (λ s below. let is = c.in_ok-count.ensures.messages s (omega (arith, below, workers)) in let none = c.new-counts.ensures.messages s in
    omega (arith, is, none, ap (λ w. count_of w recs s * edges) workers))
    c.make_room_for.ensures.room
