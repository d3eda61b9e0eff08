use Rattle.std.proofs.Common.{◌≡◌, ◌*◌, map, length, ap, sym, ◌∙◌, arith}
use Rattle.std.proofs.lemmas.List.{drop_all}
use Rattle.td_core.specs.Posted.{count_of, runs_of}
use Rattle.td_core.specs.Released.{load_of, messages_in, runs_in}
use Rattle.td_core.specs.Routes.{outlets_in}
use Rattle.td_core.proofs.PostSteps.{as_many_mails, roomier_same}
use Rattle.td_core.proofs.PostRuns.{room_once_counted}
use Rattle.td_core.proofs.Loads.{left_loads}
use Rattle.td_core.proofs.release.make_room_for_loads.Goals as goal

pub returns-in_err-count-clause-same : goal.returns-in_err-count-clause-same
returns-in_err-count-clause-same c = roomier_same c.args.shards.now.items

pub loop-load-init : goal.loop-load-init
loop-load-init c = record {
  messages = λ s below. let none = c.new-counts.ensures.messages s in omega (arith, none);
  runs = λ s below. let none = c.new-counts.ensures.runs s in omega (arith, none);
}

pub loop-load-preserved : goal.loop-load-preserved
loop-load-preserved c =
    let workers = c.len-workers.result in
    let routes = c.args.routes.now in
    let load = c.load-item.result in
    let edges = c.outlets-edges.ensures in
    let inv = c.loop-load.invariant in
    let left = left_loads c.args.loads.now c.loop-load.load-index load c.load-item.is c.loop-load-test.true in
    record {
      messages = λ s below.
          let was = inv.messages s below in
          let now = c.in_ok-count.ensures.messages s below in
          let next = ap (λ l. messages_in routes workers l s) left in
          let same : count_of workers c.as_slice.result.now s * length c.outlets-edges.result.now ≡ count_of workers load.recs.items s * length (outlets_in routes load.input) =
          λ j. count_of workers (c.as_slice.ensures.value j) s * length (edges j) in
          omega (arith, was, now, next, same);
      runs = λ s below.
          let was = inv.runs s below in
          let now = c.in_ok-count.ensures.runs s below in
          let next = ap (λ l. runs_in routes workers l s) left in
          let same : runs_of workers c.as_slice.result.now (length c.outlets-edges.result.now) s ≡ runs_of workers load.recs.items (length (outlets_in routes load.input)) s =
          λ j. runs_of workers (c.as_slice.ensures.value j) (length (edges j)) s in
          omega (arith, was, now, next, same);
    }

pub returns-clause-room : goal.returns-clause-room
returns-clause-room c =
    let old = c.args.shards.now.items in
    let now = c.make_room_for.new.shards.items in
    let routes = c.args.routes.now in
    let loads = c.args.loads.now in
    let inv = c.loop-load.invariant in
    let workers : c.len-workers.result ≡ length now = c.len-workers.ensures ∙ (c.args.shards.now.ok.0 ∙ sym (as_many_mails old now c.make_room_for.ensures.same.mails)) in
    let none = ap (map load_of) (drop_all c.loop-load.load-index loads c.loop-load-test.false) in
    room_once_counted c.make_room_for.result c.loop-load.counts.runs c.loop-load.counts.messages (runs_in routes (length now) (map load_of loads)) (messages_in routes (length now) (map load_of loads)) now
    (λ s below. let is = inv.runs s (omega (arith, below, workers)) in
    let left = ap (λ l. runs_in routes c.len-workers.result l s) none in
    let same = ap (λ w. runs_in routes w (map load_of loads) s) workers in
    omega (arith, is, left, same))
    (λ s below. let is = inv.messages s (omega (arith, below, workers)) in
    let left = ap (λ l. messages_in routes c.len-workers.result l s) none in
    let same = ap (λ w. messages_in routes w (map load_of loads) s) workers in
    omega (arith, is, left, same))
    c.make_room_for.ensures.room
