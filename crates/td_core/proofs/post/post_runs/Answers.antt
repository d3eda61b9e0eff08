use Rattle.std.proofs.Common.{ℕ, ◌≡◌, ◌+◌, ◌-◌, ◌*◌, ◌≤◌, take, drop, length, ap, ◌∙◌, subst, arith}
use Rattle.std.specs.List.{AllByRecursion}
use Rattle.td_machine.specs.State.{shard_of_key}
use Rattle.td_core.specs.Posted.{IsPosted, count_of, only_in}
use Rattle.td_shard.specs.Messages.{on_each}
use Rattle.td_core.proofs.PostSteps.{posted_roomier, roomier_same, posted_then, as_many_waits}
use Rattle.td_core.proofs.PostRuns.{room_weaker, none_more, run_and_rest, no_more_runs, length_of_run, up_to, each_more}
use Rattle.td_core.proofs.post.post_runs.Goals as goal

pub loop-done-init : goal.loop-done-init
loop-done-init c = let shards = c.args.shards.now.items in record { within = omega arith; posted = posted_roomier shards shards (roomier_same shards); room = λ runs many h. h }

pub post_run-requires-clause-own : goal.post_run-requires-clause-own
post_run-requires-clause-own c =
    let have = c.args.shards.now.ok in
    let same = as_many_waits c.args.shards.now.items c.loop-done.shards.items c.loop-done.invariant.posted.waiting in
    let many : c.len-workers.result ≡ length c.loop-done.shards.items = omega (arith, have, same, c.len-workers.ensures) in
    subst (λ w. AllByRecursion (λ r. shard_of_key w r.key ≡ c.shard-shard.result) (take (c.run_end-end.result - c.loop-done.done) (drop c.loop-done.done c.args.recs.now))) many c.run_end-end.ensures.own

pub post_run-requires-clause-room : goal.post_run-requires-clause-room
post_run-requires-clause-room c =
    let have = c.args.shards.now.ok in
    let recs = c.args.recs.now in
    let e = length c.args.outlets.now in
    let workers = length c.args.shards.now.items in
    let done = c.loop-done.done in
    let end = c.run_end-end.result in
    let at = c.shard-shard.result in
    let after = c.run_end-end.ensures.after in
    let run = take (end - done) (drop done recs) in
    let many : c.len-workers.result ≡ workers = omega (arith, have, c.len-workers.ensures) in
    let own = subst (λ w. AllByRecursion (λ r. shard_of_key w r.key ≡ at) run) many c.run_end-end.ensures.own in
    let all : ℕ → ℕ = λ s. count_of workers recs s * e in
    let left : ℕ → ℕ = λ s. count_of workers (drop done recs) s * e + 0 in
    let fields = run_and_rest workers e recs done end at (omega (arith, after)) own in
    let some = length_of_run recs done end after c.run_end-end.ensures.within in
    room_weaker left left (only_in at e) (only_in at (length run * e))
    (λ s. let two = fields s in let one = no_more_runs at (length run) e s some in omega (arith, two, one)) (λ s. let two = fields s in omega (arith, two)) 0 c.loop-done.shards.items
    (c.loop-done.invariant.room (λ s. 0) (λ s. 0) (none_more all all c.args.shards.now.items c.requires.room))

pub loop-done-preserved : goal.loop-done-preserved
loop-done-preserved c =
    let have = c.args.shards.now.ok in
    let recs = c.args.recs.now in
    let e = length c.args.outlets.now in
    let old = c.args.shards.now.items in
    let workers = length old in
    let done = c.loop-done.done in
    let end = c.run_end-end.result in
    let at = c.shard-shard.result in
    let after = c.run_end-end.ensures.after in
    let from : done ≤ end = omega (arith, after) in
    let run = take (end - done) (drop done recs) in
    let os = c.args.outlets.now in
    let t = c.args.time.now in
    let many : c.len-workers.result ≡ workers = omega (arith, have, c.len-workers.ensures) in
    let own = subst (λ w. AllByRecursion (λ r. shard_of_key w r.key ≡ at) run) many c.run_end-end.ensures.own in
    let fields = run_and_rest workers e recs done end at from own in
    let some = length_of_run recs done end after c.run_end-end.ensures.within in
    record {
      within = c.run_end-end.ensures.within;
      posted = subst (λ cs. IsPosted cs old c.post_run.new.shards.items) (each_more os t (take done recs) run ∙ ap (on_each os t) (up_to recs done end from))
          (posted_then (on_each os t (take done recs)) (on_each os t run) old c.loop-done.shards.items c.post_run.new.shards.items c.loop-done.invariant.posted c.post_run.ensures.posted);
      room = λ runs many h. c.post_run.ensures.room (λ s. count_of workers (drop end recs) s * e + runs s) (λ s. count_of workers (drop end recs) s * e + many s)
          (room_weaker (λ s. count_of workers (drop done recs) s * e + runs s) (λ s. count_of workers (drop done recs) s * e + many s)
          (λ s. only_in at e s + (count_of workers (drop end recs) s * e + runs s)) (λ s. only_in at (length run * e) s + (count_of workers (drop end recs) s * e + many s))
          (λ s. let two = fields s in let one = no_more_runs at (length run) e s some in omega (arith, two, one)) (λ s. let two = fields s in omega (arith, two)) 0 c.loop-done.shards.items
          (c.loop-done.invariant.room runs many h));
    }

pub returns-clause-room : goal.returns-clause-room
returns-clause-room c runs many h =
    let workers = length c.args.shards.now.items in
    let e = length c.args.outlets.now in
    let left = drop c.loop-done.done c.args.recs.now in
    room_weaker (λ s. count_of workers left s * e + runs s) (λ s. count_of workers left s * e + many s) runs many (λ s. let n = count_of workers left s * e in omega arith)
    (λ s. let n = count_of workers left s * e in omega arith) 0 c.loop-done.shards.items (c.loop-done.invariant.room runs many h)
