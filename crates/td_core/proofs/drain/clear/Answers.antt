use Rattle.std.proofs.Common.{◌≡◌, ◌+◌, ◌<◌, arith}
use Rattle.td_machine.specs.Steps.{ends}
use Rattle.td_core.specs.Parts.{state_of}
use Rattle.td_core.proofs.DrainParts.{one_more, turn_of, turn_on, further_on, counted_few}
use Rattle.td_core.proofs.drain.clear.Goals as goal

pub overflow_add-drained : goal.overflow_add-drained
overflow_add-drained g c =
    let turn = turn_of g.L.Law.answers (state_of c.loop-delivered.parts) (state_of c.advance.new.parts) c.args.shard _ c.in-Some.delivered c.in-Some.is c.in_ok-delivered.ensures.turn in
    let more = (one_more g.L.Law.answers _ _ c.args.shard c.in-Some.delivered turn).records in
    let so_far = (counted_few g.L.Law.answers c.reached_in_order.ensures.numbers c.loop-delivered.parts c.loop-delivered.drained c.loop-delivered.invariant.idle).0 in
    omega (arith, more, so_far)

pub overflow_add-drained-in-Some : goal.overflow_add-drained-in-Some
overflow_add-drained-in-Some g c =
    let turn = turn_of g.L.Law.answers (state_of c.loop-delivered.parts) (state_of c.advance.new.parts) c.args.shard _ c.in-Some.delivered c.in-Some.is c.in_ok-delivered.ensures.turn in
    let more = (one_more g.L.Law.answers _ _ c.args.shard c.in-Some.delivered turn).notifications in
    let so_far = (counted_few g.L.Law.answers c.reached_in_order.ensures.numbers c.loop-delivered.parts c.loop-delivered.drained c.loop-delivered.invariant.idle).1 in
    omega (arith, more, so_far)

pub loop-delivered-smaller : goal.loop-delivered-smaller
loop-delivered-smaller g c =
    let turn = turn_of g.L.Law.answers (state_of c.loop-delivered.parts) (state_of c.advance.new.parts) c.args.shard _ c.in-Some.delivered c.in-Some.is c.in_ok-delivered.ensures.turn in
    let is = one_more g.L.Law.answers (state_of c.loop-delivered.parts) (state_of c.advance.new.parts) c.args.shard c.in-Some.delivered turn in
    let more : c.advance.new.parts.taken ≡ c.loop-delivered.parts.taken + 1 = is.taken in
    let less : c.loop-delivered.parts.taken < ends = is.less in
    omega (arith, more, less)

pub loop-delivered-preserved : goal.loop-delivered-preserved
loop-delivered-preserved g c =
    let parts = c.loop-delivered.parts in
    let turn = turn_of g.L.Law.answers (state_of parts) (state_of c.advance.new.parts) c.args.shard _ c.in-Some.delivered c.in-Some.is c.in_ok-delivered.ensures.turn in
    further_on g.L.Law.answers c.args.parts.now parts c.advance.new.parts c.args.drained.now c.loop-delivered.drained _ c.loop-delivered.invariant
    (turn_on g.L.Law.answers c.plays_join.ensures.joined c.plays_join.ensures.given parts c.advance.new.parts c.args.shard c.loop-delivered.drained c.in-Some.delivered c.loop-delivered.invariant.idle
    c.in_ok-delivered.ensures.hall turn)
