use Rattle.std.proofs.Common.{◌+◌, ◌<◌, length, arith}
use Rattle.td_shard.specs.Runs.{all_of}
use Rattle.td_shard.proofs.Numbers.{length-in_order}
use Rattle.td_shard.proofs.Search.{few_next, few_within, no_more}
use Rattle.td_shard.proofs.TakenUp.{nothing}
use Rattle.td_shard.proofs.take.count_below.Goals as goal

pub overflow_add-count : goal.overflow_add-count
overflow_add-count c =
    let ps = c.args.runs.now.parts in
    let place = c.loop-place.place in
    let n = c.args.number in
    let within : place < length ps = omega (arith, c.loop-place-test.true, c.len-place-end.ensures) in
    let next = few_next n ps place nothing within in
    let is = c.below_in-count.ensures.count nothing in
    let all = few_within n ps (place + 1) in
    let some = no_more n (all_of ps) in
    omega (arith, next, is, all, some, c.loop-place.invariant, length-in_order (all_of ps), c.requires.counted)

pub loop-place-preserved : goal.loop-place-preserved
loop-place-preserved c =
    let ps = c.args.runs.now.parts in
    let place = c.loop-place.place in
    let within : place < length ps = omega (arith, c.loop-place-test.true, c.len-place-end.ensures) in
    let next = few_next c.args.number ps place nothing within in
    let is = c.below_in-count.ensures.count nothing in
    omega (arith, next, is, c.loop-place.invariant)
