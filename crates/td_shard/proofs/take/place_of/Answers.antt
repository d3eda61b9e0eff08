use Rattle.std.proofs.Common.{◌≡◌, ◌+◌, suc, ap, arith}
use Rattle.td_shard.specs.Order.{few}
use Rattle.td_shard.specs.Runs.{all_of}
use Rattle.td_shard.proofs.Numbers.{few_next}
use Rattle.td_shard.proofs.Tasks.{all_ascend}
use Rattle.td_shard.proofs.take.place_of.Goals as goal

pub first_of-requires-clause-ascending : goal.first_of-requires-clause-ascending
first_of-requires-clause-ascending c = all_ascend c.args.runs.now.parts c.requires.numbered.ascending

pub number_at-number-requires-clause-ascending : goal.number_at-number-requires-clause-ascending
number_at-number-requires-clause-ascending c = all_ascend c.args.runs.now.parts c.requires.numbered.ascending

pub count_below-requires-clause-ascending : goal.count_below-requires-clause-ascending
count_below-requires-clause-ascending c = all_ascend c.args.runs.now.parts c.requires.numbered.ascending

pub place_at-requires-clause-index : goal.place_at-requires-clause-index
place_at-requires-clause-index c =
    let n = c.number_at-number.result in
    let all = all_of c.args.runs.now.parts in
    let one : suc n ≡ n + 1 = omega arith in
    let next = few_next n all in
    let same = ap (λ m. few m all) one in
    omega (arith, next, same, c.number_at-number.ensures.low, c.number_at-number.ensures.high, c.count_below.ensures)

pub place_at-requires-clause-ascending : goal.place_at-requires-clause-ascending
place_at-requires-clause-ascending c = all_ascend c.args.runs.now.parts c.requires.numbered.ascending
