use Rattle.std.proofs.Common.{◌≡◌, ◌+◌, suc, length, map, drop, get_or, ap, sym, ◌∙◌, arith}
use Rattle.td_task.specs.Arriving.{last_key, with_arrival_by, with_arrivals}
use Rattle.td_task.specs.KeyLists.{with_items, without_state}
use Rattle.td_task.proofs.Grouping.{arrivals_are_runs, next_of, no_arrival, none_left, next_arrival, next_key, key_to_come}
use Rattle.td_task.proofs.KeysWithItems.{length-with_items}
use Rattle.td_task.proofs.keyed.KeyedItems.of_runs.Goals as goal

pub put-requires-clause-key : goal.put-requires-clause-key
put-requires-clause-key c new =
    let keys = with_items c.loop-arrival.keys.items c.loop-arrival.items.lists in
    let i = c.loop-arrival.invariant in
    let n = c.loop-arrival.arrival-index in
    let a = get_or c.args.arrivals.now n no_arrival in
    let rest = drop (n + 1) c.args.arrivals.now in
    let steps = next_of c.args.arrivals.now n no_arrival c.loop-arrival-test.true in
    let more = key_to_come keys c.loop-arrival.last (drop n c.args.arrivals.now) rest c.args.arrivals.now a i.keys steps i.last (sym c.is_key.ensures ∙ new) in
    let same = length-with_items c.loop-arrival.keys.items c.loop-arrival.items.lists i.same in
    omega (arith, more, same, i.capacity, c.loop-arrival.keys.ok.0)

pub put-requires-clause-list : goal.put-requires-clause-list
put-requires-clause-list c new =
    let keys = with_items c.loop-arrival.keys.items c.loop-arrival.items.lists in
    let i = c.loop-arrival.invariant in
    let n = c.loop-arrival.arrival-index in
    let a = get_or c.args.arrivals.now n no_arrival in
    let rest = drop (n + 1) c.args.arrivals.now in
    let steps = next_of c.args.arrivals.now n no_arrival c.loop-arrival-test.true in
    let more = key_to_come keys c.loop-arrival.last (drop n c.args.arrivals.now) rest c.args.arrivals.now a i.keys steps i.last (sym c.is_key.ensures ∙ new) in
    let same = length-with_items c.loop-arrival.keys.items c.loop-arrival.items.lists i.same in
    omega (arith, more, same, i.same, i.lists)

pub loop-arrival-preserved : goal.loop-arrival-preserved
loop-arrival-preserved c =
    let keys = with_items c.loop-arrival.keys.items c.loop-arrival.items.lists in
    let i = c.loop-arrival.invariant in
    let n = c.loop-arrival.arrival-index in
    let a = get_or c.args.arrivals.now n no_arrival in
    let rest = drop (n + 1) c.args.arrivals.now in
    let steps = next_of c.args.arrivals.now n no_arrival c.loop-arrival-test.true in
    let made = c.put.ensures.keys ∙ ap (λ b. with_arrival_by b keys a) c.is_key.ensures in
    let left : length (drop n c.args.arrivals.now) ≡ suc (length rest) = ap length steps in
    record {
      keys = ap (λ ks. with_arrivals ks rest) made ∙ next_arrival keys c.loop-arrival.last (drop n c.args.arrivals.now) rest c.args.arrivals.now a i.keys steps i.last;
      last = sym (ap last_key made ∙ next_key keys c.loop-arrival.last a i.last);
      same = c.put.ensures.same;
      capacity = omega (arith, i.capacity, c.put.ensures.capacity);
      lists = omega (arith, i.lists, c.put.ensures.lists);
      members = omega (arith, i.members, left, c.put.ensures.members);
    }

pub returns-clause-keys : goal.returns-clause-keys
returns-clause-keys c =
    let keys = with_items c.loop-arrival.keys.items c.loop-arrival.items.lists in
    let past = none_left c.args.arrivals.now c.loop-arrival.arrival-index (λ lt. omega (arith, lt, c.loop-arrival-test.false)) in
    sym (ap (with_arrivals keys) past) ∙ c.loop-arrival.invariant.keys ∙ arrivals_are_runs c.args.arrivals.now
    ∙ ap (map without_state) (sym (c.groups_are_runs.ensures c.args.arrivals.now c.requires))
