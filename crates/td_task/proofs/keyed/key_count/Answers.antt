use Rattle.std.proofs.Common.{◌≡◌, ◌+◌, ◌∷◌, length, drop, get_or, cond, ap, sym, ◌∙◌, arith}
use Rattle.std.specs.Prelude.{None, Some}
use Rattle.td_task.specs.Arriving.{keys_after}
use Rattle.td_task.proofs.Grouping.{keys_after-few, next_of, no_arrival}
use Rattle.td_task.proofs.keyed.key_count.Goals as goal

pub overflow_add-count : goal.overflow_add-count
overflow_add-count c =
    let n = c.loop-arrival.arrival-index in
    let a = get_or c.args.arrivals.now n no_arrival in
    let rest = drop (n + 1) c.args.arrivals.now in
    let few = keys_after-few None c.args.arrivals.now in
    let new : keys_after c.loop-arrival.last (a ∷ rest) ≡ 1 + keys_after (Some a.key) rest = ap (λ b. cond b 0 1 + keys_after (Some a.key) rest) (sym c.is_key.ensures ∙ c.if-not-is_key.true) in
    let left = ap (keys_after c.loop-arrival.last) (next_of c.args.arrivals.now n no_arrival c.loop-arrival-test.true) in
    omega (arith, few, new, left, c.loop-arrival.invariant, c.loop-arrival.auto.count-fits)
