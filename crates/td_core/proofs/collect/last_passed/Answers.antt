use Rattle.std.proofs.Common.{◌≡◌, ◌+◌, ◌-◌, ap, sym, ◌∙◌, arith}
use Rattle.td_batch.specs.Flow.{numbers_from}
use Rattle.td_reach.specs.Frontier.{has_passed}
use Rattle.td_core.specs.Came.{next_below}
use Rattle.td_core.proofs.Passing.{up_to, first_after}
use Rattle.td_core.proofs.collect.last_passed.Goals as goal

pub returns-clause-passed : goal.returns-clause-passed
returns-clause-passed c =
    let after = c.args.after in
    let last = c.loop-last.last in
    let inv = c.loop-last.invariant in
    let near : c.loop-last.after_it ≡ last + 1 = omega (arith, inv.before, c.loop-last-test.false) in
    let more : last + 1 - (after + 1) ≡ last - after = omega (arith) in
    up_to c.args.table.now.stamps (after + 1) (c.args.next - (after + 1)) last (omega (arith, inv.after)) (omega (arith, inv.before, inv.within, inv.after)) (λ l. inv.passed (omega (arith, l)))
    (λ l. ap (has_passed c.args.table.now.stamps) (sym near) ∙ inv.stops (omega (arith, l, near, inv.after)))
    ∙ ap (numbers_from (after + 1)) more

pub returns-clause-unpassed : goal.returns-clause-unpassed
returns-clause-unpassed c =
    let after = c.args.after in
    let last = c.loop-last.last in
    let inv = c.loop-last.invariant in
    let near : c.loop-last.after_it ≡ last + 1 = omega (arith, inv.before, c.loop-last-test.false) in
    let end : after + 1 + (c.args.next - (after + 1)) ≡ c.args.next = omega (arith, c.requires) in
    first_after c.args.table.now.stamps (after + 1) (c.args.next - (after + 1)) last (omega (arith, inv.after)) (omega (arith, inv.before, inv.within, inv.after)) (λ l. inv.passed (omega (arith, l)))
    (λ l. ap (has_passed c.args.table.now.stamps) (sym near) ∙ inv.stops (omega (arith, l, near, inv.after)))
    ∙ ap (next_below (last + 1)) end
