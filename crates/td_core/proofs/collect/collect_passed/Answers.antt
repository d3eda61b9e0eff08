use Rattle.std.proofs.Common.{◌≡◌, ◌+◌, ◌-◌, length, ap, sym, ◌∙◌, arith}
use Rattle.td_core.specs.Came.{later_than}
use Rattle.td_core.specs.Collected.{last_of}
use Rattle.td_core.proofs.Taken.{as_many}
use Rattle.td_core.proofs.collect.collect_passed.Goals as goal

pub returns-clause-ok : goal.returns-clause-ok
returns-clause-ok c =
    let old = c.args.parts.now in
    let last = c.last_passed-last.result in
    let many = ap length c.last_passed-last.ensures.passed ∙ as_many (old.collected + 1) (last - old.collected) in
    let after = c.last_passed-last.ensures.after in
    let is : last ≡ last_of old = let sum : last ≡ old.collected + (last - old.collected) = omega (arith, after) in sum ∙ sym (ap (λ n. old.collected + n) many) in
    λ i. record old { collected = is i; outputs = (c.in_ok-outs.ensures.ok ∙ ap (λ l. later_than l old.outputs) is) i }
