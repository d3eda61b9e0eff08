use Rattle.std.proofs.Common.{◌≡◌, ◌≤◌, sym, ◌∙◌, true≢false, arith}
use Rattle.td_machine.specs.Steps.{ends}
use Rattle.td_core.proofs.DrainParts.{taken_few}
use Rattle.td_core.proofs.drain.drain_parts.Goals as goal

pub loop-parts-smaller : goal.loop-parts-smaller
loop-parts-smaller g c =
    let more = c.in_ok-go_round.ensures.further.taken in
    let few : c.go_round.new.parts.taken ≤ ends = taken_few g.L.Law.answers c.reached_in_order.ensures.numbers c.go_round.new.parts c.go_round.new.drained c.in_ok-go_round.ensures.further.idle in
    let other : c.go_round.new.parts.taken ≡ c.loop-parts.parts.taken → ⊥ = λ still. true≢false (sym (c.is_still.ensures.1 still) ∙ c.if-is_still.false) in
    omega (arith, more, few, other)

pub returns-then-is_still-clause-none_left : goal.returns-then-is_still-clause-none_left
returns-then-is_still-clause-none_left g c = c.in_ok-go_round.ensures.none_left (c.is_still.ensures.0 c.if-is_still.true)
