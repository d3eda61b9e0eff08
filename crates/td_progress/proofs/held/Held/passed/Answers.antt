use Rattle.std.proofs.Common.{◌&&◌, sym, ap, ◌∙◌, subst}
use Rattle.td_reach.specs.declared.stamp.Stamp.{Stamp}
use Rattle.td_reach.specs.Frontier.{has_passed}
use Rattle.td_progress.specs.Held.{all_marked, AllTimed}
use Rattle.td_progress.proofs.Gaps.{Gaps}
use Rattle.td_progress.proofs.Times.{passed_next}
use Rattle.td_progress.proofs.held.Held.passed.Goals as goal

pub returns-then-not-is_after : goal.returns-then-not-is_after
returns-then-not-is_after c =
    let e = c.args.epoch in
    let k : Stamp × Gaps = (c.in-Some.field-0-0.now, c.in-Some.chain.now) in
    let timed = subst AllTimed c.in-Some.ensures.steps c.loop-chain.invariant.timed in
    let here = sym c.is_after.ensures ∙ c.if-not-is_after.true in
    sym (sym c.loop-chain.invariant.rest
    ∙ (ap (λ ks. has_passed (all_marked ks) e) c.in-Some.ensures.steps ∙ (passed_next k c.next.new.self e timed.0 ∙ ap (λ b. b && has_passed (all_marked c.next.new.self) e) here)))

pub loop-chain-preserved : goal.loop-chain-preserved
loop-chain-preserved c =
    let e = c.args.epoch in
    let k : Stamp × Gaps = (c.in-Some.field-0-0.now, c.in-Some.chain.now) in
    let timed = subst AllTimed c.in-Some.ensures.steps c.loop-chain.invariant.timed in
    let here = sym c.is_after.ensures ∙ c.if-not-is_after.false in
    record {
      rest = sym (ap (λ ks. has_passed (all_marked ks) e) c.in-Some.ensures.steps ∙ (passed_next k c.next.new.self e timed.0 ∙ ap (λ b. b && has_passed (all_marked c.next.new.self) e) here)) ∙ c.loop-chain.invariant.rest;
      timed = timed.1;
    }
