use Rattle.std.proofs.Common.{◌≡◌, ◌+◌, ◌-◌, ◌<◌, length, get_or, refl, sym, ap, ◌∙◌, arith}
use Rattle.td_shard.specs.Order.{few}
use Rattle.td_shard.specs.Runs.{all_of}
use Rattle.td_shard.proofs.Numbers.{length-in_order, few_all}
use Rattle.td_shard.proofs.Together.{all_below}
use Rattle.td_shard.proofs.Search.{few_none, few_before, all_more, all_within}
use Rattle.td_shard.proofs.TakenUp.{nothing}
use Rattle.td_shard.proofs.take.bounds_of.Goals as goal
use Rattle.td_shard.proofs.take.bounds_of.Goals.{then-place-gt0+then-base-last+else-before-pick, else-place-gt0}

pub loop-place-init : goal.loop-place-init
loop-place-init c = let none = few_none (all_of c.args.runs.now.parts) in record { low = omega (arith, none); before = refl; last = λ some. absurd (omega (arith, some)) }

pub returns-then-before-pick-clause-high : goal.returns-then-before-pick-clause-high
returns-then-before-pick-clause-high c =
    let ps = c.args.runs.now.parts in
    let place = c.loop-place.place in
    let was = c.loop-place.invariant in
    let within : place < length ps = omega (arith, c.loop-place-test.true, c.len-place-end.ensures) in
    let base = c.base-base.ensures nothing in
    let fewer = few_before ps place nothing within c.requires.grouped (λ some same. c.if-base-last.true (base ∙ (sym same ∙ sym (was.last some nothing)))) in
    let same = ap (λ n. few n (all_of ps)) base in
    omega (arith, fewer, same, was.before, c.if-before-pick.true)

pub overflow_add-before : goal.overflow_add-before
overflow_add-before c =
    let ps = c.args.runs.now.parts in
    let place = c.loop-place.place in
    let within : place < length ps = omega (arith, c.loop-place-test.true, c.len-place-end.ensures) in
    let more = all_more ps place nothing within in
    let all = all_within ps (place + 1) in
    let some = c.waiting-before.ensures.count nothing in
    omega (arith, more, all, some, c.loop-place.invariant.before, length-in_order (all_of ps), c.requires.counted)

pub loop-place-preserved : goal.loop-place-preserved
loop-place-preserved c =
    let ps = c.args.runs.now.parts in
    let place = c.loop-place.place in
    let was = c.loop-place.invariant in
    let within : place < length ps = omega (arith, c.loop-place-test.true, c.len-place-end.ensures) in
    let base = c.base-base.ensures nothing in
    let more = all_more ps place nothing within in
    let some = c.waiting-before.ensures.count nothing in
    let here : place + 1 - 1 ≡ place = omega arith in
    record {
      low = elim c.if-place-gt0.branch [
        | then-place-gt0+then-base-last+else-before-pick w ↦
            let fewer = few_before ps place nothing within c.requires.grouped (λ some same. w.if-base-last.true (base ∙ (sym same ∙ sym (was.last some nothing)))) in
            let same = ap (λ n. few n (all_of ps)) (w.low-is ∙ base) in
            omega (arith, fewer, same, was.before, w.if-before-pick.false)
        | else-place-gt0 w ↦ let same = ap (λ n. few n (all_of ps)) w.low-is in omega (arith, same, was.low)
      ];
      before = omega (arith, was.before, more, some);
      last = λ s d. c.base-base.ensures d ∙ ap (λ i. (get_or ps i d).base) (sym here);
    }

pub returns-clause-high : goal.returns-clause-high
returns-clause-high c =
    let ps = c.args.runs.now.parts in
    let all = few_all c.args.next (all_of ps) (all_below c.args.next ps c.requires.older) in
    omega (arith, all, length-in_order (all_of ps), c.requires.pick)
