use Rattle.std.proofs.Common.{◌∙◌, ◌++◌, ◌*◌, ap, arith, sym}
use Rattle.std.specs.Prelude.{option_to_list}
use Rattle.std.proofs.lemmas.List.{length-append}
use Rattle.td_catalogue.specs.Values.{pair_at}
use Rattle.td_catalogue.proofs.Pushed.{so_far_more, so_far_eight, at_most_one}
use Rattle.td_catalogue.proofs.group_step.pairs.Goals as goal

pub loop-k-preserved : goal.loop-k-preserved
loop-k-preserved c =
    let before = c.loop-k.invariant in
    let one = at_most_one c.pair_at.result in
    let long = length-append c.loop-k.few.items (option_to_list c.pair_at.result) in (
      omega (arith, before.0),
      rw c.with_one-few.ensures (rw long (omega (arith, before, one))),
      c.with_one-few.ensures
          ∙ ap (λ one. c.loop-k.few.items ++ option_to_list one) c.pair_at.ensures
          ∙ ap (λ few. few ++ option_to_list (pair_at c.args.items.now c.loop-k.k)) before.2
          ∙ sym (so_far_more (pair_at c.args.items.now) (8 * c.from-first.result) c.loop-k.k before.0),
    )

pub returns : goal.returns
returns c =
    let here = c.loop-k.auto in
    c.loop-k.invariant.2
    ∙ so_far_eight (pair_at c.args.items.now) c.args.i (8 * c.from-first.result) c.loop-k.k (ap (λ i. 8 * i) c.from-first.ensures) (omega (arith, c.loop-k-test.false, here.k-end))
