use Rattle.std.proofs.Common.{ap, sym, ◌∙◌, ◌++◌, ◌∷◌, [], ◌==◌}
use Rattle.std.specs.Prelude.{Some}
use Rattle.std.specs.Option.{option_eq}
use Rattle.td_stamp.specs.Groups.{runs}
use Rattle.td_stamp.specs.Steps.{last_key, with_last_item}
use Rattle.td_stamp.proofs.Runs.{runs-same_key, runs-other_key, groups-runs, key_is, key_is_not}
use Rattle.td_stamp.proofs.Listed.{all_listed}
use Rattle.td_stamp.proofs.groups.Bag+Arrival.groups.Goals as goal

pub loop-arrival-preserved-in-Continue-1 : goal.loop-arrival-preserved-in-Continue-1
loop-arrival-preserved-in-Continue-1 c =
    let last = key_is (last_key c.loop-arrival.groups.items) c.in-Some.arrival.key (ap (λ o. option_eq (λ i j. i == j) o (Some c.in-Some.arrival.key)) (sym c.last_key.ensures) ∙ sym c.eq.ensures ∙ c.if-eq.true) in
    c.in_ok-extend_last.ensures ∙ ap (λ gs. with_last_item gs c.in-Some.arrival.item) c.loop-arrival.invariant
    ∙ sym (runs-same_key c.loop-arrival.yielded c.in-Some.arrival (ap last_key (sym c.loop-arrival.invariant) ∙ last))

pub loop-arrival-preserved : goal.loop-arrival-preserved
loop-arrival-preserved c =
    let other = key_is_not (last_key c.loop-arrival.groups.items) c.in-Some.arrival.key (ap (λ o. option_eq (λ i j. i == j) o (Some c.in-Some.arrival.key)) (sym c.last_key.ensures) ∙ sym c.eq.ensures ∙ c.if-eq.false) in
    c.in_ok-begin.ensures ∙ ap (λ gs. gs ++ (c.in-Some.arrival.key, c.in-Some.arrival.item ∷ []) ∷ []) c.loop-arrival.invariant
    ∙ sym (runs-other_key c.loop-arrival.yielded c.in-Some.arrival (λ last. other (ap last_key c.loop-arrival.invariant ∙ last)))

pub returns : goal.returns
returns c =
    c.loop-arrival.invariant
    ∙ ap runs
    (all_listed c.args.self.now c.loop-arrival.yielded c.into_iter-arrival-iterator.result c.loop-arrival.arrival-iterator (c.into_iter-arrival-iterator.ensures.into_iter_gives ∙ c.list-arrival-items.ensures.all)
    c.loop-arrival.yielded_by c.in-None.ensures.steps.0)
    ∙ sym (groups-runs c.args.self.now c.list-arrival-items.ensures.sorted)
