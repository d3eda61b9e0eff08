use Rattle.std.proofs.Common.{[], unwrap_or, sym, ap, ◌∙◌, subst}
use Rattle.std.specs.List.{IsDistinct}
use Rattle.std.specs.Map.{keys_of}
use Rattle.indexmap.specs.IndexMap.{set_value_at}
use Rattle.td_progress.specs.Bag.{is_stamp}
use Rattle.td_progress.specs.Gaps.{Mark, has_epoch, with_epoch}
use Rattle.td_progress.proofs.Same.{same-is_stamp}
use Rattle.td_progress.proofs.HeldSteps.{on_ok, on_ok_any, on_err, found_at, set_at, set_with, set_same, keys_set, nowhere}
use Rattle.td_progress.proofs.held.put_at.Goals as goal

pub put-requires : goal.put-requires
put-requires c =
    let es = c.args.chains.now.entries in
    let k = c.args.class.now in
    let once = subst (λ eq. IsDistinct eq (keys_of es)) same-is_stamp c.in-Some.ensures.unique in
    ap (λ o. has_epoch c.args.epoch (unwrap_or o [])) (c.in-Some.ensures.value ∙ sym (found_at k es c.args.index once c.requires.position)) ∙ c.requires.new

pub returns-in-Some-clause-ok : goal.returns-in-Some-clause-ok
returns-in-Some-clause-ok c =
    let es = c.args.chains.now.entries in
    let k = c.args.class.now in
    let m : Mark = record { gap = c.args.gap; times = c.args.times } in
    let once = subst (λ eq. IsDistinct eq (keys_of es)) same-is_stamp c.in-Some.ensures.unique in
    on_ok c.put.result
    (λ is.
    ap (set_value_at es c.args.index) (is ∙ ap (λ t. with_epoch c.args.epoch (record { gap = c.args.gap; times = t }) c.in-Some.chain.now) c.from.ensures)
    ∙ (set_at k es c.args.index (with_epoch c.args.epoch m c.in-Some.chain.now) once c.requires.position
    ∙ set_with k c.args.epoch m es c.in-Some.chain.now (c.in-Some.ensures.value ∙ sym (found_at k es c.args.index once c.requires.position))))
    c.put.ensures.ok

pub returns-in-Some-clause-once : goal.returns-in-Some-clause-once
returns-in-Some-clause-once c =
    let es = c.args.chains.now.entries in
    let once = subst (λ eq. IsDistinct eq (keys_of es)) same-is_stamp c.in-Some.ensures.unique in
    on_ok_any c.put.result (subst (λ ks. IsDistinct is_stamp ks) (sym (keys_set c.args.class.now es c.args.index c.put.new.self)) once)

pub returns-in-Some-clause-err : goal.returns-in-Some-clause-err
returns-in-Some-clause-err c =
    let es = c.args.chains.now.entries in
    on_err c.put.result (λ is. ap (set_value_at es c.args.index) is ∙ set_same c.args.class.now es c.args.index c.in-Some.chain.now c.in-Some.ensures.value) c.put.ensures.err

pub returns-in-None-clause-ok : goal.returns-in-None-clause-ok
returns-in-None-clause-ok c = absurd (nowhere c.args.class.now c.args.chains.now.entries c.args.index c.requires.position c.in-None.ensures.value)

pub returns-in-None-clause-once : goal.returns-in-None-clause-once
returns-in-None-clause-once c = absurd (nowhere c.args.class.now c.args.chains.now.entries c.args.index c.requires.position c.in-None.ensures.value)
