use Rattle.std.proofs.Common.{[], unwrap_or, sym, ap, ◌∙◌, subst}
use Rattle.std.specs.List.{IsDistinct}
use Rattle.std.specs.Map.{keys_of}
use Rattle.indexmap.specs.IndexMap.{set_value_at}
use Rattle.td_progress.specs.Bag.{is_stamp}
use Rattle.td_progress.specs.Gaps.{has_epoch, without_epoch}
use Rattle.td_progress.specs.Held.{IsPosition}
use Rattle.td_progress.proofs.Same.{same-is_stamp}
use Rattle.td_progress.proofs.HeldSteps.{found_at, set_at, set_without, keys_set, nowhere}
use Rattle.td_progress.proofs.held.take.Goals as goal

pub take-requires : goal.take-requires
take-requires c =
    let es = c.args.chains.now.entries in
    let k = c.args.class.now in
    let pos = subst (IsPosition k es) c.in-Some.is c.requires.position in
    let once = subst (λ eq. IsDistinct eq (keys_of es)) same-is_stamp c.in-Some-get_index_mut.ensures.unique in
    ap (λ o. has_epoch c.args.epoch (unwrap_or o [])) (c.in-Some-get_index_mut.ensures.value ∙ sym (found_at k es c.in-Some.index once pos)) ∙ c.requires.there

pub returns-in-Some-get_index_mut-clause-once : goal.returns-in-Some-get_index_mut-clause-once
returns-in-Some-get_index_mut-clause-once c =
    let es = c.args.chains.now.entries in
    let once = subst (λ eq. IsDistinct eq (keys_of es)) same-is_stamp c.in-Some-get_index_mut.ensures.unique in
    subst (λ ks. IsDistinct is_stamp ks) (sym (keys_set c.args.class.now es c.in-Some.index c.take.new.self)) once

pub returns-in-Some-get_index_mut-clause-entries : goal.returns-in-Some-get_index_mut-clause-entries
returns-in-Some-get_index_mut-clause-entries c =
    let es = c.args.chains.now.entries in
    let k = c.args.class.now in
    let chain = c.in-Some-get_index_mut.chain.now in
    let pos = subst (IsPosition k es) c.in-Some.is c.requires.position in
    let once = subst (λ eq. IsDistinct eq (keys_of es)) same-is_stamp c.in-Some-get_index_mut.ensures.unique in
    ap (set_value_at es c.in-Some.index) c.take.ensures
    ∙ (set_at k es c.in-Some.index (without_epoch c.args.epoch chain) once pos
    ∙ set_without k c.args.epoch es chain (c.in-Some-get_index_mut.ensures.value ∙ sym (found_at k es c.in-Some.index once pos)))

pub returns-in_default-get_index_mut-clause-entries : goal.returns-in_default-get_index_mut-clause-entries
returns-in_default-get_index_mut-clause-entries c =
    let es = c.args.chains.now.entries in
    let k = c.args.class.now in
    absurd (nowhere k es c.in-Some.index (subst (IsPosition k es) c.in-Some.is c.requires.position) c.in_default-get_index_mut.ensures.value)
