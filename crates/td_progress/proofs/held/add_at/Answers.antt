use Rattle.std.proofs.Common.{◌+◌, [], unwrap_or, sym, ap, ◌∙◌, subst, arith}
use Rattle.std.specs.List.{IsDistinct}
use Rattle.std.specs.Map.{keys_of}
use Rattle.indexmap.specs.IndexMap.{set_value_at}
use Rattle.td_progress.specs.Gaps.{has_epoch, times_at, timed}
use Rattle.td_progress.specs.Held.{IsPosition}
use Rattle.td_progress.proofs.Same.{same-is_stamp}
use Rattle.td_progress.proofs.HeldSteps.{found_at, set_at, set_timed, nowhere}
use Rattle.td_progress.proofs.held.add_at.Goals as goal

pub add-requires-clause-there : goal.add-requires-clause-there
add-requires-clause-there c =
    let es = c.args.chains.now.entries in
    let k = c.args.class.now in
    let pos = subst (IsPosition k es) c.in-Some.is c.requires.position in
    let once = subst (λ eq. IsDistinct eq (keys_of es)) same-is_stamp c.in-Some-get_index_mut.ensures.unique in
    ap (λ o. has_epoch c.args.epoch (unwrap_or o [])) (c.in-Some-get_index_mut.ensures.value ∙ sym (found_at k es c.in-Some.index once pos)) ∙ c.requires.there

pub add-requires-clause-fits : goal.add-requires-clause-fits
add-requires-clause-fits c =
    let es = c.args.chains.now.entries in
    let k = c.args.class.now in
    let pos = subst (IsPosition k es) c.in-Some.is c.requires.position in
    let once = subst (λ eq. IsDistinct eq (keys_of es)) same-is_stamp c.in-Some-get_index_mut.ensures.unique in
    let same = ap (λ o. times_at c.args.epoch (unwrap_or o [])) (c.in-Some-get_index_mut.ensures.value ∙ sym (found_at k es c.in-Some.index once pos)) in
    omega (arith, same, c.requires.fits)

pub returns-in-Some-get_index_mut : goal.returns-in-Some-get_index_mut
returns-in-Some-get_index_mut c =
    let es = c.args.chains.now.entries in
    let k = c.args.class.now in
    let chain = c.in-Some-get_index_mut.chain.now in
    let pos = subst (IsPosition k es) c.in-Some.is c.requires.position in
    let once = subst (λ eq. IsDistinct eq (keys_of es)) same-is_stamp c.in-Some-get_index_mut.ensures.unique in
    ap (set_value_at es c.in-Some.index) c.add.ensures
    ∙ (set_at k es c.in-Some.index (timed c.args.epoch (λ n. n + c.args.times) chain) once pos
    ∙ set_timed k c.args.epoch (λ n. n + c.args.times) es chain (c.in-Some-get_index_mut.ensures.value ∙ sym (found_at k es c.in-Some.index once pos)))

pub returns-in_default-get_index_mut : goal.returns-in_default-get_index_mut
returns-in_default-get_index_mut c =
    let es = c.args.chains.now.entries in
    let k = c.args.class.now in
    absurd (nowhere k es c.in-Some.index (subst (IsPosition k es) c.in-Some.is c.requires.position) c.in_default-get_index_mut.ensures.value)
