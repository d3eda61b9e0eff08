use Rattle.std.proofs.Common.{◌∙◌, subst}
use Rattle.std.specs.List.{IsDistinct}
use Rattle.std.specs.Map.{keys_of}
use Rattle.indexmap.specs.IndexMap.{insert_entry}
use Rattle.td_progress.specs.Gaps.{Mark, with_epoch}
use Rattle.td_progress.specs.Held.{IsPosition}
use Rattle.td_progress.proofs.Same.{same-is_stamp}
use Rattle.td_progress.proofs.HeldSteps.{insert_new, none_at}
use Rattle.td_progress.proofs.held.put.Goals as goal

pub returns-clause-ok : goal.returns-clause-ok
returns-clause-ok c =
    let es = c.args.chains.now.entries in
    let k = c.args.class.now in
    let e = c.args.epoch in
    let m : Mark = record { gap = c.args.gap; times = c.args.times } in
    let made = c.in_ok-put.ensures.ok ∙ (λ i. with_epoch e (record { gap = c.args.gap; times = c.from.ensures i }) (c.new-chain.ensures i)) in
    c.in_ok-insert.ensures.entries
    ∙ ((λ i. insert_entry (same-is_stamp i) es (c.copy.ensures i) (made i)) ∙ insert_new k e m es (none_at k es (subst (IsPosition k es) c.in_default.is c.requires.position)))

pub returns-clause-once : goal.returns-clause-once
returns-clause-once c = subst (λ eq. IsDistinct eq (keys_of c.insert.new.self.entries)) same-is_stamp c.in_ok-insert.ensures.unique
