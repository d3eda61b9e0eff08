use Rattle.std.proofs.Common.{◌∙◌, ap, sym}
use Rattle.std.specs.Bool.{then_some}
use Rattle.std.specs.Ordering.{is_eq}
use Rattle.td_shard.proofs.VersionOrder.{stands-nowhere, stands-there}
use Rattle.td_shard.proofs.versions.place_of.Goals as goal

pub returns-in_err-kept : goal.returns-in_err-kept
returns-in_err-kept c =
    c.from_residual.ensures ∙ sym (stands-nowhere c.args.version c.args.versions.now c.place_for-place.result c.requires c.place_for-place.ensures.place c.in_err-kept.ensures.lookup.3)

pub returns : goal.returns
returns c =
    let place = c.place_for-place.result in
    let found = c.in_ok-kept.ensures.lookup in
    c.then_some.ensures
    ∙ (ap (λ b. then_some b place) (c.is_eq.ensures ∙ ap is_eq c.total_cmp.ensures)
    ∙ stands-there c.args.version c.in_ok-kept.kept.now c.args.versions.now place c.requires c.place_for-place.ensures.place found.3.0 found.1)
