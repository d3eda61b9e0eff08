use Rattle.std.proofs.Common.{◌∙◌, ap, sym, position}
use Rattle.std.specs.Ordering.{is_eq}
use Rattle.td_shard.specs.Versions.{version_cmp}
use Rattle.td_shard.proofs.KeptVersions.{taken_somewhere, taken_nowhere}
use Rattle.td_shard.proofs.versions.take_out.Goals as goal
use Rattle.td_shard.proofs.versions.take_out.Goals.{in-Some, in_default}

pub returns-clause-left : goal.returns-clause-left
returns-clause-left c =
    let vs = c.args.versions.now.items in
    let found = c.place_of.ensures ∙ ap (position (λ k. is_eq (version_cmp c.args.version k))) c.as_slice.ensures.value in
    elim c.match-place_of.branch [
      | in-Some w ↦ ap (λ m. m.items) w.versions-is ∙ (w.remove.ensures.items ∙ taken_somewhere c.args.version vs w.in-Some.place (sym found ∙ w.in-Some.is))
      | in_default w ↦ ap (λ m. m.items) w.versions-is ∙ taken_nowhere c.args.version vs (sym found ∙ w.in_default.is)
    ]
