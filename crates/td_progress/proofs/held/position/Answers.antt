use Rattle.std.proofs.Common.{◌∙◌, is_some, position, ap}
use Rattle.std.specs.Map.{keys_of, lookup}
use Rattle.td_progress.proofs.Same.{same-is_stamp}
use Rattle.td_progress.proofs.HeldSteps.{position_is}
use Rattle.td_progress.proofs.held.position.Goals as goal

pub returns-in_default : goal.returns-in_default
returns-in_default c =
    let es = c.args.chains.now.entries in
    let k = c.args.class.now in
    position_is k es c.get_index_of.result (c.get_index_of.ensures.index ∙ ap (λ eq. position (eq k) (keys_of es)) same-is_stamp) (c.get_index_of.ensures.found ∙ ap (λ eq. is_some (lookup (eq k) es)) same-is_stamp)
