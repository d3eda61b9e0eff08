use Rattle.td_store.specs.standing.Told.{folds_of}
use Rattle.td_states.proofs.Spelling.{spells_itself}
use Rattle.td_states.proofs.laws.states_are_spelled.Goals as goal

pub returns : goal.returns
returns c plan at may last fits = spells_itself (folds_of plan) at may.states may.small may.slot last fits
