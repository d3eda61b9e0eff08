use Rattle.td_store.proofs.standing.Inputs.{accepted}
use Rattle.td_store.proofs.standing.laws.inputs_are_accepted.Goals as goal

pub returns : goal.returns
returns c plan batch lawful = accepted plan (λ v p at. (c.look_ups.ensures.vertices plan v p lawful at).number) batch
