-- What of a hall its tasks leave as it is.
use Rattle.std.specs.Prelude.{◌≡◌}
use Rattle.td_machine.specs.State.{HallState}

-- THE HALL STANDS AS IT DID: nothing was released, collected, cut or closed since. Tasks may have been taken and given
pub record StandsAs (S T : HallState) : Type 0 where
  pub plan : T.plan ≡ S.plan
  pub base : T.base ≡ S.base
  pub base_states : T.base_states ≡ S.base_states
  pub batches : T.batches ≡ S.batches
  pub closed : T.closed ≡ S.closed
  pub collected : T.collected ≡ S.collected
