use Rattle.std.proofs.Common.{sym, append-nil}
use Rattle.td_states.proofs.laws.loaded_stands.Goals as goal

pub returns : goal.returns
returns c run s history stands = record { before = stands.before; epochs = stands.epochs; states = stands.states; last = stands.last; whole = sym (append-nil stands.before) }
