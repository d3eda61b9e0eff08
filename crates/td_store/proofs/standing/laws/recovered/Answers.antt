use Rattle.std.proofs.Common.{sym, subst}
use Rattle.td_store.specs.standing.Tells.{Tells}
use Rattle.td_store.proofs.standing.laws.recovered.Goals as goal

pub returns : goal.returns
returns g c plan head side s d durable tells f image = subst (Tells plan head side s) (sym (durable f image)) tells
