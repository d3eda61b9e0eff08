use Rattle.td_task.proofs.Sends.{map_sends}
use Rattle.td_task.proofs.laws.a_map_sends.Goals as goal

pub returns : goal.returns
returns g c task code port recs kept e f = map_sends g.L.Law.answers task.kind task.content code port recs kept e f
