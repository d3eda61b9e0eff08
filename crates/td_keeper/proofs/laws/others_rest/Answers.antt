use Rattle.td_keeper.proofs.Driving.{rests}
use Rattle.td_keeper.proofs.laws.others_rest.Goals as goal

pub returns : goal.returns
returns g c command reply old new quiet obeys = rests g.D.Disk.view g.L.Law.answers command reply old new quiet obeys
