use Rattle.td_keeper.proofs.Driving.{driven_advances}
use Rattle.td_keeper.proofs.laws.driven_advances.Goals as goal

pub returns : goal.returns
returns g c commands replies old new kept lawful whole driven =
    let join = c.advances_join.ensures in
    driven_advances g.D.Disk.view g.L.Law.answers join.submitted join.cut join.later join.last commands replies old new kept driven lawful whole
