use Rattle.td_keeper.proofs.Acknowledged.{driven_acknowledges}
use Rattle.td_keeper.proofs.laws.driven_acknowledges.Goals as goal

pub returns : goal.returns
returns g c commands replies old new kept driven =
    let join = c.advances_join.ensures in
    driven_acknowledges g.D.Disk.view g.L.Law.answers join.submitted join.cut join.last c.advance_stands.ensures.each c.standings_advance.ensures.not_yet
    commands replies old new kept driven
